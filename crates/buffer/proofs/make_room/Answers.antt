-- `make_room` meets its contract: the zeros stand right behind what slid (`put_right`), and where nothing is freed there are none.
use mathlib.Core.Path.{◌≡◌, ◌∙◌}
use Prim.Native.Nat.{◌+◌, ◌-◌}
use native.Mathlib.Omega.{arith}
use lib.ListN.{length, take, drop, replicate, length-take, length-drop}
use Rattle.buffer.proofs.Laws.{put_right}
use Rattle.buffer.proofs.make_room.Goals as goal

pub returns-then-new-old : goal.returns-then-new-old
returns-then-new-old c =
    let a = c.args in
    let l = a.buf.now in
    let tail = a.len - (a.at + a.old) in
    let moved = take tail (drop (a.at + a.old) l) in
    let n : length moved ≡ tail = simp (length-take, length-drop) (omega arith) in
    c.clear.ensures
    ∙ put_right l (a.at + a.new) moved (replicate (a.old - a.new) 0) _ (a.at + a.new + tail) c.slide.ensures (omega arith) (omega arith)

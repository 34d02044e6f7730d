-- `clear` meets its contract: the part that was filled is as long as what stands there now.
use Prim.Native.Nat.{ℕ}
use mathlib.Core.Path.{◌∙◌, ap}
use native.Mathlib.Omega.{arith}
use lib.ListN.{replicate, length-replicate, length-take, length-drop}
use Rattle.buffer.proofs.Moves.{put_mid-put}
use Rattle.buffer.proofs.clear.Goals as goal

pub returns : goal.returns
returns c =
    let a = c.args in
    let n = length-replicate {A = ℕ} a.n 0 in
    put_mid-put a.buf.now (replicate a.n 0) _ a.at _ (c.fill.ensures.after (λ y h. h) ∙ ap (λ (k : ℕ). replicate k 0) (simp (length-take, length-drop) (omega arith))) (omega arith)

-- `copy_run` meets its contract: each turn writes a line more, and the rest follows.
use mathlib.Core.Path.{◌≡◌, refl, sym}
use Prim.Native.Nat.{◌+◌, ◌-◌}
use native.Mathlib.Omega.{arith}
use Rattle.buffer.proofs.Laws.{put_nil}
use Rattle.gather_row.proofs.Places.{run_next}
use Rattle.gather_row.proofs.copy_run.Goals as goal

pub loop-done-init : goal.loop-done-init
loop-done-init c =
    let a = c.args in
    (sym (put_nil a.out.now a.at), omega arith, refl)

pub loop-done-preserved : goal.loop-done-preserved
loop-done-preserved c =
    let v = c.loop-done in
    let a = c.args in
    let call = c.copy_voxel.ensures in
    let more = run_next a.src.now a.out.now v.out _ a.at a.from v.done 64 (omega arith) (omega arith) v.invariant.0 call in
    (more, omega arith, omega (arith, v.invariant.2))

pub returns : goal.returns
returns c =
    let v = c.loop-done in
    let a = c.args in
    let m = a.from + a.n - (a.from + v.done) in
    let all : v.done + m ≡ a.n = omega (arith, v.invariant.1) in
    let call = c.copy_in.ensures in
    rw all at (run_next a.src.now a.out.now v.out _ a.at a.from v.done m (omega arith) (omega arith) v.invariant.0 call)

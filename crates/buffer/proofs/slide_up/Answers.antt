-- `slide_up` meets its contract: what was to slide in all is what is left to slide, since a slide upwards is one of its last block and
-- then one of the others (`up_in_two`).
use mathlib.Core.Path.{◌∙◌}
use Prim.Native.Nat.{◌-◌}
use native.Mathlib.Omega.{arith}
use Rattle.buffer.proofs.Moves.{up_in_two}
use Rattle.buffer.proofs.slide_up.Goals as goal

pub loop-left-preserved : goal.loop-left-preserved
loop-left-preserved c =
    let v = c.loop-left in
    let a = c.args in
    let moved = c.slide_block in
    let kept = moved.auto.buf in (
      omega arith,
      omega (arith, kept),
      kept ∙ v.invariant.2,
      v.invariant.3
          ∙ up_in_two v.buf _ a.from a.to v.left (v.left - 16384) 16384 (omega arith) (omega arith) (omega arith) moved.ensures,
    )

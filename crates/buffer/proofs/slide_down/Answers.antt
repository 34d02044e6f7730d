-- `slide_down` meets its contract: what was to slide in all is what is left to slide, since a slide downwards is one of its first block
-- and then one of the others (`down_in_two`).
use mathlib.Core.Path.{◌∙◌}
use Prim.Native.Nat.{◌-◌}
use native.Mathlib.Omega.{arith}
use Rattle.buffer.proofs.Moves.{down_in_two}
use Rattle.buffer.proofs.slide_down.Goals as goal

pub loop-left-preserved : goal.loop-left-preserved
loop-left-preserved c =
    let v = c.loop-left in
    let moved = c.slide_block in
    let kept = moved.auto.buf in (
      omega arith,
      omega (arith, kept),
      kept ∙ v.invariant.2,
      v.invariant.3
          ∙ down_in_two v.buf _ v.source v.target v.left 16384 (v.left - 16384) (omega arith) (omega arith) (omega arith) moved.ensures,
    )

-- `put_number` meets its contract: the byte behind the number is stored first, and then the digits from the last one on.
use mathlib.Core.Path.{◌∙◌}
use native.Mathlib.Omega.{arith}
use lib.ListN.{length-set}
use Rattle.decimal.proofs.Writing.{written_none, written_more, written_next, written_whole, written_after}
use Rattle.decimal.proofs.put_number.Goals as goal

pub loop-rest-init : goal.loop-rest-init
loop-rest-init c = written_none _ _ _ _ (omega arith) (simp length-set (omega arith))

pub overflow_sub-i : goal.overflow_sub-i
overflow_sub-i c = omega (arith, written_more _ _ _ _ _ _ c.loop-rest.invariant)

pub loop-rest-preserved : goal.loop-rest-preserved
loop-rest-preserved c = written_next _ _ _ _ _ _ c.loop-rest.invariant _ (omega arith) (omega (arith, written_more _ _ _ _ _ _ c.loop-rest.invariant))

pub returns : goal.returns
returns c =
    let a = c.args in
    let e = c.width.ensures.0 in
    (omega (arith, e), written_whole _ _ _ _ _ _ c.loop-rest.invariant (omega arith) ∙ written_after a.out.now a.at a.n _ a.after (omega (arith, e)) (omega (arith, e)))

-- `parity_order` meets its contract: the o of either half has the rank.
use Rattle.std.proofs.Common.{rules}
use Rattle.slice_order.proofs.Inverse.{among_firsts, behind_firsts}
use Rattle.slice_order.proofs.parity_order.Goals as goal

pub returns-then-r-firsts : goal.returns-then-r-firsts
returns-then-r-firsts c = among_firsts _ _ _ (search rules) c.if-r-firsts.true

pub returns-else-r-firsts : goal.returns-else-r-firsts
returns-else-r-firsts c = behind_firsts _ _ _ (search rules) (search rules) c.if-r-firsts.false

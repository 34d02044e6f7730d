-- `kept` meets its contract: the test is that of `kept_of`.
use native.Mathlib.Omega.{arith}
use borrow.Author.Tests.{eq-eqb, ne_eqb}
use Rattle.listing.proofs.kept.Goals as goal

pub returns-then-number-wanted : goal.returns-then-number-wanted
returns-then-number-wanted c = let a = c.args in rw (eq-eqb a.number a.wanted (omega arith))

pub returns-else-number-wanted : goal.returns-else-number-wanted
returns-else-number-wanted c = let a = c.args in rw (ne_eqb a.number a.wanted (omega arith))

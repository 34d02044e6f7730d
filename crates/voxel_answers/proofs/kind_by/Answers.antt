-- `kind_by` meets its contract: a single file where `pair` is 0, else a pair.
use borrow.Author.Tests.{eq-eqb, ne_eqb}
use Rattle.voxel_answers.proofs.kind_by.Goals as goal

pub returns-then-pair-eq0 : goal.returns-then-pair-eq0
returns-then-pair-eq0 c = rw (eq-eqb c.args.pair 0 c.if-pair-eq0.true)

pub returns-else-pair-eq0 : goal.returns-else-pair-eq0
returns-else-pair-eq0 c = rw (ne_eqb c.args.pair 0 c.if-pair-eq0.false)

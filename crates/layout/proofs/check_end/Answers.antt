-- `check_end` meets its contract: rule 11, then rule 12.
use mathlib.Core.Path.{sym, ◌∙◌}
use Rattle.refusal.specs.Table.{verdict}
use Rattle.layout.proofs.check_end.Goals as goal

pub returns-then-cut_short : goal.returns-then-cut_short
unfolding verdict
returns-then-cut_short c = rw (sym c.cut_short.ensures ∙ c.if-cut_short.true, c.at.ensures)

pub returns-then-cut_extender : goal.returns-then-cut_extender
unfolding verdict
returns-then-cut_extender c =
    simp (sym c.cut_short.ensures ∙ c.if-cut_short.false, sym c.cut_extender.ensures ∙ c.if-cut_extender.true, c.at-then-cut_extender.ensures)

pub returns : goal.returns
unfolding verdict
returns c =
    simp (sym c.cut_short.ensures ∙ c.if-cut_short.false, sym c.cut_extender.ensures ∙ c.if-cut_extender.false)

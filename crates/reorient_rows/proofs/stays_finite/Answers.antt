-- `stays_finite` meets its contract: of a row that holds a number which is not finite, so does the new row.
use mathlib.Core.Path.{sym, ap, ◌∙◌}
use Rattle.reorient_rows.specs.Rows.{are_finite, finite_after}
use Rattle.reorient_rows.proofs.Laws.{never_finite}
use Rattle.reorient_rows.proofs.stays_finite.Goals as goal

pub returns-then-row_is_finite : goal.returns-then-row_is_finite
unfolding finite_after
returns-then-row_is_finite c = c.are_finite.ensures ∙ ap are_finite c.numbers_of.ensures

pub returns-else-row_is_finite : goal.returns-else-row_is_finite
returns-else-row_is_finite c = c.if-row_is_finite.false ∙ sym (never_finite _ _ _ _ _ c.requires (sym c.row_is_finite.ensures ∙ c.if-row_is_finite.false))

-- `row_is_finite` meets its contract: the four tests that it joins are those of the definition.
use mathlib.Core.Bool.{◌&&◌}
use Rattle.affine.specs.Method.{finite_row}
use Rattle.affine.proofs.row_is_finite.Goals as goal

pub returns : goal.returns
unfolding finite_row
returns c =
    λ i.
    c.is_finite_pattern.ensures i
    && c.is_finite_pattern-2.ensures i
    && c.is_finite_pattern-3.ensures i
    && c.is_finite_pattern-4.ensures i

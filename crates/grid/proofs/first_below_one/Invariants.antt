-- `grid::first_below_one` meets its contract: none of dim[1] to dim[i] is below 1, and the first that is stays the first.
use mathlib.Core.Path.{◌≡◌}
use Rattle.grid.specs.Axes.{first_below}
use Rattle.grid.proofs.first_below_one.Given as goal

abbrev pub invariant-loop-i : goal.invariant-loop-i
invariant-loop-i l = first_below l.dim l.i ≡ 0

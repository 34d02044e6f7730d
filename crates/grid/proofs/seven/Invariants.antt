-- `grid::seven` meets its contract: after k turns the array has the lengths of dim[1] to dim[k], and 1 past them.
use mathlib.Core.Path.{◌≡◌}
use Rattle.grid.specs.Axes.{seven_axes}
use Rattle.grid.proofs.seven.Given as goal

abbrev pub invariant-loop-k : goal.invariant-loop-k
invariant-loop-k l = l.lengths ≡ seven_axes l.dim l.k

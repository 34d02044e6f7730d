-- `grid::image_bytes` meets its contract: the product is, capped, what dim[1] to dim[axis] give; it is capped before the next one,
-- which so does not wrap.
use mathlib.Core.Path.{◌≡◌}
use Rattle.grid.specs.Axes.{image_bytes, capped}
use Rattle.grid.proofs.image_bytes.Given as goal

abbrev pub invariant-loop-axis : goal.invariant-loop-axis
invariant-loop-axis l = capped l.product ≡ capped (image_bytes l.dim l.axis l.bytes)

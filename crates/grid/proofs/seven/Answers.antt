-- `grid::seven` meets its contract: after k turns the array has the lengths of dim[1] to dim[k], and 1 past them.
use mathlib.Core.Path.{refl}
use native.Mathlib.Omega.{arith}
use native.Mathlib.Numerals.{add-one}
use Rattle.grid.specs.Axes.{axes, seven_axes}
use Rattle.grid.proofs.Axes.{seven_next}
use Rattle.grid.proofs.seven.Goals as goal

pub loop-k-init : goal.loop-k-init
unfolding seven_axes axes
loop-k-init c = refl

pub loop-k-preserved : goal.loop-k-preserved
loop-k-preserved c =
    let a = c.args in
    rw (c.loop-k.invariant, c.axis_length.ensures.0, add-one c.loop-k.k) (seven_next a.dim.now c.loop-k.k (omega arith))

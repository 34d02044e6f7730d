-- `new_axes` meets its contract: the axes of a permutation are 1 to 3, and the last four stay.
use native.Mathlib.Omega.{arith}
use Rattle.reorient.specs.Reorient.{permuted, no_axis}
use Rattle.reorient.proofs.Axes.{last_four}
use Rattle.reorient.proofs.new_axes.Goals as goal

pub returns : goal.returns
unfolding permuted
returns c =
    let a = c.args in
    rw (last_four a.old no_axis (omega arith))

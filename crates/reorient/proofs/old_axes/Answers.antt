-- `old_axes` meets its contract: the axes so far, and those that are left.
use mathlib.Core.Path.{◌≡◌, ap, ◌∙◌}
use Prim.Native.Nat.{◌*◌}
use native.Mathlib.Omega.{arith}
use lib.ListN.{drop, get_or, length-set}
use Rattle.grid.specs.Grid.{voxels}
use Rattle.reorient.specs.Reorient.{reversals, axis_of}
use Rattle.reorient.proofs.Axes.{step_next, axes_next, axes_done}
use Rattle.reorient.proofs.old_axes.Goals as goal

pub overflow_mul-step : goal.overflow_mul-step
overflow_mul-step c =
    let v = c.loop-k in
    let a = c.args in
    let next = step_next v.step a.lengths v.k (a.b * voxels a.lengths) (omega arith) v.invariant.1 v.invariant.2 in
    omega (arith, next.small)

pub loop-k-preserved : goal.loop-k-preserved
loop-k-preserved c =
    let v = c.loop-k in
    let a = c.args in
    let next = step_next v.step a.lengths v.k (a.b * voxels a.lengths) (omega arith) v.invariant.1 v.invariant.2 in
    let made = c.axis_of.ensures ∙ ap (axis_of (get_or a.lengths v.k 0) v.step) c.reversed_at.ensures in (
      simp length-set v.invariant.0,
      next.left,
      next.some,
      axes_next v.axes _ _ v.step (reversals a.t) a.lengths v.k (omega arith) (omega arith) made v.invariant.3,
    )

pub returns : goal.returns
returns c =
    let v = c.loop-k in
    let a = c.args in
    let end : v.k ≡ 7 = omega arith in
    axes_done v.axes _ v.step (drop v.k (reversals a.t)) a.lengths v.k end v.invariant.0 (omega arith) v.invariant.3

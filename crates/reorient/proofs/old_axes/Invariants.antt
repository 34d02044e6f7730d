-- `old_axes` meets its contract: the axes so far, and those that are left.
use mathlib.Core.Path.{◌≡◌}
use mathlib.Core.List.{◌++◌}
use Prim.Native.Nat.{◌*◌, ◌<◌}
use lib.ListN.{length, take, drop}
use Rattle.grid.specs.Grid.{voxels}
use Rattle.reorient.specs.Reorient.{reversals, old_axes}
use Rattle.reorient.proofs.old_axes.Given as goal

abbrev pub invariant-loop-k : goal.invariant-loop-k
invariant-loop-k l =
    (length l.axes ≡ 7)
    × (l.step * voxels (drop l.k l.lengths) ≡ l.b * voxels l.lengths)
    × (0 < voxels (drop l.k l.lengths))
    × (old_axes l.b (reversals l.t) l.lengths ≡ take l.k l.axes ++ old_axes l.step (drop l.k (reversals l.t)) (drop l.k l.lengths))

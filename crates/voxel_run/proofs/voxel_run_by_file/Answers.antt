-- `voxel_run_by_file` meets its contract: after k turns the greatest is that of the first k voxels.
use mathlib.Core.Path.{sym}
use Rattle.voxel_run.proofs.Farthest.{most_none, most_next}
use Rattle.voxel_run.proofs.voxel_run_by_file.Goals as goal

pub loop-k-init : goal.loop-k-init
loop-k-init c = sym (most_none _)

pub loop-k-preserved : goal.loop-k-preserved
loop-k-preserved c =
    most_next _ c.loop-k.k c.loop-k.invariant c.locate-located.ensures c.place_of.ensures c.max-most.ensures

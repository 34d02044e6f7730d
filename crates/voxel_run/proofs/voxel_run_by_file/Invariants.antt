-- `voxel_run_by_file` meets its contract: after k turns the greatest is that of the file's first k voxels.
use mathlib.Core.Path.{◌≡◌}
use Rattle.voxel_run.specs.Farthest.{farthest}
use Rattle.voxel_run.proofs.voxel_run_by_file.Given as goal

abbrev pub invariant-loop-k : goal.invariant-loop-k
invariant-loop-k l = l.most ≡ farthest l.file l.k

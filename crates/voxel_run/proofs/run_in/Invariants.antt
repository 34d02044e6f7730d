-- `run_in` meets its contract: after k turns the greatest is that of the record's first k voxels.
use mathlib.Core.Path.{◌≡◌}
use Rattle.voxel_run.specs.Farthest.{farthest_in}
use Rattle.voxel_run.proofs.run_in.Given as goal

abbrev pub invariant-loop-k : goal.invariant-loop-k
invariant-loop-k l = l.most ≡ farthest_in l.header l.k

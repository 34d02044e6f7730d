-- `Voxels::copy` meets its contract: after k turns the first k voxels stand in the buffer.
use mathlib.Core.Path.{◌≡◌}
use Rattle.gather_row.proofs.Progress.{Progress}
use Rattle.voxel.specs.Steps.{stepped_by}
use Rattle.by_file.specs.Files.{part_of}
use Rattle.line_plan.specs.Line.{with_number, count_along}
use Rattle.line_copy.proofs.VoxelsEngine.copy.Given as goal

abbrev pub invariant-loop-k : goal.invariant-loop-k
invariant-loop-k l =
    (l.count ≡ count_along l.v.dim l.axis) × Progress l.initial.out 0 (λ i. part_of (stepped_by l.v l.image (with_number l.axis l.index i)) l.src) l.count l.out l.to l.k

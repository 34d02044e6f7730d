-- `voxel_run_by_record` meets its contract: a refused file has no voxel, and of an accepted one the record is asked.
use mathlib.Core.Path.{sym, ◌∙◌}
use Rattle.voxel_run.proofs.Farthest.{farthest_refused, farthest_accepted}
use Rattle.voxel_run.proofs.voxel_run_by_record.Goals as goal

pub returns-in-Err : goal.returns-in-Err
returns-in-Err c =
    let a = c.args in
    sym (farthest_refused a.file.now a.count c.in-Err.field-0 (rw c.read-reading.ensures at c.in-Err.is))

pub returns-in-Ok : goal.returns-in-Ok
returns-in-Ok c =
    let a = c.args in
    (rw c.read-reading.ensures at c.run_in.ensures)
    ∙ sym (farthest_accepted a.file.now a.count (rw c.read-reading.ensures at c.in-Ok.is))

-- `run` meets its contract: of a refused file nothing is drawn, and of an accepted one by its record.
use Rattle.line_run.proofs.run.Goals as goal

pub returns-in-Err : goal.returns-in-Err
returns-in-Err g c =
    let e = rw c.read-reading.ensures at c.in-Err.is in
    (rw e, rw e)

pub returns-in-Ok : goal.returns-in-Ok
returns-in-Ok g c =
    let e = rw c.read-reading.ensures at c.in-Ok.is in
    let d = rw c.read-reading.ensures at c.run_in.ensures in
    (rw e d.0, rw e d.1)

-- `line_in` meets its contract: what the offset's decoder answers, by rules 8 and 9, and else the rest.
use mathlib.Core.Path.{sym, ◌∙◌}
use Rattle.line.proofs.Calls.{record_refused, record_copies}
use Rattle.line.proofs.line_in.Goals as goal

pub returns-in-Err : goal.returns-in-Err
returns-in-Err g c =
    let a = c.args in
    rw c.misplaced.ensures (record_refused a.header a.file.now a.image.now a.axis a.index a.out.now c.in-Err.r (sym c.decode.ensures ∙ c.in-Err.is))

pub returns-in-Ok : goal.returns-in-Ok
returns-in-Ok g c =
    let a = c.args in
    record_copies a.header a.file.now a.image.now a.axis a.index a.out.now c.in-Ok.offset (sym c.decode.ensures ∙ c.in-Ok.is) _ _
    (rw c.whole.ensures at c.line_at.ensures)

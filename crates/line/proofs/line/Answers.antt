-- `line` meets its contract: the file's refusal, or the line by what its voxels are located by.
use mathlib.Core.Path.{sym, ◌∙◌}
use Rattle.line.proofs.Calls.{lines_hidden, lines_shown}
use borrow.Author.Rules.{rules}
use Rattle.line.proofs.line.Goals as goal

pub returns-in_err-volume : goal.returns-in_err-volume
returns-in_err-volume g c =
    let a = c.args in
    let h = lines_hidden a.file.now a.image.now a.axis a.index a.out.now c.in_err-volume.field-0.0 (sym c.volume.ensures ∙ c.in_err-volume.was) in
    (rw (← h.0) (search rules), h.1)

pub returns : goal.returns
returns g c =
    let a = c.args in
    lines_shown a.file.now a.image.now a.axis a.index a.out.now c.in_ok-volume.volume (sym c.volume.ensures ∙ c.in_ok-volume.was) _ _ c.line_at.ensures

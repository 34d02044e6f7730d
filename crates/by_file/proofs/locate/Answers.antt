-- `locate` meets its contract: a file's refusal, and else the answer by what its voxels are located by.
use mathlib.Core.Path.{sym, ◌∙◌}
use Rattle.by_file.proofs.Shown.{passes, located_is, unlocated}
use borrow.Author.Rules.{rules}
use Rattle.by_file.proofs.locate.Goals as goal

pub returns-in_err-volume : goal.returns-in_err-volume
returns-in_err-volume c =
    let a = c.args in
    rw (← unlocated a.file.now a.image.now a.index c.in_err-volume.field-0.0 (sym c.volume.ensures ∙ c.in_err-volume.was)) (search rules)

pub locate_by-requires : goal.locate_by-requires
locate_by-requires c =
    let a = c.args in
    passes a.file.now a.image.now a.index c.in_ok-volume.field-0 (sym c.volume.ensures ∙ c.in_ok-volume.was)

pub returns : goal.returns
returns c =
    let a = c.args in
    c.locate_by.ensures ∙ located_is a.file.now a.image.now a.index c.in_ok-volume.field-0 (sym c.volume.ensures ∙ c.in_ok-volume.was)

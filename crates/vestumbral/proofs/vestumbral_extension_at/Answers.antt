-- `vestumbral_extension_at` meets its contract: a refused file's outline is hidden, and an accepted one's shows the answer.
use mathlib.Core.Path.{sym, ◌∙◌}
use Rattle.answers.proofs.Shown.{hidden_extension, shown_extension_lem}
use Rattle.vestumbral.proofs.vestumbral_extension_at.Goals as goal

pub returns-in-Err : goal.returns-in-Err
returns-in-Err c =
    let a = c.args in
    c.into.ensures
    ∙ hidden_extension a.file.now a.number c.in-Err.r (sym c.outline_of.ensures ∙ c.in-Err.is)

pub returns-in-Ok : goal.returns-in-Ok
returns-in-Ok c =
    let a = c.args in
    c.shown_extension.ensures
    ∙ shown_extension_lem a.file.now a.number c.in-Ok.o (sym c.outline_of.ensures ∙ c.in-Ok.is)

-- `vestumbral_read` meets its contract: a refused file's outline is hidden, and an accepted one's shows the answer.
use mathlib.Core.Path.{sym, ◌∙◌}
use Rattle.answers.proofs.Shown.{hidden_file}
use Rattle.vestumbral.proofs.vestumbral_read.Goals as goal

pub shown_file-requires : goal.shown_file-requires
shown_file-requires c = sym c.outline_of.ensures ∙ c.in-Ok.is

pub returns-in-Err : goal.returns-in-Err
returns-in-Err c =
    let a = c.args in
    c.into.ensures
    ∙ hidden_file a.file.now 0 c.in-Err.r (sym c.outline_of.ensures ∙ c.in-Err.is)

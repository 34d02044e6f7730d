-- `vestumbral_remove` meets its contract, which is that of `remove`.
use mathlib.Core.Path.{ap, ◌∙◌}
use Rattle.answers.specs.Answers.{edit_reply}
use Rattle.vestumbral.proofs.vestumbral_remove.Goals as goal

pub returns : goal.returns
returns c =
    record { answer = c.into.ensures ∙ ap edit_reply c.remove.ensures.answer; content = c.remove.ensures.content }

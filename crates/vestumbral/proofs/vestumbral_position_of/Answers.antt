-- `vestumbral_position_of` meets its contract, which is that of `position_of`.
use mathlib.Core.Path.{ap, ◌∙◌}
use Rattle.answers.specs.Answers.{position_answer}
use Rattle.vestumbral.proofs.vestumbral_position_of.Goals as goal

pub returns : goal.returns
returns c = c.into.ensures ∙ ap position_answer c.position_of.ensures

-- `vestumbral_slice_of_rank` meets its contract, which is that of `slice_of_rank`.
use mathlib.Core.Path.{ap, ◌∙◌}
use Rattle.answers.specs.Answers.{ranked_answer}
use Rattle.vestumbral.proofs.vestumbral_slice_of_rank.Goals as goal

pub returns : goal.returns
returns c = c.into.ensures ∙ ap ranked_answer c.slice_of_rank.ensures

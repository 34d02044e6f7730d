-- `vestumbral_slice_at` meets its contract, which is that of `slice_at`.
use mathlib.Core.Path.{ap, ◌∙◌}
use Rattle.answers.specs.Answers.{slice_answer}
use Rattle.vestumbral.proofs.vestumbral_slice_at.Goals as goal

pub returns : goal.returns
returns c = c.into.ensures ∙ ap slice_answer c.slice_at.ensures

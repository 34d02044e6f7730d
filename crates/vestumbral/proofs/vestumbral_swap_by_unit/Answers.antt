-- `vestumbral_swap_by_unit` meets its contract, which is that of `swap::<Singly>`.
use mathlib.Core.Path.{ap, ◌∙◌}
use Rattle.answers.specs.Answers.{swap_reply}
use Rattle.vestumbral.proofs.vestumbral_swap_by_unit.Goals as goal

pub returns : goal.returns
returns c =
    (c.into.ensures ∙ ap swap_reply c.swap.ensures.0, c.swap.ensures.1, c.swap.ensures.2)

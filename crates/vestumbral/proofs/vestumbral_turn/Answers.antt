-- `vestumbral_turn` meets its contract, which is that of `turn`.
use mathlib.Core.Path.{ap, ◌∙◌}
use Rattle.turn_answers.specs.Answers.{turned_answer}
use Rattle.vestumbral.proofs.vestumbral_turn.Goals as goal

pub returns : goal.returns
returns c =
    let made = rw c.turn_of-t.ensures at c.turn.ensures in
    record { answer = c.into.ensures ∙ ap turned_answer made.0; content = made.1; image = made.2 }

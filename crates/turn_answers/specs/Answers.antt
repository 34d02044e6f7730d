-- The numbers of the C interface for a turn: how six numbers name one, and the struct that is answered. Refusal 0 stands for success, and
-- beside a refusal both lengths are 0.
use Rattle.refusal.specs.Table.{number_of}
use Rattle.refusal.specs.declared.Refusal.{Refusal}
use Rattle.turn.specs.declared.Lengths.{Lengths}
use Rattle.std.specs.Prelude.{ℕ, not, eqb, Ok, Err, Result}
use Rattle.reorient.specs.declared.Turn.{Turn}
use Rattle.turn_answers.specs.declared.TurnedAnswer.{TurnedAnswer}

-- the old axis that each of the new axes 1 to 3 shows, and for each of the old axes 1 to 3 a number that is not 0 where it is reversed
abbrev pub turn_of : ℕ → ℕ → ℕ → ℕ → ℕ → ℕ → Turn
turn_of a b c p q r =
    record {
      axis1 = a;
      axis2 = b;
      axis3 = c;
      reversed1 = not (eqb p 0);
      reversed2 = not (eqb q 0);
      reversed3 = not (eqb r 0);
    }

abbrev pub turned_answer : Result Lengths Refusal → TurnedAnswer
turned_answer (Ok n) = record { refusal = 0; place = 0; length = n.file; image_length = n.image }
turned_answer (Err r) = record { refusal = number_of r.rule; place = r.place; length = 0; image_length = 0 }

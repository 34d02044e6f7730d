-- The C interface's struct for a piece: the paper's number and place, 0 for success, and the state, in both cases as the piece reader
-- hands it back. What the state answers as a file is a struct of the crate answers.
use Rattle.refusal.specs.Table.{decided, Verdict, number_of}
use Rattle.pieces.specs.declared.Pieces.{Pieces}
use Rattle.pieces.specs.Pieces.{Taken}
use Rattle.piece_answers.specs.declared.TakenAnswer.{TakenAnswer}

abbrev pub answered : Verdict → Pieces → TakenAnswer
answered v s = decided v (record { refusal = 0; place = 0; pieces = s }) (λ r. record { refusal = number_of r.rule; place = r.place; pieces = s })

unfoldable pub taken_answer : Taken → TakenAnswer
taken_answer t = answered t.verdict t.pieces

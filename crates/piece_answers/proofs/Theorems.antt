-- What C is answered of a file that came in pieces is what it is answered of the whole file: the structs of `vestumbral_pieces_file` and
-- `vestumbral_pieces_extension_at` are those of `vestumbral_read` and `vestumbral_extension_at` on the joined bytes.
use Prim.Native.Nat.{ℕ}
use mathlib.Core.Path.{◌≡◌, ap}
use mathlib.Core.List.{List}
use Rattle.field.specs.Numbers.{joined}
use Rattle.reader.specs.Reading.{reading_of}
use Rattle.answers.specs.Answers.{file_answer, extension_answer}
use Rattle.pieces.specs.Pieces.{fresh}
use Rattle.piece_reader.specs.Answer.{answer_of}
use Rattle.pieces.specs.Feeding.{after_all, taken_from}
use Rattle.piece_reader.proofs.Theorems.{pieces_read}

module _ (ps : List (List ℕ)) where
  pub pieces_file : file_answer (answer_of (after_all fresh ps)) ≡ file_answer (reading_of (joined (taken_from 0 ps)))
  pieces_file = ap file_answer (pieces_read ps)

  pub pieces_extension : (number : ℕ)
      → extension_answer (answer_of (after_all fresh ps)) number ≡ extension_answer (reading_of (joined (taken_from 0 ps))) number
  pieces_extension number = ap (λ r. extension_answer r number) (pieces_read ps)

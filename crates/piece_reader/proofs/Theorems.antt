-- The theorems of P1 over the definitions that the promises cite: "However the file is cut, its answer is that of the whole-file reader on
-- the joined bytes, place included. That speaks of states handed back from a fresh start".
use Prim.Native.Nat.{ℕ, ◌≤◌}
use mathlib.Core.Path.{◌≡◌, ap, ◌∙◌}
use mathlib.Core.List.{List}
use native.Mathlib.Omega.{arith}
use lib.ListN.{length}
use Rattle.field.specs.Numbers.{joined}
use Rattle.reader.specs.Reading.{reading_of}
use Rattle.pieces.specs.Pieces.{total_limit, fresh}
use Rattle.pieces.specs.Feeding.{after_all, taken_from}
use Rattle.pieces.proofs.Theorems.{pieces_kept, taken_room, all_taken}
use Rattle.piece_reader.specs.Answer.{answer_of}
use Rattle.piece_reader.proofs.Answers.{answer_kept}

-- every list of pieces: of those that are not refused, joined, the answer is the reader's. Asked mid-way it is that of the bytes so far
pub pieces_read : (ps : List (List ℕ)) → answer_of (after_all fresh ps) ≡ reading_of (joined (taken_from 0 ps))
pieces_read ps = ap (λ s. answer_of s) (pieces_kept ps) ∙ answer_kept (joined (taken_from 0 ps)) (omega (arith, taken_room 0 ps (omega arith)))

pub however_cut : (ps : List (List ℕ)) → length (joined ps) ≤ total_limit → answer_of (after_all fresh ps) ≡ reading_of (joined ps)
however_cut ps h = pieces_read ps ∙ ap (λ qs. reading_of (joined qs)) (all_taken 0 ps (omega arith))

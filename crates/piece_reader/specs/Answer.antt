-- The answer for the bytes so far: rules 1 to 12 by the first 352 bytes and the length, and then what stands where the walk over the
-- extensions has come to, now that the length is known.
use Rattle.refusal.specs.declared.Refusal.{Refusal}
use Rattle.extension.specs.declared.Walker.{Walker}
use Rattle.std.specs.Prelude.{ℕ, min, cond, List, [], take, Ok, Err, Some, None, Result, Option}
use Rattle.extension.specs.declared.Span.{Span}
use Rattle.extension.specs.Walk.{extension_limit, first_place}
use Rattle.extension.specs.Listing.{spans_of}
use Rattle.layout.specs.declared.Layout.{Layout}
use Rattle.layout.specs.File.{has_extensions, checked_in}
use Rattle.reader.specs.declared.Reading.{Reading}
use Rattle.reader.specs.Reading.{accepted_with, refused_with}
use Rattle.piece_walk.specs.declared.Mark.{Mark}
use Rattle.piece_walk.specs.declared.Walk.{Walk}
use Rattle.piece_walk.specs.Marks.{spans_by}
use Rattle.piece_walk.specs.Walking.{step_by, walker_of}
use Rattle.pieces.specs.declared.Pieces.{Pieces}
use Rattle.pieces.specs.Pieces.{end_in}

-- A state from a fresh start never stands before an extension that has come whole, nor has it passed more than the limit. "any other
-- state is yours to answer": it is answered as if it stood at the end, with a count up to the limit.
abbrev pub ended_by : Result (Option (Span × Walker)) Refusal → Reading → Reading
ended_by (Err r) a = refused_with r
ended_by (Ok None) a = a
ended_by (Ok (Some (x, next))) a = a

-- the spans that the first n marks say
abbrev pub spans_in : List Mark → ℕ → List Span
spans_in marks n = spans_of (spans_by first_place (take n marks))

unfoldable pub listed_by : List ℕ → Layout → ℕ → Walk → Reading
listed_by front l taken g =
    cond (has_extensions front)
    (ended_by (step_by (walker_of l.order (end_in l.order front) g) g.coming taken)
    (accepted_with front l (min g.count extension_limit) (spans_in g.marks (min g.count extension_limit))))
    (accepted_with front l 0 (spans_of []))

abbrev pub answer_by : Result Layout Refusal → List ℕ → ℕ → Walk → Reading
answer_by (Err r) front taken g = refused_with r
answer_by (Ok l) front taken g = listed_by front l taken g

unfoldable pub answer_of : Pieces → Reading
answer_of s = answer_by (checked_in s.front s.taken) s.front s.taken s.walk

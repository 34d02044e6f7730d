-- What is kept of the extensions that have come whole: of each its mark, that is its size and its code. The spans follow from them, for
-- each extension starts where the one before it ends.
use Rattle.std.specs.Prelude.{ℕ, ◌+◌, ◌-◌, List, [], ◌∷◌, ◌++◌, pos, length, replicate}
use Rattle.number.specs.Natural.{natural_of}
use Rattle.extension.specs.declared.Span.{Span}
use Rattle.extension.specs.Walk.{extension_limit, span}
use Rattle.piece_walk.specs.declared.Mark.{Mark}

abbrev pub mark_of : Span → Mark
mark_of x = record { size = x.size; code = x.code }

abbrev pub no_mark : Mark
no_mark = record { size = pos 0; code = pos 0 }

abbrev pub marked : List Span → List Mark
marked [] = []
marked (x ∷ xs) = mark_of x ∷ marked xs

-- the marks of a list of spans, with zeros up to the limit
unfoldable pub marks_of : List Span → List Mark
marks_of xs = marked xs ++ replicate (extension_limit - length xs) no_mark

-- the place after extensions that begin at `at`, and their spans
abbrev pub place_by : ℕ → List Mark → ℕ
place_by at [] = at
place_by at (m ∷ ms) = place_by (at + natural_of m.size) ms

abbrev pub spans_by : ℕ → List Mark → List Span
spans_by at [] = []
spans_by at (m ∷ ms) = span at m.size m.code ∷ spans_by (at + natural_of m.size) ms

-- The lines of the slice card that show the acquired slices (02-change-requests.md, P14): "One line for each acquired slice in order of rank,
-- `RANK SLICE`, decimal, every line ended by a line feed". What stands on a line is what P8's call promises to answer of the rank.
use Rattle.refusal.specs.declared.Refusal.{Refusal}
use Rattle.std.specs.Prelude.{ℕ, zero, suc, List, [], ◌∷◌, ◌++◌, Ok, Err, Some, None, Result, Option}
use Rattle.decimal.specs.Decimal.{decimal}
use Rattle.timing.specs.declared.Acquisition.{Acquisition}
use Rattle.slice_rank.specs.Ranked.{ranked_by}

-- "`RANK SLICE`, decimal"
unfoldable pub line : ℕ → ℕ → List ℕ
line rank slice = decimal rank ++ (32 ∷ decimal slice)

-- the line of a rank by what P8's call answers of it: one where that is a slice, else none
abbrev pub line_of : ℕ → Result (Option ℕ) Refusal → List (List ℕ)
line_of rank (Ok (Some s)) = line rank s ∷ []
line_of rank (Ok None) = []
line_of rank (Err r) = []

-- "in order of rank": the lines of the ranks 0 to n - 1
unfoldable pub lines_to : Acquisition → ℕ → List (List ℕ)
lines_to a zero = []
lines_to a (suc n) = lines_to a n ++ line_of n (ranked_by a n)

-- "every line ended by a line feed"
unfoldable pub ended : List (List ℕ) → List ℕ
ended [] = []
ended (l ∷ ls) = l ++ (10 ∷ ended ls)

-- the text of one line, and of the first n ranks
abbrev pub line_text : Acquisition → ℕ → List ℕ
line_text a rank = ended (line_of rank (ranked_by a rank))

abbrev pub lines_text : Acquisition → ℕ → List ℕ
lines_text a n = ended (lines_to a n)

-- The slice card: 02-change-requests.md, P14. What stands on it is said by definitions that the library's calls promise: of reading
-- `reading_of`, of the fields that say how the slices were acquired `acquisition_of`, `is_stated`, `acquired_count`, `slice_count` and `ranked_by`.
use Rattle.refusal.specs.declared.Rule.TheVariants.{ShortBuffer}
use Rattle.refusal.specs.declared.Refusal.{Refusal}
use Rattle.std.specs.Prelude.{ℕ, ◌-◌, cond, List, [], ◌∷◌, ◌++◌, ltb, length, Result}
use Rattle.refusal.specs.Table.{row, verdict, then, Verdict}
use Rattle.buffer.specs.Fill.{filled_by, left_by}
use Rattle.decimal.specs.Decimal.{decimal}
use Rattle.reader.specs.declared.Reading.{Reading}
use Rattle.timing.specs.declared.Acquisition.{Acquisition}
use Rattle.timing.specs.Slices.{is_stated, slice_count, acquisition_of}
use Rattle.slice_rank.specs.Ranked.{acquired_count}
use Rattle.card_lines.specs.Lines.{lines_to, ended}

-- ---- The text

-- "the other slices on that axis"
abbrev pub padded_count : Acquisition → ℕ
padded_count a = slice_count a - acquired_count a

-- "`padded COUNT`"
abbrev pub padded : List ℕ
padded = 112 ∷ 97 ∷ 100 ∷ 100 ∷ 101 ∷ 100 ∷ 32 ∷ []

unfoldable pub padded_line : ℕ → List ℕ
padded_line count = padded ++ decimal count

-- "`no timing`"
abbrev pub no_timing : List ℕ
no_timing = 110 ∷ 111 ∷ 32 ∷ 116 ∷ 105 ∷ 109 ∷ 105 ∷ 110 ∷ 103 ∷ []

-- "One line for each acquired slice in order of rank .. then `padded COUNT` for the other slices on that axis, zero too."
abbrev pub stated_lines : Acquisition → List (List ℕ)
stated_lines a = lines_to a (acquired_count a) ++ (padded_line (padded_count a) ∷ [])

-- "When timing is unstated the card is the one line `no timing`". No time is asked: "an infinite time for a slice doesn't matter to this card".
unfoldable pub card_lines : Acquisition → List (List ℕ)
card_lines a = cond (is_stated a) (stated_lines a) (no_timing ∷ [])

-- "every line ended by a line feed"
abbrev pub card_text : Acquisition → List ℕ
card_text a = ended (card_lines a)

-- ---- Into a buffer: "The card goes into a lent buffer whose other bytes stay."

-- 22, for a buffer of `out` bytes
abbrev pub room_for : List ℕ → ℕ → Verdict
room_for text out = verdict (row ShortBuffer (ltb out (length text)) 0 ∷ [])

-- the card of what reading answered
abbrev pub card_of : Reading → List ℕ
card_of r = card_text (acquisition_of r.header)

-- "Refusals: those of reading, then 22."
abbrev pub card_verdict : Reading → ℕ → Verdict
card_verdict r out = then r.verdict (room_for (card_of r) out)

-- what the call answers, with a buffer of `out` bytes,
unfoldable pub card_answer : Reading → ℕ → Result ℕ Refusal
card_answer r out = filled_by (card_verdict r out) (card_of r)

-- and what it leaves in it
unfoldable pub card_out : Reading → List ℕ → List ℕ
card_out r out = left_by (card_verdict r (length out)) (card_of r) out

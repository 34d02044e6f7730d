-- The reading of a file and its edits by the base's rules of the extender, as they were before P2 (01-scope.md, "Refusal numbers" and
-- "Extensions"): 12 refuses every extender but 0,0,0,0 and 1,0,0,0, only 1,0,0,0 says that there are extensions, and an edit writes all
-- four bytes. All else is the library's own. f is the old file everywhere.
use Rattle.refusal.specs.declared.Rule.TheVariants.{FileCut, ExtenderCut, NoSuchExtension, NegativeCodeOffered, PrivateBytes, ListTooLong, ShortBuffer, LengthAboveBuffer}
use Rattle.std.specs.Prelude.{ℕ, Bool, false, not, cond, ◌&&◌, ◌||◌, List, [], ◌∷◌, ◌++◌, ltb, ℤ, length, take}
use Rattle.field.specs.Numbers.{joined}
use Rattle.refusal.specs.Table.{Row, row, verdict, decided, then, Verdict}
use Rattle.extension.specs.Walk.{first_place, Walked, listed, stopped, extensions_in, rest_of}
use Rattle.extension.specs.Pieces.{pieces}
use Rattle.rules.specs.Rules.{field_rows, image_of, cut_short}
use Rattle.layout.specs.File.{order_of, kind_of, shape_of, head_rows, base_none, base_some, cut_extender, end_of}
use Rattle.reader.specs.declared.Reading.{Reading}
use Rattle.reader.specs.Reading.{reading_by}
use Rattle.change.specs.declared.Change.{Change}
use Rattle.change.specs.declared.Change.TheVariants.{Append, Replace, Remove}
use Rattle.change.specs.Change.{missing_in, offers_negative}
use Rattle.edit_plan.specs.Fresh.{spans_in, tail_of, exchange, out_from, out_to, brought_in, end_for, head_for}
use Rattle.edit_plan.specs.Refusals.{too_much}
use Rattle.edit.specs.Outcome.{Outcome, fresh, refused}

-- ---- Reading

-- whether the base's rule 12 passes an extender
abbrev pub base_extender : List ℕ → Bool
base_extender f = base_none f || base_some f

-- rules 1 to 12. "12 | pair of length 349..351, or the four bytes at 348 are neither 0,0,0,0 nor 1,0,0,0"
abbrev pub base_rows : List ℕ → List Row
base_rows f =
    head_rows f (length f)
    ++ (field_rows (shape_of f) (length f)
    ++ (row FileCut (cut_short (kind_of f) (length f) (image_of (shape_of f))) 108
    ∷ row ExtenderCut (cut_extender (kind_of f) (length f) || not (base_extender f)) 348
    ∷ []))

-- "With a zero extender there are no extensions"
abbrev pub base_walk : List ℕ → Walked
base_walk f = cond (base_some f) (extensions_in (order_of f) (end_of f) f) (listed [])

abbrev pub base_judgement : List ℕ → Walked
base_judgement f = decided (verdict (base_rows f)) (base_walk f) stopped

unfoldable pub base_reading : List ℕ → Reading
base_reading f = reading_by f (base_judgement f)

-- ---- The fresh file

abbrev pub base_list : List ℕ → List (List ℕ)
base_list f = pieces (spans_in (base_judgement f)) (rest_of f (end_of f) first_place)

abbrev pub base_edited : List ℕ → Change → ℤ → List ℕ → List (List ℕ)
base_edited f change code p =
    exchange (base_list f) (out_from change (length (base_list f))) (out_to change (length (base_list f))) (brought_in (order_of f) change code p)

-- "A list left empty gives a zero extender ..; otherwise the extender is 1,0,0,0."
abbrev pub base_extender_for : List (List ℕ) → List ℕ
base_extender_for [] = 0 ∷ 0 ∷ 0 ∷ 0 ∷ []
base_extender_for (x ∷ xs) = 1 ∷ 0 ∷ 0 ∷ 0 ∷ []

abbrev pub base_file : List ℕ → List (List ℕ) → List ℕ
base_file f xs = head_for (kind_of f) (order_of f) (end_for xs) (take 348 f) ++ (base_extender_for xs ++ (joined xs ++ tail_of f))

abbrev pub base_fresh : List ℕ → Change → ℤ → List ℕ → List ℕ
base_fresh f change code p = base_file f (base_edited f change code p)

-- ---- Edits

-- rule 20: "append where the extender is zero and bytes already follow 352 before the end of the extension region"
abbrev pub base_private : Change → List ℕ → Bool
base_private Append f = not (base_some f) && ltb first_place (end_of f)
base_private (Replace k) f = false
base_private (Remove k) f = false

-- rules 18 to 22, after reading's
abbrev pub base_verdict : List ℕ → ℕ → Change → ℤ → List ℕ → Verdict
base_verdict f room change code p =
    then (base_reading f).verdict
    (verdict
    (row NoSuchExtension (missing_in change (length (base_list f))) 0
    ∷ row NegativeCodeOffered (offers_negative change code) 0
    ∷ row PrivateBytes (base_private change f) 0
    ∷ row ListTooLong (too_much (base_edited f change code p)) 0
    ∷ row ShortBuffer (ltb room (length (base_fresh f change code p))) 0
    ∷ []))

-- an edit of the file in the first len bytes of the buffer l, 24 first
unfoldable pub base_outcome : List ℕ → ℕ → Change → ℤ → List ℕ → Outcome
base_outcome l len change code p =
    decided (then (verdict (row LengthAboveBuffer (ltb (length l) len) 0 ∷ [])) (base_verdict (take len l) (length l) change code p))
    (fresh (base_fresh (take len l) change code p)) refused

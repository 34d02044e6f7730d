-- Whether an edit is refused: rules 18 to 22 in the table's order, after reading's own (01-scope.md, "Refusal numbers" and
-- "Extensions"). f is the old file everywhere.
use Rattle.refusal.specs.declared.Rule.TheVariants.{NoSuchExtension, NegativeCodeOffered, PrivateBytes, ListTooLong, ShortBuffer}
use Rattle.std.specs.Prelude.{ℕ, Bool, false, not, ◌&&◌, ◌||◌, List, [], ◌∷◌, ltb, ℤ, length}
use Rattle.refusal.specs.Table.{Row, row, verdict, then, Verdict}
use Rattle.offset.specs.Offset.{offset_limit}
use Rattle.extension.specs.Walk.{extension_limit, first_place}
use Rattle.layout.specs.File.{has_extensions, end_of}
use Rattle.reader.specs.Reading.{reading_of}
use Rattle.change.specs.declared.Change.{Change}
use Rattle.change.specs.declared.Change.TheVariants.{Append, Replace, Remove}
use Rattle.change.specs.Change.{missing_in, offers_negative}
use Rattle.edit_plan.specs.Fresh.{extension_list, edited_list, end_for, fresh_of}

-- Rules 18 and 19 ask no file: `missing_in` and `offers_negative` (change/Change).

-- rule 20: "append where the extender is zero and bytes already follow 352 before the end of the extension region"; "the zero extender
-- of 20 is now one whose first byte is zero" (02-change-requests.md, P2)
abbrev pub enters_private : Change → List ℕ → Bool
enters_private Append f = not (has_extensions f) && ltb first_place (end_of f)
enters_private (Replace k) f = false
enters_private (Remove k) f = false

-- rule 21: "the edited file would have 65 extensions, or its region would end past 134,217,728"
abbrev pub too_much : List (List ℕ) → Bool
too_much xs = ltb extension_limit (length xs) || ltb offset_limit (end_for xs)

-- rules 18 to 22, for a buffer of `room` bytes; 22: "the result is longer than the buffer"
abbrev pub change_rows : List ℕ → ℕ → Change → ℤ → List ℕ → List Row
change_rows f room change code p =
    row NoSuchExtension (missing_in change (length (extension_list f))) 0
    ∷ row NegativeCodeOffered (offers_negative change code) 0
    ∷ row PrivateBytes (enters_private change f) 0
    ∷ row ListTooLong (too_much (edited_list f change code p)) 0
    ∷ row ShortBuffer (ltb room (length (fresh_of f change code p))) 0
    ∷ []

-- "Checks run in number order": reading's 1 to 15 of the old file, then the edit's own
unfoldable pub change_verdict : List ℕ → ℕ → Change → ℤ → List ℕ → Verdict
change_verdict f room change code p = then (reading_of f).verdict (verdict (change_rows f room change code p))

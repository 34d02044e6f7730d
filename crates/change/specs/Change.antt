-- What an edit of the extension list is, over numbers alone (01-scope.md, "Extensions" and "Refusal numbers", rules 18 to 21): the
-- size of an extension, what these rules ask, where extensions go out and how many bytes come in.
use Rattle.std.specs.Prelude.{ℕ, ◌+◌, ◌*◌, ◌/◌, Bool, false, not, ◌&&◌, leb, ltb, eqb, ℤ, pos}
use Rattle.std.specs.Int.Signed.{lt_z}
use Rattle.std.specs.Int.{w32}
use Rattle.std.proofs.Common.{of_z}
use Rattle.extension.specs.declared.Span.{Span}
use Rattle.extension.specs.Walk.{extension_limit, first_place}
use Rattle.change.specs.declared.Change.{Change}
use Rattle.change.specs.declared.Change.TheVariants.{Append, Replace, Remove}
use Rattle.change.specs.declared.Slot.{Slot}

-- ---- What the promises of append, replace and remove rest on

-- "its size the least multiple of 16 that is at least L + 8" (the law `size_least` says so)
abbrev pub size_for : ℕ → ℕ
size_for n = (n + 23) / 16 * 16

-- rule 18: "no extension with that number (first is 0)", in a list of n
abbrev pub missing_in : Change → ℕ → Bool
missing_in Append n = false
missing_in (Replace k) n = not (ltb k n)
missing_in (Remove k) n = not (ltb k n)

-- rule 19: "code offered is negative"; a removal offers none
abbrev pub offers_negative : Change → ℤ → Bool
offers_negative Append code = lt_z code (pos 0)
offers_negative (Replace k) code = lt_z code (pos 0)
offers_negative (Remove k) code = false

-- ---- What only the steps between cite

-- rule 20 by the number of extensions and the region's end; of a file it is `enters_private` (edit_plan/Refusals)
abbrev pub enters_bytes : Change → ℕ → ℕ → Bool
enters_bytes Append count end = eqb count 0 && ltb first_place end
enters_bytes (Replace k) count end = false
enters_bytes (Remove k) count end = false

-- rule 21's "would have 65 extensions", by their number; of a file it is `too_much` (edit_plan/Refusals)
abbrev pub too_many : Change → ℕ → Bool
too_many Append count = leb extension_limit count
too_many (Replace k) count = false
too_many (Remove k) count = false

-- the number of the extension that an edit names; an append names none
abbrev pub named_by : Change → ℕ
named_by Append = 0
named_by (Replace k) = k
named_by (Remove k) = k

-- where extensions go out and how many bytes, by the span that the edit names, in a list that ends at `end`
abbrev pub slot_at : Span → Slot
slot_at span = record { at = span.start; old = of_z w32 span.size }

abbrev pub slot_of : Change → Span → ℕ → Slot
slot_of Append span end = record { at = end; old = 0 }
slot_of (Replace k) span end = slot_at span
slot_of (Remove k) span end = slot_at span

-- how many bytes come in, for a payload of n
abbrev pub new_size : Change → ℕ → ℕ
new_size Append n = size_for n
new_size (Replace k) n = size_for n
new_size (Remove k) n = 0

-- sizes above this are not told apart: rule 21 refuses them all
abbrev pub size_cap : ℕ
size_cap = 134217744

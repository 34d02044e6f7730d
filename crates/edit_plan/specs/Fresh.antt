-- The fresh file of demand 3, "worked out from the old file (the buffer up to the stated length) and the edit's arguments, never from
-- the record" (01-scope.md, "Extensions"). f is the old file everywhere.
use Rattle.std.specs.Prelude.{ℕ, ◌+◌, ◌-◌, List, [], ◌∷◌, ◌++◌, ℤ, length, take, drop, replicate}
use Rattle.std.specs.Int.{w32}
use Rattle.std.proofs.Common.{of_z}
use Rattle.field.specs.declared.Order.{Order}
use Rattle.field.specs.Numbers.{bytes_of, joined}
use Rattle.offset.specs.Offset.{offset_bits}
use Rattle.extension.specs.declared.Span.{Span}
use Rattle.extension.specs.Walk.{first_place, Walked, listed, stopped, rest_of}
use Rattle.extension.specs.Pieces.{pieces}
use Rattle.header.specs.declared.Kind.{Kind}
use Rattle.header.specs.declared.Kind.TheVariants.{Single, Pair}
use Rattle.rules.specs.Rules.{image_of}
use Rattle.layout.specs.File.{order_of, kind_of, shape_of, reserved_of, end_of}
use Rattle.reader.specs.Reading.{judgement}
use Rattle.buffer.specs.Put.{put}
use Rattle.change.specs.declared.Change.{Change}
use Rattle.change.specs.declared.Change.TheVariants.{Append, Replace, Remove}
use Rattle.change.specs.Change.{size_for}

-- E: "size and code in the file's order, the L bytes, the spare zeros"; its size is `size_for` (change/Change)
unfoldable pub stored : Order → ℤ → List ℕ → List ℕ
stored order code p =
    bytes_of order 4 (size_for (length p))
    ++ (bytes_of order 4 (of_z w32 code)
    ++ (p
    ++ replicate (size_for (length p) - (length p + 8)) 0))

abbrev pub spans_in : Walked → List Span
spans_in (listed xs) = xs
spans_in (stopped r) = []

-- X: "lists its extensions by the rules above, each with all its bytes"
unfoldable pub extension_list : List ℕ → List (List ℕ)
extension_list f = pieces (spans_in (judgement f)) (rest_of f (end_of f) first_place)

-- T: "a single file's bytes from vox_offset to its end; in a pair it is empty"
abbrev pub tail_by : Kind → ℕ → List ℕ → List ℕ
tail_by Single offset f = drop offset f
tail_by Pair offset f = []

unfoldable pub tail_of : List ℕ → List ℕ
tail_of f = tail_by (kind_of f) (image_of (shape_of f)).offset f

-- the list with its elements from the i-th up to the j-th exchanged for ys: every edit is one of these
unfoldable pub exchange : List (List ℕ) → ℕ → ℕ → List (List ℕ) → List (List ℕ)
exchange xs i j ys = take i xs ++ (ys ++ drop j xs)

-- "An append puts E last in X, a replacement puts it in the numbered one's place, a removal takes that one out": where the elements
-- that go out begin and end in a list of n, and what comes in
abbrev pub out_from : Change → ℕ → ℕ
out_from Append n = n
out_from (Replace k) n = k
out_from (Remove k) n = k

abbrev pub out_to : Change → ℕ → ℕ
out_to Append n = n
out_to (Replace k) n = k + 1
out_to (Remove k) n = k + 1

abbrev pub brought_in : Order → Change → ℤ → List ℕ → List (List ℕ)
brought_in order Append code p = stored order code p ∷ []
brought_in order (Replace k) code p = stored order code p ∷ []
brought_in order (Remove k) code p = []

-- "the others stay as they are, in order"
unfoldable pub edited_list : List ℕ → Change → ℤ → List ℕ → List (List ℕ)
edited_list f change code p =
    exchange (extension_list f) (out_from change (length (extension_list f))) (out_to change (length (extension_list f)))
    (brought_in (order_of f) change code p)

-- "An edit writes the first byte as 1 or 0 by the resulting list" (02-change-requests.md, P2)
abbrev pub first_byte_for : List (List ℕ) → ℕ
first_byte_for [] = 0
first_byte_for (x ∷ xs) = 1

-- "and keeps the three; the fresh file of demand 3 carries them too". "A pair's 348-byte file gains three zeros": past the end of f there
-- are zeros.
abbrev pub extender_for : List ℕ → List (List ℕ) → List ℕ
extender_for f xs = first_byte_for xs ∷ reserved_of f

-- where the region of a list ends: "352 plus the new list's bytes"
abbrev pub end_for : List (List ℕ) → ℕ
end_for xs = first_place + length (joined xs)

-- "In a single file H's vox_offset is set to 352 plus the new list's bytes"; "in a pair vox_offset is unchanged". vox_offset is the
-- four bytes at 108.
abbrev pub head_for : Kind → Order → ℕ → List ℕ → List ℕ
head_for Single order end h = put h 108 (bytes_of order 4 (offset_bits end))
head_for Pair order end h = h

-- "The fresh file is H, the extender for the new list, the new list joined, then T"; "H is the old file's first 348 bytes"
unfoldable pub fresh_file : List ℕ → List (List ℕ) → List ℕ
fresh_file f xs = head_for (kind_of f) (order_of f) (end_for xs) (take 348 f) ++ (extender_for f xs ++ (joined xs ++ tail_of f))

abbrev pub fresh_of : List ℕ → Change → ℤ → List ℕ → List ℕ
fresh_of f change code p = fresh_file f (edited_list f change code p)

-- The voxel offset of a header: what its 32 bits say, and the 32 bits of a whole number.
-- Carries out 01-scope.md, "vox_offset is binary32. Minus zero counts as 0", its rule 8, and the upper bound of its rule 9;
-- "Where an answer is an enum, a definition lists this paper's number and values for each case"; and 02-change-requests.md, P6: "The offset
-- reading itself must now answer whole and aligned, whole and unaligned, or refused". Bits are a natural number, so that no caller has to
-- speak of floats.
use Rattle.refusal.specs.declared.Rule.TheVariants.{OffsetNotWhole, OffsetOutside}
use Rattle.offset.specs.declared.Offset.TheVariants.{Aligned, Unaligned}
use Rattle.refusal.specs.declared.Refusal.{Refusal}
use Rattle.std.specs.Prelude.{ℕ, ◌/◌, ◌%◌, Bool, true, false, cond, not, ◌&&◌, List, [], ◌∷◌, pos, ◌==◌, from_bits, nat_lt, to_bits, Float, Ok, Err, Result}
use Rattle.std.specs.Float.{fin, binary32}
use Rattle.std.specs.Float.Ieee.{lt, of_int}
use Rattle.std.specs.Float.Ieee.Scale.{finite}
use Rattle.std.specs.Float.Ieee.Positive.{num, den}
use Rattle.refusal.specs.Table.{Row, row, verdict, decided, number_of}
use Rattle.offset.specs.declared.Offset.{Offset}

-- rule 9, "above 134,217,728": the largest offset a file may have
abbrev pub offset_limit : ℕ
offset_limit = 134217728

-- "vox_offset is binary32": the float of its 32 bits
abbrev pub float_of : ℕ → Float
float_of bits = from_bits binary32 bits

-- rule 8, "is below zero". Minus zero is not below plus zero, so it "counts as 0"
abbrev pub below_zero : Float → Bool
below_zero x = lt x (fin false 0 (pos 0))

-- the opposite of rule 8's "has a fraction". The size of a finite x is num x / den x
abbrev pub no_fraction : Float → Bool
no_fraction x = num x % den x == 0

-- the opposite of rule 8, "not finite, is below zero, or has a fraction"
abbrev pub whole_float : Float → Bool
whole_float x = finite x && not (below_zero x) && no_fraction x

-- whether rule 8 passes the bits
unfoldable pub is_whole : ℕ → Bool
is_whole bits = whole_float (float_of bits)

-- the whole number of bits that rule 8 passes; of other bits it means nothing
unfoldable pub whole_of : ℕ → ℕ
whole_of bits = num (float_of bits) / den (float_of bits)

-- rules 8 and 9, as far as both kinds of file share them: of rule 9 the upper bound
abbrev pub offset_rows : ℕ → List Row
offset_rows bits = row OffsetNotWhole (not (is_whole bits)) 108 ∷ row OffsetOutside (nat_lt offset_limit (whole_of bits)) 108 ∷ []

-- "a multiple of 16". Zero is one.
abbrev pub multiple_of16 : ℕ → Bool
multiple_of16 n = n % 16 == 0

-- a whole number, aligned or not
abbrev pub whole_case : ℕ → Result Offset Refusal
whole_case n = cond (multiple_of16 n) (Ok (Aligned n)) (Ok (Unaligned n))

-- the answer: the whole number with its case, or the first rule that refuses the bits
unfoldable pub offset_of : ℕ → Result Offset Refusal
offset_of bits = decided (verdict (offset_rows bits)) (whole_case (whole_of bits)) Err

-- the paper's number and values for each case: 0 with the whole number and whether it is aligned; 8 or 9 with the place
abbrev pub offset_numbers : Result Offset Refusal → List ℕ
offset_numbers (Ok (Aligned n)) = 0 ∷ n ∷ 1 ∷ []
offset_numbers (Ok (Unaligned n)) = 0 ∷ n ∷ 0 ∷ []
offset_numbers (Err r) = number_of r.rule ∷ r.place ∷ []

-- the whole number of an answer; 0 where there is none
abbrev pub whole_in : Result Offset Refusal → ℕ
whole_in (Ok (Aligned n)) = n
whole_in (Ok (Unaligned n)) = n
whole_in (Err r) = 0

-- the fact that "all that use it pass .. on": whether the answer is the aligned one
abbrev pub says_aligned : Result Offset Refusal → Bool
says_aligned (Ok (Aligned n)) = true
says_aligned (Ok (Unaligned n)) = false
says_aligned (Err r) = false

unfoldable pub aligned_of : ℕ → Bool
aligned_of bits = says_aligned (offset_of bits)

-- the bits of a whole number, rounded to the nearest binary32; exact for each multiple of 16 up to offset_limit
unfoldable pub offset_bits : ℕ → ℕ
offset_bits n = to_bits binary32 (of_int binary32 (pos n))

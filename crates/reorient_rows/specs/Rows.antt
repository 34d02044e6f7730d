-- What a turn makes of a row of the sform (02-change-requests.md, P10): "a reversed axis of length n has its srow column negated, and
-- column × (n-1) is added to the shift first, axes in order 1 to 3 of the old file, binary32, one rounding each; then the columns are
-- permuted." A row is the list of its four numbers' bit patterns: three columns and the shift.
use Rattle.std.specs.Prelude.{ℕ, ◌-◌, Bool, true, false, ◌&&◌, List, [], ◌∷◌, get_or, pos, Float}
use Rattle.std.specs.Float.{fin, binary32}
use Rattle.std.specs.Float.Ieee.{add, mul, neg, of_int, to_bits}
use Rattle.std.specs.Float.Ieee.Scale.{finite}
use Rattle.affine.specs.Method.{number_at}
use Rattle.reorient.specs.declared.Turn.{Turn}
use Rattle.reorient.specs.Reorient.{permuted}

-- the shift after an old axis of length n. The product is rounded, then the sum; the column is the old one.
abbrev pub shifted : Bool → ℕ → Float → Float → Float
shifted false n column shift = shift
shifted true n column shift = add binary32 shift (mul binary32 column (of_int binary32 (pos (n - 1))))

-- the column after it
abbrev pub facing : Bool → Float → Float
facing false column = column
facing true column = neg column

-- the number that stands for one that is not there
abbrev pub no_number : Float
no_number = fin false 0 (pos 0)

abbrev pub float_at : List Float → ℕ → Float
float_at xs k = get_or xs k no_number

-- the four numbers of the new row, from the lengths of the old axes 1 to 3 and the old numbers. The shift stands behind the columns, so it
-- goes along when they are permuted.
unfoldable pub numbers_after : Turn → ℕ → ℕ → ℕ → Float → Float → Float → Float → List Float
numbers_after t l m n a b c s =
    permuted no_number t
    (facing t.reversed1 a
    ∷ (facing t.reversed2 b
    ∷ (facing t.reversed3 c
    ∷ (shifted t.reversed3 n c (shifted t.reversed2 m b (shifted t.reversed1 l a s)) ∷ []))))

abbrev pub row_numbers : Turn → ℕ → ℕ → ℕ → List ℕ → List Float
row_numbers t l m n row = numbers_after t l m n (number_at row 0) (number_at row 1) (number_at row 2) (number_at row 3)

-- 23 is that this is false of a row: its four new numbers are finite
abbrev pub are_finite : List Float → Bool
are_finite xs = finite (float_at xs 0) && (finite (float_at xs 1) && (finite (float_at xs 2) && finite (float_at xs 3)))

unfoldable pub finite_after : Turn → ℕ → ℕ → ℕ → List ℕ → Bool
finite_after t l m n row = are_finite (row_numbers t l m n row)

-- the new row
abbrev pub patterns_of : List Float → List ℕ
patterns_of xs =
    to_bits binary32 (float_at xs 0)
    ∷ (to_bits binary32 (float_at xs 1)
    ∷ (to_bits binary32 (float_at xs 2)
    ∷ (to_bits binary32 (float_at xs 3) ∷ [])))

unfoldable pub row_after : Turn → ℕ → ℕ → ℕ → List ℕ → List ℕ
row_after t l m n row = patterns_of (row_numbers t l m n row)

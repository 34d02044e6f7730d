-- The position by Method 3 in binary32 (01-scope.md, "Slices and positions", second paragraph). A row, as srow_x, is the list of its four
-- numbers' bit patterns. What a row holds past its end counts as 0.
use Rattle.refusal.specs.declared.Rule.TheVariants.{NoPosition}
use Rattle.std.specs.Prelude.{ℕ, Bool, not, ◌&&◌, ◌||◌, List, [], ◌∷◌, get_or, T, pos, Float, Some, None, Option}
use Rattle.std.specs.Float.{binary32}
use Rattle.std.specs.Float.Ieee.{add, mul, of_int, of_bits, nan_bits}
use Rattle.std.specs.Float.Ieee.Scale.{finite}
use Rattle.refusal.specs.Table.{Row, row, verdict, decided}
use Rattle.affine.specs.declared.Position.{Position}
use Rattle.affine.specs.declared.RowNumbers.{RowNumbers}
use Rattle.affine.specs.declared.Srow.{Srow}

-- the number at a place of a row
abbrev pub number_at : List ℕ → ℕ → Float
number_at row n = of_bits binary32 (get_or row n 0)

-- an index as a binary32, which is exact up to 2 ^ 24
abbrev pub index_of : ℕ → Float
index_of i = of_int binary32 (pos i)

-- "((s0×i + s1×j) + s2×k) + s3, rounded after each operation in this order"
abbrev pub row_of : Float → Float → Float → Float → ℕ → ℕ → ℕ → Float
row_of s0 s1 s2 s3 i j k =
    add binary32
    (add binary32 (add binary32 (mul binary32 s0 (index_of i)) (mul binary32 s1 (index_of j))) (mul binary32 s2 (index_of k)))
    s3

-- "A position has three values of binary32 kept together", here by "the twelve srow numbers as such a record too"
abbrev pub results_of : Srow → ℕ → ℕ → ℕ → Position
results_of s i j k =
    record {
      x = row_of s.x.s0 s.x.s1 s.x.s2 s.x.s3 i j k;
      y = row_of s.y.s0 s.y.s1 s.y.s2 s.y.s3 i j k;
      z = row_of s.z.s0 s.z.s1 s.z.s2 s.z.s3 i j k;
    }

-- all three results are finite
abbrev pub finite_results : Position → Bool
finite_results p = finite p.x && finite p.y && finite p.z

-- the four numbers of a row are finite
unfoldable pub finite_row : List ℕ → Bool
finite_row row = finite (number_at row 0) && finite (number_at row 1) && finite (number_at row 2) && finite (number_at row 3)

-- no number of a row is a NaN, so that an f32 can be made of each of its patterns
pub record NoNan (row : List ℕ) : Type 0 where
  pub n0 : T (not (nan_bits binary32 (get_or row 0 0)))
  pub n1 : T (not (nan_bits binary32 (get_or row 1 0)))
  pub n2 : T (not (nan_bits binary32 (get_or row 2 0)))
  pub n3 : T (not (nan_bits binary32 (get_or row 3 0)))

-- the numbers of a row, and the record of three rows
abbrev pub row_numbers : List ℕ → RowNumbers
row_numbers row = record { s0 = number_at row 0; s1 = number_at row 1; s2 = number_at row 2; s3 = number_at row 3 }

abbrev pub srow_of : List ℕ → List ℕ → List ℕ → Srow
srow_of x y z = record { x = row_numbers x; y = row_numbers y; z = row_numbers z }

-- all twelve numbers are finite
abbrev pub finite_rows : List ℕ → List ℕ → List ℕ → Bool
finite_rows x y z = finite_row x && finite_row y && finite_row z

-- "23 is given exactly when .. one of the twelve is not finite, or a result is not finite"
abbrev pub place_rows : List ℕ → List ℕ → List ℕ → ℕ → ℕ → ℕ → List Row
place_rows x y z i j k = row NoPosition (not (finite_rows x y z) || not (finite_results (results_of (srow_of x y z) i j k))) 0 ∷ []

-- The position of the voxel i, j, k by the rows x, y and z: its three values, and none where 23 is given.
unfoldable pub position_of : List ℕ → List ℕ → List ℕ → ℕ → ℕ → ℕ → Option Position
position_of x y z i j k = decided (verdict (place_rows x y z i j k)) (Some (results_of (srow_of x y z) i j k)) (λ r. None)

-- An image's axes, as the header's dim states them (01-scope.md, rules 5 and 10, "The header rules" and "Voxels and byte order").
use Rattle.std.specs.Prelude.{Bool, cond, List, [], ◌∷◌, ◌++◌, ℕ, zero, suc, ◌+◌, ◌-◌, ◌*◌, min, get_or, replicate, ℤ, pos, eqb}
use Rattle.std.specs.Int.Signed.{lt_z}
use Rattle.number.specs.Natural.{natural_of}
use Rattle.grid.specs.Grid.{voxels}

-- dim[i]; past the end, 0
abbrev pub dim_at : List ℤ → ℕ → ℤ
dim_at dim i = get_or dim i (pos 0)

-- rule 5's test of an entry
abbrev pub below_one : ℤ → Bool
below_one z = lt_z z (pos 1)

-- rule 5's least i: of dim[1] to dim[n] the first that is below 1, and 0 where none is
unfoldable pub first_below : List ℤ → ℕ → ℕ
first_below dim zero = 0
first_below dim (suc n) =
    cond (eqb (first_below dim n) 0)
    (cond (below_one (dim_at dim (suc n))) (suc n) 0)
    (first_below dim n)

-- the lengths that dim[1] to dim[n] state: 0 where an entry is negative
unfoldable pub axes : List ℤ → ℕ → List ℕ
axes dim zero = []
axes dim (suc n) = axes dim n ++ (natural_of (dim_at dim (suc n)) ∷ [])

-- "Image bytes are dim[1] × .. × dim[dim[0]] × bitpix / 8, with no wrap at any step"; bytes is bitpix / 8, n is dim[0]
unfoldable pub image_bytes : List ℤ → ℕ → ℕ → ℕ
image_bytes dim n bytes = voxels (axes dim n) * bytes

-- rule 10: image bytes above this are refused
abbrev pub image_limit : ℕ
image_limit = 1099511627776

-- a number as far as rule 10 tells numbers apart: itself up to the limit, and limit + 1 for all above it
abbrev pub capped : ℕ → ℕ
capped m = min m (image_limit + 1)

-- "Seven indexes; those after dim[0] must be 0": the seven lengths, 1 past dim[0]
unfoldable pub seven_axes : List ℤ → ℕ → List ℕ
seven_axes dim n = axes dim n ++ replicate (7 - n) 1

-- A grid of voxels, given by the lengths of its axes. An index has a number for each axis, and the first varies fastest:
-- the index is the number of its voxel written in mixed radix, the lengths as the radixes (01-scope.md, "Voxels and byte order").
use Rattle.std.specs.Prelude.{Bool, true, false, ◌&&◌, List, [], ◌∷◌, ℕ, ◌+◌, ◌*◌, ◌/◌, ◌%◌, ltb}

-- how many voxels there are: the product of the lengths
unfoldable pub voxels : List ℕ → ℕ
voxels [] = 1
voxels (d ∷ ds) = d * voxels ds

-- rule 17 is that this is false: an index has a number for each axis, and each is inside its axis
unfoldable pub within : List ℕ → List ℕ → Bool
within [] [] = true
within [] (i ∷ is) = false
within (d ∷ ds) [] = false
within (d ∷ ds) (i ∷ is) = ltb i d && within ds is

-- i1 + dim[1] × (i2 + dim[2] × (i3 + ..)): the number of the voxel of an index, which is how many voxels are before it
unfoldable pub voxel_number : List ℕ → List ℕ → ℕ
voxel_number [] is = 0
voxel_number (d ∷ ds) [] = 0
voxel_number (d ∷ ds) (i ∷ is) = i + d * voxel_number ds is

-- the index of the voxel that k voxels are before
unfoldable pub index_of : List ℕ → ℕ → List ℕ
index_of [] k = []
index_of (d ∷ ds) k = k % d ∷ index_of ds (k / d)

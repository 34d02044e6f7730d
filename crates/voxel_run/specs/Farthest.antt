-- The farthest place among the first voxels of axis 1 (01-scope.md, "Voxels and byte order").
use Rattle.refusal.specs.declared.Refusal.{Refusal}
use Rattle.voxel.specs.declared.Extent.{Extent}
use Rattle.std.specs.Prelude.{ℕ, zero, suc, max, List, [], ◌∷◌, Ok, Err, Result}
use Rattle.header.specs.declared.Header.{Header}
use Rattle.voxel.specs.Steps.{stepped_in}
use Rattle.by_file.specs.Files.{located_of}

-- a refused voxel counts as 0
abbrev pub place_of : Result Extent Refusal → ℕ
place_of (Ok e) = e.place
place_of (Err r) = 0

-- the index of voxel k of axis 1: all others are 0
abbrev pub along : ℕ → List ℕ
along k = k ∷ 0 ∷ 0 ∷ 0 ∷ 0 ∷ 0 ∷ 0 ∷ []

-- the largest place among the first `count` voxels, by a way of locating them
unfoldable pub most : (ℕ → Result Extent Refusal) → ℕ → ℕ
most f zero = 0
most f (suc k) = max (most f k) (place_of (f k))

-- by a record and no image file,
abbrev pub farthest_in : Header → ℕ → ℕ
farthest_in h count = most (λ k. stepped_in h 0 (along k)) count

-- and by a file and no image file
abbrev pub farthest : List ℕ → ℕ → ℕ
farthest file count = most (λ k. located_of file [] (along k)) count

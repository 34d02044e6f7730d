-- The sizes of an image (02-change-requests.md, P4): "the image byte total and the seven byte steps, one for each axis; an axis after dim[0] has
-- the image total as its step".
use Rattle.std.specs.Prelude.{ℕ, zero, suc, ◌+◌, ◌*◌, ◌≤◌, ◌≡◌, Bool, true, false, cond, ◌&&◌, List, [], ◌∷◌, ◌++◌, ltb, eqb, ℤ, replicate}
use Rattle.number.specs.Same.{same_numbers}
use Rattle.grid.specs.Grid.{within}
use Rattle.grid.specs.Axes.{first_below, image_bytes, image_limit, capped}
use Rattle.grid.specs.declared.Sizes.{Sizes}

-- the step of the axis that k axes are before, with n for dim[0]: the voxel's bytes times their lengths; after dim[0] the total
abbrev pub step_after : List ℤ → ℕ → ℕ → ℕ → ℕ
step_after dim n bytes k = cond (ltb k n) (image_bytes dim k bytes) (image_bytes dim n bytes)

-- those of axes 1 to k
unfoldable pub steps_to : List ℤ → ℕ → ℕ → ℕ → List ℕ
steps_to dim n bytes zero = []
steps_to dim n bytes (suc k) = steps_to dim n bytes k ++ (step_after dim n bytes k ∷ [])

-- the total and the seven steps, by dims, dim[0] and the bytes of a voxel
unfoldable pub sizes_by : List ℤ → ℕ → ℕ → Sizes
sizes_by dim n bytes = record { total = image_bytes dim n bytes; steps = steps_to dim n bytes 7 }

-- those of no image
abbrev pub no_sizes : Sizes
no_sizes = record { total = 0; steps = replicate 7 0 }

-- whether two have the same eight numbers
abbrev pub same_sizes : Sizes → Sizes → Bool
same_sizes a b = eqb a.total b.total && same_numbers a.steps b.steps

-- i1 × step 1 + i2 × step 2 + ..: how many bytes of the image are before the voxel of an index
unfoldable pub bytes_before : List ℕ → List ℕ → ℕ
bytes_before [] is = 0
bytes_before (s ∷ ss) [] = 0
bytes_before (s ∷ ss) (i ∷ is) = i * s + bytes_before ss is

-- ---- What only the steps between cite

-- dims, dim[0] and a voxel's bytes as rules 2, 5 and 10 leave them: the sizes are numbers up to the image's limit
pub record Measurable (dim : List ℤ) (n bytes : ℕ) : Type 0 where
  pub axes : n ≤ 7
  pub whole : first_below dim n ≡ 0
  pub small : image_bytes dim n bytes ≤ image_limit

-- an answer r for how many bytes are before an index's voxel: right as far as rule 10 tells numbers apart; and 2^64 - 1 of an index outside
pub record Reaches (lengths steps index : List ℕ) (r : ℕ) : Type 0 where
  pub outside : within lengths index ≡ false → r ≡ 18446744073709551615
  pub inside : within lengths index ≡ true → capped r ≡ capped (bytes_before steps index)
  pub small : within lengths index ≡ true → r ≤ 7 * (32767 * (image_limit + 1))

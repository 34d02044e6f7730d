-- Voxels gathered from places that lie in a grid. The axes of the grid are given in the order in which its voxels are wanted, the first
-- varying fastest, and each has a step of its own, up or down.
use Rattle.std.specs.Prelude.{◌≡◌, List, [], ◌∷◌, ℕ, ◌+◌, ◌-◌, ◌*◌, ◌/◌, ◌%◌, ◌≤◌, ◌<◌, take, drop}
use Rattle.gather_row.specs.declared.Axis.{Axis}
use Rattle.gather_row.specs.Series.{series}

-- how far number j of an axis lies from the lowest place: `up` bytes for each number before it and `down` for each after it. An axis
-- that runs upwards has down = 0, one that runs downwards has up = 0
abbrev pub reach : Axis → ℕ → ℕ
reach a j = a.up * j + a.down * (a.length - 1 - j)

-- how many voxels there are: the product of the lengths
unfoldable pub count_of : List Axis → ℕ
count_of [] = 1
count_of (a ∷ xs) = a.length * count_of xs

-- how far voxel k lies from the lowest place: the digits of k, in mixed radix with the lengths as radixes, are its numbers on the axes
unfoldable pub place_in : List Axis → ℕ → ℕ
place_in [] k = 0
place_in (a ∷ xs) k = reach a (k % a.length) + place_in xs (k / a.length)

-- the voxels of b bytes each, in order, where `from` is the lowest place in s
unfoldable pub gathered : ℕ → List ℕ → ℕ → List Axis → List ℕ
gathered b s from xs = series (λ k. take b (drop (from + place_in xs k) s)) (count_of xs)

-- there are voxels, and each lies in a list of `size` bytes
pub record Inside (b size from : ℕ) (xs : List Axis) : Type 0 where
  pub some : 0 < count_of xs
  pub each : (k : ℕ) → k < count_of xs → from + place_in xs k + b ≤ size

-- the voxels of y, of b bytes, lie side by side, one way or the other
pub data Beside (b : ℕ) (y : Axis) : Type 0 where
  upwards : y.up ≡ b → y.down ≡ 0 → Beside b y
  downwards : y.up ≡ 0 → y.down ≡ b → Beside b y

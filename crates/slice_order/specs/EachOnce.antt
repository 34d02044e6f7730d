-- "the numbers 0 to N-1, each once" (02-change-requests.md, P8), said of any numbers and any rule for them.
use Rattle.std.specs.Prelude.{◌≡◌, ℕ, ◌≤◌, ◌<◌}

-- exactly one of the numbers Among has the value r
pub record ExactlyOne (Among : ℕ → Type 0) (value : ℕ → ℕ) (r : ℕ) : Type 0 where
  pub one : ℕ
  pub among : Among one
  pub has : value one ≡ r
  pub only : (x : ℕ) → Among x → value x ≡ r → x ≡ one

-- the values of the numbers Among are 0 to n - 1, each once
pub record EachOnce (Among : ℕ → Type 0) (value : ℕ → ℕ) (n : ℕ) : Type 0 where
  pub below : (x : ℕ) → Among x → value x < n
  pub once : (r : ℕ) → r < n → ExactlyOne Among value r

-- the slices start to end
abbrev pub Between : ℕ → ℕ → ℕ → Type 0
Between start end s = (start ≤ s) × (s ≤ end)

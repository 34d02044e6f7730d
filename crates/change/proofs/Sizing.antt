-- The size of an extension is the least that the rules allow.
use Prim.Native.Nat.{ℕ, ◌+◌, ◌%◌, ◌≤◌}
use mathlib.Core.Path.{◌≡◌}
use native.Mathlib.Omega.{arith}
use Rattle.change.specs.Change.{size_for}

-- "the least multiple of 16 that is at least L + 8"
pub size_least : (n : ℕ) → (size_for n % 16 ≡ 0) × (n + 8 ≤ size_for n) × ((m : ℕ) → m % 16 ≡ 0 → n + 8 ≤ m → size_for n ≤ m)
size_least n = (omega arith, omega arith, λ m u h. omega arith)

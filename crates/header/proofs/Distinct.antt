-- A single file is no pair.
use Prim.Native.Nat.{ℕ}
use mathlib.Core.Path.{◌≡◌}
use native.Mathlib.Omega.{arith}
use Rattle.header.specs.declared.Kind.TheVariants.{Single, Pair}

pub single_never {ℓ} : {A : Type ℓ} → Single ≡ Pair → A
single_never e = let z : ◌≡◌ {A = ℕ} 0 1 = cc in absurd (omega arith)

-- The walk, one step at a time: what it comes to at each outcome of `found`.
use Prim.Native.Nat.{ℕ, zero, suc, ◌+◌, ◌-◌}
use mathlib.Core.Path.{◌≡◌}
use mathlib.Core.List.{List, []}
use native.Mathlib.Omega.{arith}
use lib.IntN.{nat_abs}
use lib.ListN.{drop}
use Rattle.field.specs.declared.Order.{Order}
use Rattle.refusal.specs.declared.Refusal.{Refusal}
use Rattle.extension.specs.declared.Span.{Span}
use Rattle.extension.specs.Walk.{extension_limit, extension, ended, refused, found, walk, onto, listed, stopped}
use Rattle.extension.proofs.Found.{taken}

-- a walk that stopped lists nothing
pub stopped_never {ℓ} : {A : Type ℓ} {r : Refusal} {xs : List Span} → stopped r ≡ listed xs → A
stopped_never e = let z : ◌≡◌ {A = ℕ} 0 1 = cc in absurd (omega arith)

-- so many extensions came before as the limit has more than may still come
abbrev pub before : ℕ → ℕ
before left = extension_limit - left

module _ (order : Order) (at : ℕ) (rest : List ℕ) where
  pub walk_extension : (left : ℕ) (x : Span) → found order (before left) at rest ≡ extension x
      → walk order left at rest ≡ onto x (walk order (left - 1) (at + nat_abs x.size) (drop (nat_abs x.size) rest))
  unfolding walk
  walk_extension zero x e = let t = taken order extension_limit at rest x e in absurd (omega arith)
  walk_extension (suc m) x e = let p : suc m - 1 ≡ m = omega arith in rw (e, p)

  pub walk_ended : (left : ℕ) → found order (before left) at rest ≡ ended → walk order left at rest ≡ listed []
  unfolding walk
  walk_ended zero e = rw e
  walk_ended (suc m) e = rw e

  pub walk_refused : (left : ℕ) (r : Refusal) → found order (before left) at rest ≡ refused r → walk order left at rest ≡ stopped r
  unfolding walk
  walk_refused zero r e = rw e
  walk_refused (suc m) r e = rw e

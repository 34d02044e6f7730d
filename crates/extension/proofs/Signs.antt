-- The signed numbers of an extension, and the size rule of rule 13 by its tests, one after the other.
use Prim.Native.Nat.{ℕ, suc, ◌-◌, ◌%◌, ◌≤◌, ◌<◌}
use mathlib.Core.Path.{◌≡◌, refl, sym}
use mathlib.Core.Bool.{Bool, true, false, ◌&&◌, and-eq-true_iff, and-false, true≢false, false≢true}
use native.Mathlib.Omega.{arith}
use borrow.Author.Tests.{lt-ltb, le-ltb, le-leb, lt-leb, eq-eqb, ltb-true, leb-true, leb-false, eqb-true}
use lib.Dec.{leb, ltb, eqb}
use lib.IntN.{ℤ, pos, negsuc, nat_abs}
use lib.Signed.{lt_z, le_z}
use mir.Syntax.{w32}
use mir.Val.{SFits, to_z, sel}
use Rattle.extension.specs.Walk.{size_rule}

-- bits that read as a number that is not negative are that number
pub to_z_low : (n m : ℕ) → to_z w32 n ≡ pos m → (n ≡ m) × (n < 2147483648)
to_z_low n m e = by (ltb n 2147483648) refl e where
  by : (t : Bool) → ltb n 2147483648 ≡ t → sel t (pos n) (negsuc (4294967296 - suc n)) ≡ pos m → (n ≡ m) × (n < 2147483648)
  by true h q = (cc, ltb-true n 2147483648 h)
  by false h q = let z : ◌≡◌ {A = ℕ} 0 1 = cc in absurd (omega arith)

-- ---- The size rule

pub rule_short : (size : ℤ) (left : ℕ) → left < 16 → size_rule size left ≡ false
unfolding size_rule
rule_short size left h = rw (lt-leb 16 left h)

pub rule_below : (size : ℤ) (left : ℕ) → le_z size (pos 0) ≡ true → size_rule size left ≡ false
unfolding size_rule
rule_below (pos n) left h = let e : n ≤ 0 = leb-true n 0 h in rw (le-ltb 0 n e) (and-false (leb 16 left))
rule_below (negsuc n) left h = and-false (leb 16 left)

-- a number above zero
pub positive_is : (z : ℤ) → SFits w32 z → le_z z (pos 0) ≡ false → (z ≡ pos (nat_abs z)) × (nat_abs z < 2147483648)
positive_is (pos n) f h = (refl, f.sfits)
positive_is (negsuc n) f h = absurd (true≢false h)

-- of a size above zero, two tests are left
pub rule_above : (size : ℤ) (left : ℕ) → 16 ≤ left → le_z size (pos 0) ≡ false
    → size_rule size left ≡ eqb (nat_abs size % 16) 0 && leb (nat_abs size) left
unfolding size_rule
rule_above (pos n) left l h = rw (le-leb 16 left l, lt-ltb 0 n (leb-false n 0 h))
rule_above (negsuc n) left l h = absurd (true≢false h)

-- the size rule as facts
pub record Ruled (size : ℤ) (left : ℕ) : Type 0 where
  pub whole : size ≡ pos (nat_abs size)
  pub least : 16 ≤ nat_abs size
  pub units : nat_abs size % 16 ≡ 0
  pub within : nat_abs size ≤ left

pub ruled : (size : ℤ) (left : ℕ) → size_rule size left ≡ true → Ruled size left
unfolding size_rule
ruled (pos n) left e =
    let a = (and-eq-true_iff (leb 16 left) _).0 e in
    let b = (and-eq-true_iff (ltb 0 n) _).0 a.1 in
    let d = (and-eq-true_iff (eqb (n % 16) 0) _).0 b.1 in
    let p : 0 < n = ltb-true 0 n b.0 in
    let u : n % 16 ≡ 0 = eqb-true (n % 16) 0 d.0 in
    record { whole = refl; least = omega arith; units = u; within = leb-true n left d.1 }
ruled (negsuc n) left e =
    let a = (and-eq-true_iff (leb 16 left) _).0 e in
    absurd (false≢true a.1)

-- the other way
pub rule_holds : (n left : ℕ) → 16 ≤ n → n % 16 ≡ 0 → n ≤ left → size_rule (pos n) left ≡ true
unfolding size_rule
rule_holds n left h u w = rw (le-leb 16 left (omega arith), lt-ltb 0 n (omega arith), eq-eqb (n % 16) 0 u, le-leb n left w)

-- a number that is not below zero
pub not_negative : (z : ℤ) → lt_z z (pos 0) ≡ false → z ≡ pos (nat_abs z)
not_negative (pos n) e = refl
not_negative (negsuc n) e = absurd (false≢true (sym e))

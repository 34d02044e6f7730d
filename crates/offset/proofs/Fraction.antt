-- What a fraction a / c that equals a float says of it: whether the float is whole, and which whole number it is.
-- `HasValue x s a c` says that x is finite, has the sign s and is a / c in size. Assumes nothing.
use Rattle.std.proofs.Common.{◌≡◌, ℕ, ◌+◌, ◌*◌, ◌/◌, ◌%◌, ◌<◌, Bool, true, false, not, ◌&&◌, sym, refl, ap, ◌∙◌, subst, true≢false, add-zero, mul-pos, div-add-mod', mul_right_comm, arith, le-ltb, lt-ltb, eq-eqb, ne_eqb}
use native.Mathlib.Nat.{mul-mod_left, eq_of_mul-eq-mul_right}
use mathlib.Core.Bool.{false≢true}
use lib.Ieee.{Float, nan, inf, fin, up, down, lt}
use lib.Ieee.Exact.{HasValue}
use lib.Ieee.Fits.{down_pos}
use lib.Ieee.Nearest.{div_same}
use lib.Ieee.Positive.{num, den, den_pos, value→cross, first_pos}
use lib.Ieee.Scale.{finite}
use Rattle.offset.specs.Offset.{float_of, no_fraction, whole_float, is_whole, whole_of}

-- of two equal fractions, one is whole where the other is
same_rem : (a b c d : ℕ) → 0 < b → a * d ≡ c * b → a % b ≡ 0 → c % d ≡ 0
same_rem a b c d B h r =
    let q : a ≡ a / b * b = sym (div-add-mod' a b) ∙ ap (λ (x : ℕ). a / b * b + x) r ∙ add-zero (a / b * b) in
    let e : c ≡ a / b * d = eq_of_mul-eq-mul_right b B c (a / b * d) (sym h ∙ ap (λ (x : ℕ). x * d) q ∙ mul_right_comm (a / b) b d) in
    ap (λ (x : ℕ). x % d) e ∙ mul-mod_left (a / b) d

-- the same value by another fraction
pub rescale : (x : Float) (s : Bool) (a c b d : ℕ) → 0 < c → a * d ≡ b * c → HasValue x s a c → HasValue x s b d
rescale nan s a c b d C h v = v
rescale (inf t) s a c b d C h v = v
rescale (fin t m e) s a c b d C h v = (
  v.0,
  eq_of_mul-eq-mul_right c C (m * up e * d) (b * down e)
      (mul_right_comm (m * up e) d c
      ∙ ap (λ (x : ℕ). x * d) v.1
      ∙ mul_right_comm a (down e) d
      ∙ ap (λ (x : ℕ). x * down e) h
      ∙ mul_right_comm b c (down e)),
)

-- a number with a plus sign has only the fraction left to be judged by
positive_test : (x : Float) (a c : ℕ) → HasValue x false a c → whole_float x ≡ no_fraction x
unfolding lt
positive_test nan a c v = absurd v
positive_test (inf s) a c v = absurd v
positive_test (fin true m e) a c v = absurd (true≢false v.0)
positive_test (fin false m e) a c v = ap (λ (t : Bool). not t && no_fraction (fin false m e)) (le-ltb (m * up e * 1) (0 * down e) (omega arith))

-- ---- bits of a float with a plus sign

module _ (bits a c : ℕ) (C : 0 < c) (v : HasValue (float_of bits) false a c) where
  cross : num (float_of bits) * c ≡ a * den (float_of bits)
  cross = value→cross (float_of bits) a c v

  pub whole_at : a % c ≡ 0 → is_whole bits ≡ true
  unfolding is_whole
  whole_at r =
      let n : ℕ = num (float_of bits) in
      let d : ℕ = den (float_of bits) in
      positive_test (float_of bits) a c v ∙ eq-eqb (n % d) 0 (same_rem a c n d C (sym cross) r)

  pub part_at : (a % c ≡ 0 → ⊥) → is_whole bits ≡ false
  unfolding is_whole
  part_at n =
      let m : ℕ = num (float_of bits) in
      let d : ℕ = den (float_of bits) in
      positive_test (float_of bits) a c v ∙ ne_eqb (m % d) 0 (λ r. n (same_rem m d a c (den_pos (float_of bits)) cross r))

  pub value_at_lem : whole_of bits ≡ a / c
  unfolding whole_of
  value_at_lem = div_same (num (float_of bits)) (den (float_of bits)) a c (den_pos (float_of bits)) C cross

-- ---- other floats

-- below zero
pub negative_at : (x : Float) (a c : ℕ) → 0 < a → HasValue x true a c → whole_float x ≡ false
unfolding lt
negative_at nan a c A v = absurd v
negative_at (inf s) a c A v = absurd v
negative_at (fin false m e) a c A v = absurd (false≢true v.0)
negative_at (fin true m e) a c A v =
    let p : 0 < m * up e = first_pos (m * up e) c (subst (λ (z : ℕ). 0 < z) (sym v.1) (mul-pos A (down_pos e))) in
    ap (λ (t : Bool). not t && no_fraction (fin true m e)) (lt-ltb 0 (m * up e * 1 + 0 * down e) (omega arith))

pub infinite_at : (x : Float) → finite x ≡ false → whole_float x ≡ false
infinite_at nan h = refl
infinite_at (inf s) h = refl
infinite_at (fin s m e) h = absurd (true≢false h)

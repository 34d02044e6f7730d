-- Which bit patterns are of a positive number, and the time of a rank by such a duration: it is one rounding of the exact product, it is +0 for
-- rank 0, and where it is not finite it is the infinity above zero. Assumes nothing.
use Rattle.std.specs.Prelude.{Some}
use mathlib.Core.Path.{◌≡◌, refl, sym, ap, ◌∙◌, subst}
use mathlib.Core.Bool.{Bool, true, false, cond, ◌&&◌, true≢false}
use mathlib.Core.Logic.{◌⊎◌, inl, inr}
use Prim.Native.Nat.{ℕ, zero, suc, ◌+◌, ◌*◌, ◌/◌, ◌%◌, ◌^◌, ◌≤◌, ◌<◌}
use native.Mathlib.Nat.{mul-pos, one-mul, zero-mul, zero-lt-suc}
use native.Mathlib.Omega.{arith}
use lib.Dec.{T, leb, ltb, eqb}
use lib.Pow.{pow_pos}
use lib.IntN.{pos}
use lib.Ieee.{Float, nan, inf, fin, binary32, odd, units, round, mul, lt, of_int, of_fields, of_bits, up, down}
use lib.Ieee.Back.{round_whole}
use lib.Ieee.Bits.{is_true}
use lib.Ieee.Exact.{odd_sign}
use lib.Ieee.Fits.{round_is}
use lib.Ieee.Positive.{num, den, den_pos, own_value, positive, positive-finite, positive_of_value, mul_at}
use lib.Ieee.Scale.{finite, round_same}
use borrow.Author.Tests.{leb-false, ltb-true, ltb-false, lt-leb, ne_eqb}
use Rattle.slices.specs.Times.{product, time_by, time_of}

-- ---- positive, by the fields of a pattern: its sign, the exponent's field x and the digits t
odd_negative : (q k : ℕ) → positive (odd 24 true q k 149) ≡ false
unfolding odd
odd_negative zero k = refl
odd_negative (suc q) k = refl

odd_positive : (q k : ℕ) → 0 < q → positive (odd 24 false q k 149) ≡ true
odd_positive q k h = is_true _ (positive_of_value (odd 24 false q k 149) (q * 2 ^ k) (2 ^ 149) (odd_sign 24 false q k 149) (mul-pos h (pow_pos k)))

minus_fields : (x t : ℕ) → positive (of_fields binary32 true x t) ≡ false
unfolding of_fields
minus_fields zero t = odd_negative t 0
minus_fields (suc x) t = go (eqb (suc x) 255) (eqb t 0)
  where
    go : (p q : Bool) → positive (cond p (cond q (inf true) nan) (odd 24 true (8388608 + t) x 149)) ≡ false
    go true true = refl
    go true false = refl
    go false q = odd_negative (8388608 + t) x

ones_fields : (t : ℕ) → positive (of_fields binary32 false 255 t) ≡ false
unfolding of_fields
ones_fields t = go (eqb t 0)
  where
    go : (q : Bool) → positive (cond q (inf false) nan) ≡ false
    go true = refl
    go false = refl

plus_fields : (x t : ℕ) → x < 255 → 0 < x * 8388608 + t → positive (of_fields binary32 false x t) ≡ true
unfolding of_fields
plus_fields zero t h k = odd_positive t 0 (omega arith)
plus_fields (suc x) t h k =
    ap (λ (p : Bool). positive (cond p (cond (eqb t 0) (inf false) nan) (odd 24 false (8388608 + t) x 149))) (ne_eqb (suc x) 255 (λ e. omega arith))
    ∙ odd_positive (8388608 + t) x (omega arith)

-- ---- positive, by the pattern
-- The patterns of the positive numbers are those from 1 up to the infinity's.
pub positive_pattern : (b : ℕ) → b < 4294967296 → (ltb 0 b && ltb b 2139095040) ≡ positive (of_bits binary32 b)
unfolding of_bits
positive_pattern b w = go (ltb 0 b) (ltb b 2139095040) refl refl
  where
    high : (s : Bool) → leb 2147483648 b ≡ s → 2139095040 ≤ b → positive (of_fields binary32 s (b % 2147483648 / 8388608) (b % 8388608)) ≡ false
    high true e h = minus_fields (b % 2147483648 / 8388608) (b % 8388608)
    high false e h =
        let l : b < 2147483648 = leb-false 2147483648 b e in
        let x : b % 2147483648 / 8388608 ≡ 255 = omega arith in
        ap (λ (n : ℕ). positive (of_fields binary32 false n (b % 8388608))) x ∙ ones_fields (b % 8388608)

    nothing : b ≤ 0 → b ≡ 0
    nothing h = omega arith

    go : (p q : Bool) → ltb 0 b ≡ p → ltb b 2139095040 ≡ q → (p && q) ≡ positive (of_bits binary32 b)
    go true true e f =
        let h : 0 < b = ltb-true 0 b e in
        let k : b < 2139095040 = ltb-true b 2139095040 f in
        sym
        (ap (λ (s : Bool). positive (of_fields binary32 s (b % 2147483648 / 8388608) (b % 8388608))) (lt-leb 2147483648 b (omega arith))
        ∙ plus_fields (b % 2147483648 / 8388608) (b % 8388608) (omega arith) (omega arith))
    go true false e f = sym (high (leb 2147483648 b) refl (ltb-false b 2139095040 f))
    go false q e f = sym (ap (λ (n : ℕ). positive (of_bits binary32 n)) (nothing (ltb-false 0 b e)))

pub positive_is_finite : (x : Float) → positive x ≡ true → finite x ≡ true
positive_is_finite x p = is_true _ (positive-finite x (subst T (sym p) tt))

-- ---- the product
-- "rounded once": of the exact product r * num d / den d, where num d / den d is the value of d
rounded_once : (r : ℕ) (d : Float) → r ≤ 65535 → positive d ≡ true → product r d ≡ round binary32 false (r * num d) (den d)
unfolding of_int mul
rounded_once zero nan h p = absurd (subst T (sym p) tt)
rounded_once zero (inf s) h p = absurd (subst T (sym p) tt)
rounded_once zero (fin true m e) h p = absurd (subst T (sym p) tt)
rounded_once zero (fin false m e) h p = ap (λ (x : ℕ). round binary32 false (0 * (m * up e)) x) (one-mul (down e))
rounded_once (suc r) d h p =
    let t : T (positive d) = subst T (sym p) tt in
    let v = round_whole binary32 false (suc r) (omega arith) in
    let x = round binary32 false (suc r) 1 in
    let u : T (positive x) = positive_of_value x (suc r) 1 v (zero-lt-suc r) in
    mul_at binary32 x d (suc r) 1 (num d) (den d) u t (zero-lt-suc 0) (den_pos d) v (own_value d t)
    ∙ ap (λ (x : ℕ). round binary32 false (suc r * num d) x) (one-mul (den d))

-- a rounded fraction is finite, or the infinity above zero
abbrev Reached : Float → Type 0
Reached x = (finite x ≡ true) ⊎ (x ≡ inf false)

odd_finite : (q k : ℕ) → finite (odd 25 false q k 149) ≡ true
unfolding odd
odd_finite zero k = refl
odd_finite (suc q) k = refl

units_reached : (q k : ℕ) → Reached (units binary32 false q k)
unfolding units
units_reached q k = go (ltb (q * 2 ^ k) (2 ^ 277))
  where
    go : (t : Bool) → Reached (cond t (odd 25 false q k 149) (inf false))
    go true = inl (odd_finite q k)
    go false = inr refl

product_reached : (r : ℕ) (d : Float) → r ≤ 65535 → positive d ≡ true → Reached (product r d)
product_reached r d h p = subst Reached (sym (rounded_once r d h p ∙ round_is binary32 false (r * num d) (den d))) (units_reached _ _)

below_infinity : (x : Float) → Reached x → lt x (inf false) ≡ finite x
unfolding lt
below_infinity x (inr e) = ap (λ (y : Float). lt y (inf false)) e ∙ sym (ap finite e)
below_infinity nan (inl e) = refl
below_infinity (inf s) (inl e) = absurd (subst T (sym e) tt)
below_infinity (fin s m z) (inl e) = refl

infinity : of_bits binary32 2139095040 ≡ inf false
unfolding of_bits
infinity = refl

pub product_below : (r : ℕ) (d : Float) → r ≤ 65535 → positive d ≡ true → lt (product r d) (of_bits binary32 2139095040) ≡ finite (product r d)
product_below r d h p = ap (lt (product r d)) infinity ∙ below_infinity (product r d) (product_reached r d h p)

-- a product that is not finite is infinite, and not a NaN
pub product_infinite : (r : ℕ) (d : Float) → r ≤ 65535 → positive d ≡ true → finite (product r d) ≡ false → product r d ≡ inf false
product_infinite r d h p e = go (product_reached r d h p)
  where
    go : Reached (product r d) → product r d ≡ inf false
    go (inl f) = absurd (true≢false (sym f ∙ e))
    go (inr f) = f

-- ---- the time
pub time_rounded_once : (b r : ℕ) → r ≤ 65535 → positive (of_bits binary32 b) ≡ true
    → time_of b r ≡ time_by (round binary32 false (r * num (of_bits binary32 b)) (den (of_bits binary32 b)))
unfolding time_of
time_rounded_once b r h p = ap time_by (rounded_once r (of_bits binary32 b) h p)

-- rank 0 has the time +0
pub time_of_first : (b : ℕ) → positive (of_bits binary32 b) ≡ true → time_of b 0 ≡ Some (fin false 0 (pos 0))
unfolding round
time_of_first b p =
    let d = of_bits binary32 b in
    time_rounded_once b 0 (omega arith) p
    ∙ ap time_by (round_same binary32 false (0 * num d) (den d) 0 1 (den_pos d) (zero-lt-suc 0) (simp zero-mul))

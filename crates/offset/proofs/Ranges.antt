-- The answer for each range of bit patterns, as `decode` tells them apart. Assumes nothing.
use Rattle.refusal.specs.declared.Rule.TheVariants.{OffsetNotWhole, OffsetOutside}
use Rattle.std.specs.Prelude.{Ok, Err}
use Rattle.offset.specs.declared.Offset.TheVariants.{Aligned, Unaligned}
use Rattle.std.proofs.Common.{◌≡◌, ℕ, zero, suc, ◌+◌, ◌-◌, ◌*◌, ◌/◌, ◌%◌, ◌^◌, ◌<◌, ◌≤◌, Bool, true, false, eqb, leb, pos, sym, refl, ap, ◌∙◌, subst, lt_of_lt_of_le, lt_irrefl, mod-eq_of_lt, zero-lt-suc, mul_assoc, mul-le-mul, mul-pos, div-one, arith, lit<, lit≤, pow_pos, pow_mono, pow-add, shl_lt, shl_exact, eqb-true, le-leb}
use lib.Ieee.{fin, binary32, lt, odd, of_fields}
use lib.Ieee.Positive.{num, den}
use lib.Ieee.Exact.{HasValue}
use borrow.Author.Tests.{lt-leb, eqb-false}
use Rattle.refusal.specs.Table.{refusal}
use Rattle.offset.specs.Offset.{float_of, whole_float, is_whole, whole_of, offset_of}
use Rattle.offset.proofs.Fraction.{rescale, whole_at, part_at, value_at_lem, negative_at, infinite_at}
use Rattle.offset.proofs.Pattern.{exponent, significand, parts, fields, ones_infinite, pattern_value}
use Rattle.offset.proofs.Answer.{whole_answer, large_answer, not_whole_answer, aligned_case, unaligned_case}

-- ---- both zeros

pub zero_answer : (b : ℕ) → b % 2147483648 ≡ 0 → Ok (Aligned 0) ≡ offset_of b
unfolding is_whole whole_of of_fields odd lt
zero_answer b h =
    let x : exponent b ≡ 0 = omega arith in
    let t : b % 8388608 ≡ 0 = omega arith in
    let z : float_of b ≡ fin (leb 2147483648 b) 0 (pos 0) = fields b ∙ (λ i. of_fields binary32 (leb 2147483648 b) (x i) (t i)) in
    sym (whole_answer b 0 (ap whole_float z ∙ either (leb 2147483648 b)) (λ i. num (z i) / den (z i)) (lit≤ tt))
  where
    either : (s : Bool) → whole_float (fin s 0 (pos 0)) ≡ true
    either true = refl
    either false = refl

-- ---- infinities, NaNs and numbers below zero

sig_pos : (x t : ℕ) → (x ≡ 0 → 0 < t) → 0 < significand x t
sig_pos zero t h = h refl
sig_pos (suc x) t h = omega arith

-- a number that is no zero has some size
parts_pos : (b : ℕ) → (b % 2147483648 ≡ 0 → ⊥) → 0 < parts b
parts_pos b n = mul-pos (sig_pos (exponent b) (b % 8388608) (λ e. omega (arith, n))) (pow_pos (exponent b - 1))

pub high_answer : (b : ℕ) → (b % 2147483648 ≡ 0 → ⊥) → 2139095040 ≤ b → b < 4294967296 → Err (refusal OffsetNotWhole 108) ≡ offset_of b
unfolding is_whole
high_answer b n h w = sym (not_whole_answer b (go (eqb (exponent b) 255) refl))
  where
    go : (t : Bool) → eqb (exponent b) 255 ≡ t → whole_float (float_of b) ≡ false
    go true e = infinite_at (float_of b) (ones_infinite b (eqb-true (exponent b) 255 e))
    go false e =
        let x : exponent b < 255 = omega (arith, eqb-false (exponent b) 255 e) in
        let s : 2147483648 ≤ b = omega arith in
        negative_at (float_of b) (parts b) (2 ^ 149) (parts_pos b n) (pattern_value true b (le-leb 2147483648 b s) x)

-- ---- above 0 and below 1

sig_lt : (x t : ℕ) → t < 8388608 → significand x t < 2 ^ 24
sig_lt zero t h = omega arith
sig_lt (suc x) t h = omega arith

pub low_answer : (b : ℕ) → (b % 2147483648 ≡ 0 → ⊥) → b < 1065353216 → Err (refusal OffsetNotWhole 108) ≡ offset_of b
low_answer b n h =
    let x : 24 + (exponent b - 1) ≤ 149 = omega arith in
    let small : parts b < 2 ^ 149 = lt_of_lt_of_le (shl_lt 24 (exponent b - 1) (sig_lt (exponent b) (b % 8388608) (omega arith))) (pow_mono x) in
    sym (not_whole_answer b (part_at b (parts b) (2 ^ 149) (pow_pos 149) (pattern_value false b (lt-leb 2147483648 b (omega arith)) (omega arith))
    (λ r. lt_irrefl 0 (subst (λ (z : ℕ). 0 < z) (sym (mod-eq_of_lt small) ∙ r) (parts_pos b n)))))

-- ---- from 1 on

sig_normal : (x t : ℕ) → 0 < x → significand x t ≡ 8388608 + t
sig_normal zero t h = absurd (lt_irrefl 0 h)
sig_normal (suc x) t h = refl

-- a factor moved between two powers of two
moved : (q i j k l : ℕ) → i + j ≡ k + l → q * 2 ^ i * 2 ^ j ≡ q * 2 ^ k * 2 ^ l
moved q i j k l h =
    mul_assoc q (2 ^ i) (2 ^ j)
    ∙ ap (λ (x : ℕ). q * x) (sym (pow-add 2 i j) ∙ ap (λ (x : ℕ). 2 ^ x) h ∙ pow-add 2 k l)
    ∙ sym (mul_assoc q (2 ^ k) (2 ^ l))

-- the value as a fraction over 2 ^ l
value_in : (b k l : ℕ) → 1065353216 ≤ b → b < 2139095040 → b / 8388608 - 1 + l ≡ k + 149
    → HasValue (float_of b) false ((8388608 + b % 8388608) * 2 ^ k) (2 ^ l)
value_in b k l h w e =
    let x : exponent b ≡ b / 8388608 = omega arith in
    let q : significand (exponent b) (b % 8388608) ≡ 8388608 + b % 8388608 = sig_normal (exponent b) (b % 8388608) (omega arith) in
    rescale (float_of b) false (parts b) (2 ^ 149) ((8388608 + b % 8388608) * 2 ^ k) (2 ^ l) (pow_pos 149)
    ((λ i. q i * 2 ^ (x i - 1) * 2 ^ l) ∙ moved (8388608 + b % 8388608) (b / 8388608 - 1) l k 149 e)
    (pattern_value false b (lt-leb 2147483648 b (omega arith)) (omega arith))

-- from 2 ^ 28 on
pub huge_answer : (b : ℕ) → 155 ≤ b / 8388608 → b < 2139095040 → Err (refusal OffsetOutside 108) ≡ offset_of b
huge_answer b h w =
    let a = (8388608 + b % 8388608) * 2 ^ (b / 8388608 - 150) in
    let v : HasValue (float_of b) false a 1 = value_in b (b / 8388608 - 150) 0 (omega arith) w (omega arith) in
    let q : 8388608 ≤ 8388608 + b % 8388608 = omega arith in
    let k : 5 ≤ b / 8388608 - 150 = omega arith in
    let large : 134217728 < a = lt_of_lt_of_le (lit< tt) (mul-le-mul q (pow_mono k)) in
    sym (large_answer b (whole_at b a 1 (zero-lt-suc 0) v (omega arith))
    (subst (λ (z : ℕ). 134217728 < z) (sym (value_at_lem b a 1 (zero-lt-suc 0) v ∙ div-one a)) large))

-- ---- from 1 up to 2 ^ 28: the value in parts of 2 ^ -23, as the shift gives it

abbrev scaled : ℕ → ℕ
scaled b = (8388608 + b % 8388608) * 2 ^ (b / 8388608 - 127) % 18446744073709551616

module _ (b : ℕ) (h : 1065353216 ≤ b) (w : b / 8388608 < 155) where
  scaled_value : HasValue (float_of b) false (scaled b) 8388608
  scaled_value =
      subst (λ (a : ℕ). HasValue (float_of b) false a 8388608) (sym (shl_exact 24 (b / 8388608 - 127) 64 (omega arith) (omega arith)))
      (value_in b (b / 8388608 - 127) 23 h (omega arith) (omega arith))

  pub part_answer : (scaled b % 8388608 ≡ 0 → ⊥) → Err (refusal OffsetNotWhole 108) ≡ offset_of b
  part_answer n = sym (not_whole_answer b (part_at b (scaled b) 8388608 (zero-lt-suc 8388607) scaled_value n))

  module _ (r : scaled b % 8388608 ≡ 0) where
    whole : is_whole b ≡ true
    whole = whole_at b (scaled b) 8388608 (zero-lt-suc 8388607) scaled_value r

    value : whole_of b ≡ scaled b / 8388608
    value = value_at_lem b (scaled b) 8388608 (zero-lt-suc 8388607) scaled_value

    pub above_answer : 134217728 < scaled b / 8388608 → Err (refusal OffsetOutside 108) ≡ offset_of b
    above_answer l = sym (large_answer b whole (subst (λ (z : ℕ). 134217728 < z) (sym value) l))

    module _ (l : scaled b / 8388608 ≤ 134217728) where
      pub aligned_answer : scaled b / 8388608 % 16 ≡ 0 → Ok (Aligned (scaled b / 8388608)) ≡ offset_of b
      aligned_answer e = sym (whole_answer b (scaled b / 8388608) whole value l ∙ aligned_case (scaled b / 8388608) e)

      pub unaligned_answer : (scaled b / 8388608 % 16 ≡ 0 → ⊥) → Ok (Unaligned (scaled b / 8388608)) ≡ offset_of b
      unaligned_answer e = sym (whole_answer b (scaled b / 8388608) whole value l ∙ unaligned_case (scaled b / 8388608) e)

-- The value of a 32-bit pattern by its three fields: sign, exponent, digits. Assumes nothing.
use Rattle.std.proofs.Common.{◌≡◌, ℕ, zero, suc, ◌+◌, ◌-◌, ◌*◌, ◌/◌, ◌%◌, ◌^◌, ◌<◌, Bool, true, false, cond, eqb, leb, refl, ap, ◌∙◌, arith, ne_eqb}
use lib.Ieee.{nan, inf, binary32, odd, of_fields, of_bits}
use lib.Ieee.Exact.{HasValue, odd_sign}
use lib.Ieee.Scale.{finite}
use Rattle.offset.specs.Offset.{float_of}

-- the exponent's field
abbrev pub exponent : ℕ → ℕ
exponent b = b % 2147483648 / 8388608

-- the significand of an exponent's field x and the digits t: a field of 0 has no leading digit
abbrev pub significand : ℕ → ℕ → ℕ
significand zero t = t
significand (suc x) t = 8388608 + t

-- the size of the number, in parts of 2 ^ -149
abbrev pub parts : ℕ → ℕ
parts b = significand (exponent b) (b % 8388608) * 2 ^ (exponent b - 1)

pub fields : (b : ℕ) → float_of b ≡ of_fields binary32 (leb 2147483648 b) (exponent b) (b % 8388608)
unfolding of_bits
fields b = refl

normal_fields : (s : Bool) (x t : ℕ) → suc x < 255 → of_fields binary32 s (suc x) t ≡ odd 24 s (8388608 + t) x 149
unfolding of_fields
normal_fields s x t h = ap (λ (p : Bool). cond p (cond (eqb t 0) (inf s) nan) (odd 24 s (8388608 + t) x 149)) (ne_eqb (suc x) 255 (λ e. omega arith))

fields_value : (s : Bool) (x t : ℕ) → x < 255 → HasValue (of_fields binary32 s x t) s (significand x t * 2 ^ (x - 1)) (2 ^ 149)
unfolding of_fields
fields_value s zero t h = odd_sign 24 s t 0 149
fields_value s (suc x) t h =
    let e : suc x - 1 ≡ x = omega arith in
    rw (normal_fields s x t h, e) (odd_sign 24 s (8388608 + t) x 149)

-- an exponent's field of 255 is an infinity's or a NaN's
pub ones_infinite : (b : ℕ) → exponent b ≡ 255 → finite (float_of b) ≡ false
unfolding of_fields
ones_infinite b h =
    ap finite (fields b ∙ ap (λ (x : ℕ). of_fields binary32 (leb 2147483648 b) x (b % 8388608)) h)
    ∙ go (eqb (b % 8388608) 0) (leb 2147483648 b)
  where
    go : (p s : Bool) → finite (cond p (inf s) nan) ≡ false
    go true s = refl
    go false s = refl

-- any other is a number's
pub pattern_value : (s : Bool) (b : ℕ) → leb 2147483648 b ≡ s → exponent b < 255 → HasValue (float_of b) s (parts b) (2 ^ 149)
pattern_value s b e h = rw (fields b, e) (fields_value s (exponent b) (b % 8388608) h)

-- An offset that is a multiple of 16 up to the limit comes back from its bits, as an aligned one. Assumes nothing.
use Rattle.std.specs.Prelude.{Ok}
use Rattle.offset.specs.declared.Offset.TheVariants.{Aligned}
use Rattle.std.proofs.Common.{◌≡◌, ℕ, ◌*◌, ◌/◌, ◌%◌, ◌^◌, ◌<◌, ◌≤◌, true, false, pos, sym, ap, ◌∙◌, subst, lt_of_lt_of_le, zero-lt-suc, mul_assoc, mul-one, div-one, arith, lit≤, shl_lt}
use lib.Ieee.{Float, binary32, of_int}
use lib.Ieee.Bits.{of_bits-to_bits, to_bits-lt}
use lib.Ieee.Exact.{HasValue, round_exact}
use lib.Ieee.Fits.{of_int-fits}
use Rattle.offset.specs.Offset.{offset_limit, float_of, is_whole, whole_of, offset_of, aligned_of, offset_bits}
use Rattle.offset.proofs.Fraction.{whole_at, value_at_lem}
use Rattle.offset.proofs.Answer.{whole_answer, aligned_case, aligned_reads}

-- the bits of any whole number are 32
pub bits_fit : (n : ℕ) → offset_bits n < 4294967296
unfolding offset_bits
bits_fit n = to_bits-lt binary32 (of_int binary32 (pos n)) (of_int-fits binary32 (pos n))

module _ (n : ℕ) (aligned : n % 16 ≡ 0) (small : n ≤ offset_limit) where
  -- n is at most 2 ^ 23 times 16, so no digit is lost
  back_float : HasValue (float_of (offset_bits n)) false n 1
  unfolding offset_bits of_int
  back_float =
      let q = n / 16 in
      let few : q < 2 ^ 24 = omega arith in
      let n-is : n ≡ q * 16 = omega arith in
      subst (λ (x : Float). HasValue x false n 1) (sym (of_bits-to_bits binary32 (of_int binary32 (pos n)) (of_int-fits binary32 (pos n))))
      (round_exact binary32 false n 1 q 153 (zero-lt-suc 0) few (lt_of_lt_of_le (shl_lt 24 153 few) (lit≤ tt))
      (ap (λ (x : ℕ). x * 2 ^ 149) n-is ∙ mul_assoc q 16 (2 ^ 149) ∙ sym (mul-one (q * 2 ^ 153))))

  pub back_whole : is_whole (offset_bits n) ≡ true
  back_whole = whole_at (offset_bits n) n 1 (zero-lt-suc 0) back_float (omega arith)

  pub back_value : whole_of (offset_bits n) ≡ n
  back_value = value_at_lem (offset_bits n) n 1 (zero-lt-suc 0) back_float ∙ div-one n

  pub offset_back : offset_of (offset_bits n) ≡ Ok (Aligned n)
  offset_back = whole_answer (offset_bits n) n back_whole back_value small ∙ aligned_case n aligned

  pub back_aligned : aligned_of (offset_bits n) ≡ true
  back_aligned = (aligned_reads (offset_bits n) n offset_back).fact

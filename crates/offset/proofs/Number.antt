-- The float of a whole number is no NaN, so its bits are told. Assumes nothing.
use Rattle.std.proofs.Common.{◌≡◌, ℕ, zero, suc, ◌*◌, ◌^◌, Bool, true, false, cond, not, T, ltb, pos, refl}
use lib.Ieee.{inf, binary32, odd, units, of_int, is_nan}
use lib.Ieee.Fits.{round_is}

odd_number : (d : ℕ) (s : Bool) (q k l : ℕ) → is_nan (odd d s q k l) ≡ false
unfolding odd is_nan
odd_number d s zero k l = refl
odd_number d s (suc q) k l = refl

units_number : (s : Bool) (q k : ℕ) → is_nan (units binary32 s q k) ≡ false
unfolding units is_nan
units_number s q k = go (ltb (q * 2 ^ k) (2 ^ 277))
  where
    go : (b : Bool) → is_nan (cond b (odd 25 s q k 149) (inf s)) ≡ false
    go true = odd_number 25 s q k 149
    go false = refl

pub whole_number : (n : ℕ) → T (not (is_nan (of_int binary32 (pos n))))
unfolding of_int
whole_number n = simp (round_is, units_number) tt

-- A finite number is not a NaN: it has a bit pattern, and an f32 can be made of that pattern.
use Prim.Native.Nat.{ℕ}
use mathlib.Core.Path.{◌≡◌, sym, subst}
use mathlib.Core.Bool.{true, not}
use lib.Dec.{T}
use lib.Ieee.{Float, nan, inf, fin, binary32, of_bits, is_nan, nan_bits}
use lib.Ieee.Bits.{nan_bits_is}
use lib.Ieee.Scale.{finite}

pub finite_no_nan : (x : Float) → finite x ≡ true → T (not (is_nan x))
unfolding is_nan
finite_no_nan nan e = subst T (sym e) tt
finite_no_nan (inf s) e = tt
finite_no_nan (fin s m z) e = tt

-- the same of the number of a bit pattern
pub no_nan : (b : ℕ) → finite (of_bits binary32 b) ≡ true → T (not (nan_bits binary32 b))
no_nan b h = rw (nan_bits_is binary32 b) (finite_no_nan (of_bits binary32 b) h)

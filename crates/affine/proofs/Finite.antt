-- When a number of binary32 is finite: by std's word, and by the exponent's field of its pattern. Assumes nothing.
use mathlib.Core.Path.{◌≡◌, refl, sym, ap, ◌∙◌}
use mathlib.Core.Bool.{Bool, true, false, not, cond, and-eq-true_iff}
use mathlib.Core.List.{List}
use Prim.Native.Nat.{ℕ, zero, suc, ◌+◌, ◌/◌, ◌%◌}
use native.Mathlib.Omega.{arith}
use lib.Dec.{leb, eqb}
use lib.Ieee.{Float, nan, inf, fin, binary32, odd, of_fields, of_bits}
use lib.Ieee.Scale.{finite}
use Rattle.std.specs.Float.{float_is_finite}
use Rattle.number.proofs.Floats.{no_nan}
use Rattle.affine.specs.Method.{finite_row, NoNan}

pub is_finite_lem : (x : Float) → float_is_finite x ≡ finite x
unfolding float_is_finite
is_finite_lem nan = refl
is_finite_lem (inf s) = refl
is_finite_lem (fin s m e) = refl

-- ---- by the exponent's field
odd_finite : (s : Bool) (q k : ℕ) → finite (odd 24 s q k 149) ≡ true
unfolding odd
odd_finite s zero k = refl
odd_finite s (suc q) k = refl

fields_finite : (s : Bool) (x t : ℕ) → finite (of_fields binary32 s x t) ≡ not (eqb x 255)
unfolding of_fields
fields_finite s zero t = odd_finite s t 0
fields_finite s (suc x) t = by (eqb (suc x) 255) (eqb t 0)
  where
    by : (p q : Bool) → finite (cond p (cond q (inf s) nan) (odd 24 s (8388608 + t) x 149)) ≡ not p
    by true true = refl
    by true false = refl
    by false q = odd_finite s (8388608 + t) x

pub pattern_finite : (b : ℕ) → not (eqb (b / 8388608 % 256) 255) ≡ finite (of_bits binary32 b)
unfolding of_bits
pattern_finite b = ap (λ (x : ℕ). not (eqb x 255)) (field b) ∙ sym (fields_finite (leb 2147483648 b) (b % 2147483648 / 8388608) (b % 8388608))
  where
    field : (b : ℕ) → b / 8388608 % 256 ≡ b % 2147483648 / 8388608
    field b = omega arith

-- ---- a finite row has no NaN
pub finite_row_lem : (row : List ℕ) → finite_row row ≡ true → NoNan row
unfolding finite_row
finite_row_lem row e =
    let three = (and-eq-true_iff _ _).0 e in
    let two = (and-eq-true_iff _ _).0 three.0 in
    let one = (and-eq-true_iff _ _).0 two.0 in
    record { n0 = no_nan _ one.0; n1 = no_nan _ one.1; n2 = no_nan _ two.1; n3 = no_nan _ three.1 }

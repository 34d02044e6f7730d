-- The numbers of a turned row are numbers of binary32, so that their patterns are of 32 bits, and reading a pattern gives the number back.
use mathlib.Core.Path.{◌≡◌}
use mathlib.Core.Bool.{Bool, true, false}
use mathlib.Core.List.{List, [], ◌∷◌}
use Prim.Native.Nat.{ℕ, zero, suc, ◌-◌, ◌<◌}
use native.Mathlib.Omega.{arith}
use lib.ListN.{get_or}
use lib.Dec.{T}
use lib.IntN.{pos}
use lib.Ieee.{Float, binary32, mul, of_int, to_bits, fits}
use lib.Ieee.Bits.{to_bits-lt, of_bits-to_bits, of_bits-fits}
use lib.Ieee.Fits.{add-fits, neg-fits}
use Rattle.affine.specs.Method.{number_at}
use Rattle.reorient.specs.declared.Turn.{Turn}
use Rattle.reorient.proofs.Members.{each_permuted}
use Rattle.reorient_rows.specs.Rows.{shifted, facing, no_number, float_at, numbers_after, row_numbers, row_after}

facing_fits : (r : Bool) (x : Float) → T (fits binary32 x) → T (fits binary32 (facing r x))
facing_fits false x h = h
facing_fits true x h = neg-fits binary32 x h

shifted_fits : (r : Bool) (n : ℕ) (c s : Float) → T (fits binary32 s) → T (fits binary32 (shifted r n c s))
shifted_fits false n c s h = h
shifted_fits true n c s h = add-fits binary32 s (mul binary32 c (of_int binary32 (pos (n - 1))))

each_of_four : {A : Type 0} (P : A → Type 0) (d : A) {a b c e : A} → P d → P a → P b → P c → P e
    → (i : ℕ) → P (get_or (a ∷ (b ∷ (c ∷ (e ∷ [])))) i d)
each_of_four P d k p q r s zero = p
each_of_four P d k p q r s (suc zero) = q
each_of_four P d k p q r s (suc (suc zero)) = r
each_of_four P d k p q r s (suc (suc (suc zero))) = s
each_of_four P d k p q r s (suc (suc (suc (suc i)))) = k

module _ (t : Turn) (l m n : ℕ) (row : List ℕ) where
  number_fits : (k : ℕ) → T (fits binary32 (float_at (row_numbers t l m n row) k))
  unfolding numbers_after fits
  number_fits =
      let old : (k : ℕ) → T (fits binary32 (number_at row k)) = λ k. of_bits-fits binary32 (get_or row k 0) in
      each_permuted (λ x. T (fits binary32 x)) no_number t _
      (each_of_four (λ x. T (fits binary32 x)) no_number tt
      (facing_fits t.reversed1 (number_at row 0) (old 0))
      (facing_fits t.reversed2 (number_at row 1) (old 1))
      (facing_fits t.reversed3 (number_at row 2) (old 2))
      (shifted_fits t.reversed3 n (number_at row 2) _
      (shifted_fits t.reversed2 m (number_at row 1) _
      (shifted_fits t.reversed1 l (number_at row 0) _ (old 3)))))

  pub pattern_below : (k : ℕ) → get_or (row_after t l m n row) k 0 < 4294967296
  unfolding row_after
  pattern_below =
      let below : (k : ℕ) → to_bits binary32 (float_at (row_numbers t l m n row) k) < 4294967296 =
      λ k. to_bits-lt binary32 (float_at (row_numbers t l m n row) k) (number_fits k) in
      each_of_four (λ x. x < 4294967296) 0 (omega arith) (below 0) (below 1) (below 2) (below 3)

  pub number_after : (k : ℕ) → k < 4 → number_at (row_after t l m n row) k ≡ float_at (row_numbers t l m n row) k
  unfolding row_after
  number_after zero h = of_bits-to_bits binary32 (float_at (row_numbers t l m n row) 0) (number_fits 0)
  number_after (suc zero) h = of_bits-to_bits binary32 (float_at (row_numbers t l m n row) 1) (number_fits 1)
  number_after (suc (suc zero)) h = of_bits-to_bits binary32 (float_at (row_numbers t l m n row) 2) (number_fits 2)
  number_after (suc (suc (suc zero))) h = of_bits-to_bits binary32 (float_at (row_numbers t l m n row) 3) (number_fits 3)
  number_after (suc (suc (suc (suc k)))) h = absurd (omega arith)

-- A number that is not finite stays so, so that a row that holds one has no turned row.
use mathlib.Core.Path.{◌≡◌, refl, sym, ◌∙◌}
use mathlib.Core.Bool.{Bool, true, false, not, ◌&&◌}
use mathlib.Core.List.{List, [], ◌∷◌}
use Prim.Native.Nat.{ℕ, ◌-◌}
use lib.IntN.{pos}
use lib.Ieee.{Float, nan, inf, fin, binary32, add, mul, neg, of_int, is_nan}
use lib.Dec.{T}
use lib.Ieee.Scale.{finite}
use Rattle.reorient.specs.declared.Turn.{Turn}
use Rattle.reorient.specs.Reorient.{is_permutation, permuted}
use Rattle.reorient.proofs.Orders.{by_order, order, all_four}
use Rattle.reorient_rows.specs.Rows.{shifted, facing, numbers_after, no_number, float_at, are_finite, finite_after}
use Rattle.affine.specs.Method.{number_at, finite_row}
use Rattle.number.proofs.Floats.{finite_no_nan}

finite_facing : (r : Bool) (x : Float) → finite (facing r x) ≡ finite x
unfolding neg
finite_facing false x = refl
finite_facing true nan = refl
finite_facing true (inf s) = refl
finite_facing true (fin s m e) = refl

finite_sum : (x y : Float) → finite (add binary32 x y) ≡ true → finite x ≡ true
unfolding add
finite_sum nan y h = h
finite_sum (inf s) nan h = h
finite_sum (inf true) (inf true) h = h
finite_sum (inf true) (inf false) h = h
finite_sum (inf false) (inf true) h = h
finite_sum (inf false) (inf false) h = h
finite_sum (inf s) (fin t n d) h = h
finite_sum (fin s m e) y h = refl

finite_shifted : (r : Bool) (n : ℕ) (c s : Float) → finite (shifted r n c s) ≡ true → finite s ≡ true
finite_shifted false n c s h = h
finite_shifted true n c s h = finite_sum s (mul binary32 c (of_int binary32 (pos (n - 1)))) h

-- the four numbers are finite, if those that were permuted are
permuted_finite : (a b c s : Float) (t : Turn) → is_permutation t ≡ true → are_finite (permuted no_number t (a ∷ (b ∷ (c ∷ (s ∷ []))))) ≡ true
    → (finite a ≡ true) × (finite b ≡ true) × (finite c ≡ true) × (finite s ≡ true)
unfolding permuted
permuted_finite a b c s t h =
    by_order
    (λ x y z. are_finite (permuted no_number (order t x y z) (a ∷ (b ∷ (c ∷ (s ∷ []))))) ≡ true
    → (finite a ≡ true) × (finite b ≡ true) × (finite c ≡ true) × (finite s ≡ true))
    (λ w. let p = all_four (finite a) (finite b) (finite c) (finite s) w in (p.0, p.1, p.2, p.3))
    (λ w. let p = all_four (finite a) (finite c) (finite b) (finite s) w in (p.0, p.2, p.1, p.3))
    (λ w. let p = all_four (finite b) (finite a) (finite c) (finite s) w in (p.1, p.0, p.2, p.3))
    (λ w. let p = all_four (finite b) (finite c) (finite a) (finite s) w in (p.2, p.0, p.1, p.3))
    (λ w. let p = all_four (finite c) (finite a) (finite b) (finite s) w in (p.1, p.2, p.0, p.3))
    (λ w. let p = all_four (finite c) (finite b) (finite a) (finite s) w in (p.2, p.1, p.0, p.3))
    t h

turned_finite : (t : Turn) (l m n : ℕ) (a b c s : Float) → is_permutation t ≡ true → are_finite (numbers_after t l m n a b c s) ≡ true
    → (finite a && finite b && finite c && finite s) ≡ true
unfolding numbers_after
turned_finite t l m n a b c s h w =
    let s1 : Float = shifted t.reversed1 l a s in
    let s2 : Float = shifted t.reversed2 m b s1 in
    let s3 : Float = shifted t.reversed3 n c s2 in
    let p = permuted_finite (facing t.reversed1 a) (facing t.reversed2 b) (facing t.reversed3 c) s3 t h w in
    let a' : finite a ≡ true = sym (finite_facing t.reversed1 a) ∙ p.0 in
    let b' : finite b ≡ true = sym (finite_facing t.reversed2 b) ∙ p.1 in
    let c' : finite c ≡ true = sym (finite_facing t.reversed3 c) ∙ p.2 in
    let s2' : finite s2 ≡ true = finite_shifted t.reversed3 n c s2 p.3 in
    let s1' : finite s1 ≡ true = finite_shifted t.reversed2 m b s1 s2' in
    let s' : finite s ≡ true = finite_shifted t.reversed1 l a s s1' in
    rw (a', b', c', s')

-- and so of the numbers of a row
pub after_finite : (t : Turn) (l m n : ℕ) (row : List ℕ) → is_permutation t ≡ true → finite_after t l m n row ≡ true → finite_row row ≡ true
unfolding finite_after finite_row
after_finite t l m n row h w = turned_finite t l m n (number_at row 0) (number_at row 1) (number_at row 2) (number_at row 3) h w

contrary : (x y : Bool) → (x ≡ true → y ≡ true) → y ≡ false → x ≡ false
contrary true y f h = sym (f refl) ∙ h
contrary false y f h = refl

pub never_finite : (t : Turn) (l m n : ℕ) (row : List ℕ) → is_permutation t ≡ true → finite_row row ≡ false → finite_after t l m n row ≡ false
never_finite t l m n row h e = contrary (finite_after t l m n row) (finite_row row) (after_finite t l m n row h) e

-- the four numbers of a row, as they are made
pub numbers_made : (t : Turn) (l m n : ℕ) (a b c s s1 s2 s3 x y z p q r : Float)
    → s1 ≡ shifted t.reversed1 l a s → s2 ≡ shifted t.reversed2 m b s1 → s3 ≡ shifted t.reversed3 n c s2
    → x ≡ facing t.reversed1 a → y ≡ facing t.reversed2 b → z ≡ facing t.reversed3 c
    → p ≡ float_at (x ∷ (y ∷ (z ∷ (s3 ∷ [])))) (t.axis1 - 1)
    → q ≡ float_at (x ∷ (y ∷ (z ∷ (s3 ∷ [])))) (t.axis2 - 1)
    → r ≡ float_at (x ∷ (y ∷ (z ∷ (s3 ∷ [])))) (t.axis3 - 1)
    → (p ∷ (q ∷ (r ∷ (s3 ∷ [])))) ≡ numbers_after t l m n a b c s
unfolding numbers_after permuted
numbers_made t l m n a b c s s1 s2 s3 x y z p q r e1 e2 e3 ex ey ez ep eq er = rw (ep, eq, er, ex, ey, ez, e3, e2, e1)

-- what is known where the four are finite
pub record AllFinite (p q r s : Float) : Type 0 where
  pub first : T (not (is_nan p))
  pub second : T (not (is_nan q))
  pub third : T (not (is_nan r))
  pub shift : T (not (is_nan s))

pub all_finite : (p q r s : Float) → (finite p && (finite q && (finite r && finite s))) ≡ true → AllFinite p q r s
all_finite p q r s h =
    let e = all_four (finite p) (finite q) (finite r) (finite s) h in
    record {
      first = finite_no_nan p e.0;
      second = finite_no_nan q e.1;
      third = finite_no_nan r e.2;
      shift = finite_no_nan s e.3;
    }

-- What the functions ask of the definitions in specs/After.antt.
use mathlib.Core.Path.{◌≡◌, sym, ap, ◌∙◌}
use mathlib.Core.Bool.{Bool, true, false, ◌&&◌, and-eq-true_iff}
use mathlib.Core.List.{List, [], ◌∷◌}
use Prim.Native.Nat.{ℕ, ◌+◌, ◌-◌, ◌≤◌}
use native.Mathlib.Omega.{arith}
use lib.ListN.{length, get_or, drop, drop_of_length-le}
use lib.Seq.{drop-cons, drop-drop, get_or-drop}
use lib.IntN.{ℤ, pos}
use lib.Signed.{le_z}
use borrow.Author.Tests.{not-false}
use Rattle.header.specs.declared.Header.{Header}
use Rattle.header.specs.declared.Rows.{Rows}
use Rattle.reorient.specs.declared.Turn.{Turn}
use Rattle.reorient.specs.Reorient.{is_permutation, permuted}
use Rattle.reorient.proofs.Axes.{bounds}
use Rattle.reorient_rows.specs.Rows.{finite_after, row_after}
use Rattle.reorient_header.specs.After.{length_in, rows_after, finite_rows_after, not_finite}

-- the entries from 4 on
last_four : {A : Type 0} (xs : List A) (d : A) → length xs ≡ 8
    → drop 4 xs ≡ get_or xs 4 d ∷ (get_or xs 5 d ∷ (get_or xs 6 d ∷ (get_or xs 7 d ∷ [])))
last_four xs d h =
    let e : drop 8 xs ≡ [] = drop_of_length-le xs {i = 8} (omega arith) in
    drop-cons xs 4 d (omega arith)
    ∙ ap (λ l. get_or xs 4 d ∷ l) (drop-cons xs 5 d (omega arith)
    ∙ ap (λ l. get_or xs 5 d ∷ l) (drop-cons xs 6 d (omega arith)
    ∙ ap (λ l. get_or xs 6 d ∷ l) (drop-cons xs 7 d (omega arith) ∙ ap (λ l. get_or xs 7 d ∷ l) e)))

-- dim and pixdim: eight entries, of which 1 to 7 are those of the axes
pub entries : {A : Type 0} (xs : List A) (d : A) (t : Turn) → is_permutation t ≡ true → length xs ≡ 8
    → (get_or xs t.axis1 d ∷ (get_or xs t.axis2 d ∷ (get_or xs t.axis3 d
    ∷ (get_or xs 4 d ∷ (get_or xs 5 d ∷ (get_or xs 6 d ∷ (get_or xs 7 d ∷ [])))))))
    ≡ permuted d t (drop 1 xs)
unfolding permuted
entries {A} xs d t ht h =
    let b = bounds t ht in
    let ys : List A = drop 1 xs in
    let at : (k : ℕ) → 1 ≤ k → get_or xs k d ≡ get_or (drop 1 xs) (k - 1) d =
    λ k l. sym (get_or-drop 1 xs (k - 1) d ∙ ap (λ (i : ℕ). get_or xs i d) (one_less k l)) in
    rw (at t.axis1 b.low1, at t.axis2 b.low2, at t.axis3 b.low3)
    (ap (λ (l : List A). get_or ys (t.axis1 - 1) d ∷ (get_or ys (t.axis2 - 1) d ∷ (get_or ys (t.axis3 - 1) d ∷ l)))
    (sym (drop-drop 3 1 xs ∙ last_four xs d h)))
  where
    one_less : (k : ℕ) → 1 ≤ k → 1 + (k - 1) ≡ k
    one_less k l = omega arith

-- the twelve numbers, with the lengths as they were read
module _ (t : Turn) (dim : List ℤ) (g : Rows) (l m n : ℕ)
    (el : l ≡ length_in dim 1) (em : m ≡ length_in dim 2) (en : n ≡ length_in dim 3) where
  pub rows_finite : (x y z : Bool) → x ≡ finite_after t l m n g.srow_x → y ≡ finite_after t l m n g.srow_y
      → z ≡ finite_after t l m n g.srow_z → (x && (y && z)) ≡ finite_rows_after t dim g
  unfolding finite_rows_after
  rows_finite x y z ex ey ez = rw (ex, ey, ez, el, em, en)

  pub rows_made : (x y z : List ℕ) → x ≡ row_after t l m n g.srow_x → y ≡ row_after t l m n g.srow_y
      → z ≡ row_after t l m n g.srow_z
      → record { srow_x = x; srow_y = y; srow_z = z; intent_name = g.intent_name; magic = g.magic } ≡ rows_after t dim g
  unfolding rows_after
  rows_made x y z ex ey ez = rw (ex, ey, ez, el, em, en)

  -- each row by itself
  pub each_finite : finite_rows_after t dim g ≡ true
      → (finite_after t l m n g.srow_x ≡ true)
      × (finite_after t l m n g.srow_y ≡ true)
      × (finite_after t l m n g.srow_z ≡ true)
  unfolding finite_rows_after
  each_finite h =
      let p = (and-eq-true_iff _ _).0 h in
      let q = (and-eq-true_iff _ _).0 p.1 in
      rw (el, em, en) (p.0, q.0, q.1)

-- where there is a sform, 23 is that its new numbers are not finite
pub sform_finite : (t : Turn) (h : Header) → le_z h.quatern.sform_code (pos 0) ≡ false → not_finite t h ≡ false
    → finite_rows_after t h.dim h.rows ≡ true
unfolding not_finite
sform_finite t h e f = not-false _ (rw e at f)

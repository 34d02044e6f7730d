-- The stated case in which a position is exact, after a turn (02-change-requests.md, P10; 01-scope.md, "If the first three numbers of
-- each row are whole and at most 64 in size, and its last is whole and at most 8,388,608 in size, the position is the exact whole
-- number"). Where the old rows are such, the position of a new voxel by the new rows is exactly that of the voxel it came from by the
-- old rows. The new shift may be above the stated limit: the last sum is exact since the old position is small.
use mathlib.Core.Path.{◌≡◌, sym, ap, ◌∙◌}
use mathlib.Core.Bool.{Bool, true, false}
use mathlib.Core.List.{List, [], ◌∷◌}
use Prim.Native.Nat.{ℕ, ◌+◌, ◌-◌, ◌^◌, ◌≤◌, ◌<◌}
use native.Mathlib.Nat.{le_trans}
use native.Mathlib.Omega.{arith}
use lib.ListN.{get_or}
use lib.IntN.{ℤ, nat_abs, ◌+ℤ◌}
use lib.Ieee.{Float, binary32, add, mul}
use Rattle.grid.specs.Grid.{within}
use Rattle.grid.proofs.Voxels.{within_both}
use Rattle.affine.specs.Method.{index_of, finite_row, position_of}
use Rattle.affine.specs.Whole.{first_limit, last_limit, IsWhole, WholeRow, exact_of, PlacedExactly}
use Rattle.affine.proofs.Exact.{Within, within as small, size_within, wider, index_within, mul_within, add_within, add_exact, neg_within}
use Rattle.affine.proofs.Theorems.{value_at, whole_finite, placed_exactly}
use Rattle.reorient.specs.declared.Turn.{Turn}
use Rattle.reorient.specs.Reorient.{is_permutation, permuted, shown_as, unpermuted, mirrored_in, reversals, came_from}
use Rattle.reorient.proofs.Orders.{within_permuted}
use Rattle.reorient.proofs.Indexes.{three, mirrored_in_within}
use Rattle.reorient.proofs.Axes.{bounds, by_axis}
use Rattle.reorient_rows.specs.Rows.{shifted, facing, no_number, float_at, numbers_after, row_numbers, finite_after, row_after}
use Rattle.reorient_rows.proofs.Integers.{faced, moved, across, column_of, across_permuted, across_faced}
use Rattle.reorient_rows.proofs.Patterns.{number_after}

-- ---- Columns and shift

facing_within : (r : Bool) {x : Float} {z : ℤ} {B : ℕ} → Within x z B → Within (facing r x) (faced r z) B
facing_within false v = v
facing_within true v = neg_within v

shifted_within : (r : Bool) (n : ℕ) {c s : Float} {a z : ℤ} {B : ℕ} → Within c a first_limit → Within s z B → n ≤ 32767
    → B + 2097088 ≤ 2 ^ 24 → Within (shifted r n c s) (moved r n a z) (B + 2097088)
shifted_within false n {B = B} v w h k = wider (B + 2097088) w (omega arith)
shifted_within true n v w h k = add_within w (mul_within v (index_within (n - 1) (omega arith)) (omega arith)) k

columns_within : {f g h : Float} {a b c : ℤ} (i j k : ℕ) → Within f a first_limit → Within g b first_limit → Within h c first_limit
    → i < 32768 → j < 32768 → k < 32768
    → Within (add binary32 (add binary32 (mul binary32 f (index_of i)) (mul binary32 g (index_of j))) (mul binary32 h (index_of k)))
    (across a b c i j k) 6291264
columns_within i j k u v w hi hj hk =
    let x = mul_within u (index_within i hi) (omega arith) in
    let y = mul_within v (index_within j hj) (omega arith) in
    let z = mul_within w (index_within k hk) (omega arith) in
    add_within (add_within x y (omega arith)) z (omega arith)

-- ---- A row

-- four numbers that are whole, the last within what a turn leaves of a shift
record Four (xs : List Float) (a b c s : ℤ) : Type 0 where
  first : Within (float_at xs 0) a first_limit
  second : Within (float_at xs 1) b first_limit
  third : Within (float_at xs 2) c first_limit
  shift : Within (float_at xs 3) s 14679872

permuted_four : {a b c s : Float} {p q r z : ℤ} (t : Turn) → is_permutation t ≡ true
    → Within a p first_limit → Within b q first_limit → Within c r first_limit → Within s z 14679872
    → Four (permuted no_number t (a ∷ (b ∷ (c ∷ (s ∷ [])))))
    (column_of p q r t.axis1) (column_of p q r t.axis2) (column_of p q r t.axis3) z
unfolding permuted
permuted_four {a} {b} {c} {s} {p} {q} {r} {z} t ht u v w x =
    let e = bounds t ht in
    let at = by_axis (λ o. Within (float_at (a ∷ (b ∷ (c ∷ (s ∷ [])))) (o - 1)) (column_of p q r o) first_limit) u v w in
    record {
      first = at t.axis1 e.low1 e.high1;
      second = at t.axis2 e.low2 e.high2;
      third = at t.axis3 e.low3 e.high3;
      shift = x;
    }

module _ {row : List ℕ} (u : WholeRow row) (t : Turn) (ht : is_permutation t ≡ true)
    (l m n : ℕ) (hl : l ≤ 32767) (hm : m ≤ 32767) (hn : n ≤ 32767) where
  -- the new column of an old axis, and the new shift
  abbrev column : ℕ → ℤ
  column o = column_of (faced t.reversed1 u.n0) (faced t.reversed2 u.n1) (faced t.reversed3 u.n2) o

  abbrev shift : ℤ
  shift = moved t.reversed3 n u.n2 (moved t.reversed2 m u.n1 (moved t.reversed1 l u.n0 u.n3))

  new_numbers : Four (row_numbers t l m n row) (column t.axis1) (column t.axis2) (column t.axis3) shift
  unfolding numbers_after
  new_numbers =
      let a0 = small first_limit u.is0 u.small0 in
      let a1 = small first_limit u.is1 u.small1 in
      let a2 = small first_limit u.is2 u.small2 in
      let s1 = shifted_within t.reversed1 l a0 (small last_limit u.is3 u.small3) hl (omega arith) in
      let s2 = shifted_within t.reversed2 m a1 s1 hm (omega arith) in
      let s3 = shifted_within t.reversed3 n a2 s2 hn (omega arith) in
      permuted_four t ht (facing_within t.reversed1 a0) (facing_within t.reversed2 a1) (facing_within t.reversed3 a2) s3

  -- such a row is never refused by 23
  pub whole_after : finite_after t l m n row ≡ true
  unfolding finite_after
  whole_after =
      let w = new_numbers in
      rw (whole_finite w.first.whole, whole_finite w.second.whole, whole_finite w.third.whole, whole_finite w.shift.whole)

  row_finite : finite_row (row_after t l m n row) ≡ true
  unfolding finite_row
  row_finite =
      let w = new_numbers in
      let at = number_after t l m n row in
      rw (at 0 (omega arith), at 1 (omega arith), at 2 (omega arith), at 3 (omega arith))
      (rw (whole_finite w.first.whole, whole_finite w.second.whole, whole_finite w.third.whole, whole_finite w.shift.whole))

  module _ (ns : List ℕ) (i j k : ℕ) (is : List ℕ) (inside : within (permuted 0 t (three l m n ns)) (i ∷ (j ∷ (k ∷ is))) ≡ true) where
    -- the index that it came from
    abbrev from : ℕ → ℕ
    from o = get_or (came_from t (three l m n ns) (i ∷ (j ∷ (k ∷ is)))) o 0

    index_small : (i < 32768) × (j < 32768) × (k < 32768)
    unfolding permuted
    index_small =
        let b = bounds t ht in
        let at : (o : ℕ) → 1 ≤ o → o ≤ 3 → get_or (three l m n ns) (o - 1) 0 ≤ 32767 =
        by_axis (λ o. get_or (three l m n ns) (o - 1) 0 ≤ 32767) hl hm hn in
        let p = within_both _ _ i _ inside in
        let q = within_both _ _ j _ p.1 in
        let r = within_both _ _ k _ q.1 in
        let h1 = at t.axis1 b.low1 b.high1 in
        let h2 = at t.axis2 b.low2 b.high2 in
        let h3 = at t.axis3 b.low3 b.high3 in
        (omega (arith, p.0, h1), omega (arith, q.0, h2), omega (arith, r.0, h3))

    old_below : (shown_as t 1 i j k < l) × (shown_as t 2 i j k < m) × (shown_as t 3 i j k < n)
    unfolding unpermuted
    old_below =
        let p = within_both _ _ _ _ (sym (within_permuted l m n i j k ns is t ht) ∙ inside) in
        let q = within_both _ _ _ _ p.1 in
        (p.0, q.0, (within_both _ _ _ _ q.1).0)

    from_small : (from 0 < 32768) × (from 1 < 32768) × (from 2 < 32768)
    unfolding came_from mirrored_in unpermuted
    from_small =
        let held = sym (within_permuted l m n i j k ns is t ht) ∙ inside in
        let p = within_both _ _ _ _ (mirrored_in_within (reversals t) (three l m n ns) _ held) in
        let q = within_both _ _ _ _ p.1 in
        let r = within_both _ _ _ _ q.1 in
        (omega (arith, p.0), omega (arith, q.0), omega (arith, r.0))

    -- by integers, the new row gives what the old one does
    same : across (column t.axis1) (column t.axis2) (column t.axis3) i j k +ℤ shift ≡ exact_of u (from 0) (from 1) (from 2)
    unfolding came_from mirrored_in unpermuted
    same =
        let b = old_below in
        ap (λ z. z +ℤ shift)
        (across_permuted (faced t.reversed1 u.n0) (faced t.reversed2 u.n1) (faced t.reversed3 u.n2) i j k t ht)
        ∙ across_faced t.reversed1 t.reversed2 t.reversed3 l m n _ _ _ u.n0 u.n1 u.n2 u.n3 b.0 b.1 b.2

    exact_small : nat_abs (exact_of u (from 0) (from 1) (from 2)) ≤ 2 ^ 24
    exact_small =
        let b = from_small in
        let a0 = small first_limit u.is0 u.small0 in
        let a1 = small first_limit u.is1 u.small1 in
        let a2 = small first_limit u.is2 u.small2 in
        let c = columns_within (from 0) (from 1) (from 2) a0 a1 a2 b.0 b.1 b.2 in
        le_trans (size_within (add_within c (small last_limit u.is3 u.small3) (omega arith))) (omega arith)

    row_exact : IsWhole (value_at (row_after t l m n row) i j k) (exact_of u (from 0) (from 1) (from 2))
    row_exact =
        let w = new_numbers in
        let b = index_small in
        let c = columns_within i j k w.first w.second w.third b.0 b.1 b.2 in
        let at = number_after t l m n row in
        rw (at 0 (omega arith), at 1 (omega arith), at 2 (omega arith), at 3 (omega arith), ← same)
        (add_exact c w.shift (rw same exact_small))

-- ---- The position

pub turned_exact : {x y z : List ℕ} (u : WholeRow x) (v : WholeRow y) (w : WholeRow z) (t : Turn) → is_permutation t ≡ true
    → (l m n : ℕ) → l ≤ 32767 → m ≤ 32767 → n ≤ 32767
    → (ns : List ℕ) (i j k : ℕ) (is : List ℕ) → within (permuted 0 t (three l m n ns)) (i ∷ (j ∷ (k ∷ is))) ≡ true
    → let old : ℕ → ℕ = λ o. get_or (came_from t (three l m n ns) (i ∷ (j ∷ (k ∷ is)))) o 0 in
    PlacedExactly (position_of (row_after t l m n x) (row_after t l m n y) (row_after t l m n z) i j k)
    (exact_of u (old 0) (old 1) (old 2)) (exact_of v (old 0) (old 1) (old 2)) (exact_of w (old 0) (old 1) (old 2))
turned_exact {x} {y} {z} u v w t h l m n hl hm hn ns i j k is inside =
    placed_exactly (row_after t l m n x) (row_after t l m n y) (row_after t l m n z) i j k
    (row_finite u t h l m n hl hm hn) (row_finite v t h l m n hl hm hn) (row_finite w t h l m n hl hm hn)
    (row_exact u t h l m n hl hm hn ns i j k is inside)
    (row_exact v t h l m n hl hm hn ns i j k is inside)
    (row_exact w t h l m n hl hm hn ns i j k is inside)

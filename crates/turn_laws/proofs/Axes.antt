-- The dims of a turned record: each of the first three is that of an old axis, so rule 5 passes them, and the seven lengths are the old
-- ones permuted, with as many voxels.
use Prim.Native.Nat.{ℕ, zero, suc, ◌+◌, ◌-◌, ◌*◌, ◌≤◌, ◌<◌}
use mathlib.Core.Path.{◌≡◌, sym, ap, ◌∙◌}
use mathlib.Core.Bool.{true}
use mathlib.Core.List.{List}
use native.Mathlib.Omega.{arith}
use borrow.Author.Tests.{lt-ltb}
use lib.ListN.{get_or, drop, length-drop}
use lib.Seq.{get_or-drop, ext_get_or}
use lib.IntN.{ℤ, pos}
use Rattle.grid.specs.Grid.{voxels}
use Rattle.grid.specs.Axes.{dim_at, first_below, image_bytes, seven_axes}
use Rattle.grid.proofs.Axes.{NoneBelow, first_none, image_seven, seven_at}
use Rattle.grid.proofs.Bounds.{seven_length}
use Rattle.reorient.specs.declared.Turn.{Turn}
use Rattle.reorient.specs.Reorient.{is_permutation, permuted}
use Rattle.reorient.proofs.Axes.{bounds, all_seven}
use Rattle.reorient.proofs.Orders.{voxels_permuted}
use Rattle.reorient_header.specs.After.{entries_after, dims_after}

module _ (t : Turn) (dim : List ℤ) where
  -- dim[1] to dim[3] are those of the old axes that are shown, and the others stay
  old_at : (k : ℕ) → 1 ≤ k → get_or (drop 1 dim) (k - 1) (pos 0) ≡ dim_at dim k
  old_at k h =
      let e : 1 + (k - 1) ≡ k = omega arith in
      get_or-drop 1 dim (k - 1) (pos 0) ∙ ap (dim_at dim) e

  module _ (ht : is_permutation t ≡ true) where
    pub dim_1 : dim_at (dims_after t dim) 1 ≡ dim_at dim t.axis1
    unfolding entries_after permuted
    dim_1 = old_at t.axis1 (bounds t ht).low1

    pub dim_2 : dim_at (dims_after t dim) 2 ≡ dim_at dim t.axis2
    unfolding entries_after permuted
    dim_2 = old_at t.axis2 (bounds t ht).low2

    pub dim_3 : dim_at (dims_after t dim) 3 ≡ dim_at dim t.axis3
    unfolding entries_after permuted
    dim_3 = old_at t.axis3 (bounds t ht).low3

  dim_past : (k : ℕ) → dim_at (dims_after t dim) (suc (suc (suc (suc k)))) ≡ dim_at dim (suc (suc (suc (suc k))))
  unfolding entries_after permuted
  dim_past k =
      let e : 1 + (3 + k) ≡ suc (suc (suc (suc k))) = omega arith in
      get_or-drop 3 (drop 1 dim) k (pos 0) ∙ get_or-drop 1 dim (3 + k) (pos 0) ∙ ap (dim_at dim) e

  module _ (ht : is_permutation t ≡ true) (n : ℕ) (three : 3 ≤ n) where
    -- rule 5
    none_after : NoneBelow dim n → NoneBelow (dims_after t dim) n
    none_after h zero l m = absurd (omega arith)
    none_after h (suc zero) l m = let b = bounds t ht in rw (dim_1 ht) (h t.axis1 b.low1 (omega (arith, b.high1)))
    none_after h (suc (suc zero)) l m = let b = bounds t ht in rw (dim_2 ht) (h t.axis2 b.low2 (omega (arith, b.high2)))
    none_after h (suc (suc (suc zero))) l m = let b = bounds t ht in rw (dim_3 ht) (h t.axis3 b.low3 (omega (arith, b.high3)))
    none_after h (suc (suc (suc (suc k)))) l m = rw (dim_past k) (h (suc (suc (suc (suc k)))) l m)

    pub first_after : first_below dim n ≡ 0 → first_below (dims_after t dim) n ≡ 0
    first_after h = (first_none (dims_after t dim) n).1 (none_after ((first_none dim n).0 h))

    -- the seven lengths
    module _ (seven : n ≤ 7) where
      abbrev old : List ℕ
      old = seven_axes dim n

      shown : (k axis : ℕ) → k < n → k < 7 → 1 ≤ axis → axis ≤ 3 → dim_at (dims_after t dim) (suc k) ≡ dim_at dim axis
          → get_or (seven_axes (dims_after t dim) n) k 0 ≡ get_or old (axis - 1) 0
      shown k axis h l low high e =
          let back : suc (axis - 1) ≡ axis = omega arith in
          seven_at (dims_after t dim) n k l
          ∙ rw (lt-ltb k n h, e)
          (sym (seven_at dim n (axis - 1) (omega arith) ∙ rw (lt-ltb (axis - 1) n (omega arith), back)))

      each : (k : ℕ) → k < 7 → get_or (seven_axes (dims_after t dim) n) k 0 ≡ get_or (permuted 0 t old) k 0
      unfolding permuted
      each zero h = let b = bounds t ht in shown 0 t.axis1 (omega arith) h b.low1 b.high1 (dim_1 ht)
      each (suc zero) h = let b = bounds t ht in shown 1 t.axis2 (omega arith) h b.low2 b.high2 (dim_2 ht)
      each (suc (suc zero)) h = let b = bounds t ht in shown 2 t.axis3 (omega arith) h b.low3 b.high3 (dim_3 ht)
      each (suc (suc (suc k))) h =
          let j : ℕ = suc (suc (suc k)) in
          let e : 3 + k ≡ j = omega arith in
          seven_at (dims_after t dim) n j h
          ∙ rw (dim_past k) (sym (get_or-drop 3 old k 0 ∙ ap (λ (i : ℕ). get_or old i 0) e ∙ seven_at dim n j h))

      pub seven_after : seven_axes (dims_after t dim) n ≡ permuted 0 t old
      unfolding permuted
      seven_after =
          let a = seven_length (dims_after t dim) n seven in
          let b = seven_length dim n seven in
          let c = length-drop 3 old in
          ext_get_or 0 (seven_axes (dims_after t dim) n) (permuted 0 t old) (omega arith) (λ k h. each k (omega arith))

      -- with as many voxels, and so as many bytes
      pub voxels_after : voxels (seven_axes (dims_after t dim) n) ≡ voxels old
      voxels_after =
          let e = all_seven old 0 (seven_length dim n seven) in
          ap voxels seven_after
          ∙ ap (λ (ns : List ℕ). voxels (permuted 0 t ns)) e
          ∙ voxels_permuted (get_or old 0 0) (get_or old 1 0) (get_or old 2 0) (drop 3 old) t ht
          ∙ ap voxels (sym e)

      pub bytes_after : (b : ℕ) → image_bytes (dims_after t dim) n b ≡ image_bytes dim n b
      bytes_after b = image_seven (dims_after t dim) n b ∙ ap (λ (v : ℕ). b * v) voxels_after ∙ sym (image_seven dim n b)

-- The turned image is what a sweep over the old image's axes, permuted, gathers.
use mathlib.Core.Path.{◌≡◌, refl, sym, ap, ◌∙◌}
use mathlib.Core.Bool.{Bool, true, false}
use mathlib.Core.List.{List, [], ◌∷◌}
use Prim.Native.Nat.{ℕ, suc, ◌+◌, ◌*◌, ◌/◌, ◌≤◌, ◌<◌}
use native.Mathlib.Nat.{mul-suc, mul-zero, zero-mul, add-zero, zero-add, mul-add, mul_assoc, mul-le-mul_left}
use native.Mathlib.Omega.{arith}
use lib.ListN.{length, take, drop, get_or, length-drop}
use lib.Seq.{drop-drop}
use Rattle.grid.specs.Grid.{voxels, voxel_number, index_of}
use Rattle.gather_row.specs.declared.Axis.{Axis}
use Rattle.gather_row.specs.Series.{series}
use Rattle.gather_row.specs.Gather.{reach, count_of, place_in, gathered, Inside}
use Rattle.gather_row.proofs.Series.{series_same}
use Rattle.reorient.specs.declared.Turn.{Turn}
use Rattle.reorient.specs.Reorient.{is_permutation, permuted, unpermuted, mirrored, mirrored_in, reversals}
use Rattle.reorient.specs.Reorient.{came_from, source_of, reoriented, no_axis, axis_of, old_axes}
use Rattle.reorient.proofs.Orders.{by_order, order, voxels_permuted}
use Rattle.reorient.proofs.Indexes.{three, source_of_below}
use Rattle.reorient.proofs.Images.{length-reoriented}

-- the lengths of axes
axis_lengths : List Axis → List ℕ
axis_lengths [] = []
axis_lengths (a ∷ xs) = a.length ∷ axis_lengths xs

-- the place of an index
place_at : List Axis → List ℕ → ℕ
place_at [] is = 0
place_at (a ∷ xs) [] = 0
place_at (a ∷ xs) (i ∷ is) = reach a i + place_at xs is

count_lengths : (xs : List Axis) → count_of xs ≡ voxels (axis_lengths xs)
unfolding count_of voxels axis_lengths
count_lengths [] = refl
count_lengths (a ∷ xs) = rw (count_lengths xs)

place_index : (xs : List Axis) (k : ℕ) → place_in xs k ≡ place_at xs (index_of (axis_lengths xs) k)
unfolding place_in index_of axis_lengths place_at
place_index [] k = refl
place_index (a ∷ xs) k = rw (place_index xs (k / a.length))

axis_length : (n step : ℕ) (r : Bool) → (axis_of n step r).length ≡ n
axis_length n step false = refl
axis_length n step true = refl

lengths_old : (step : ℕ) (rs : List Bool) (ns : List ℕ) → axis_lengths (old_axes step rs ns) ≡ ns
unfolding axis_lengths old_axes
lengths_old step rs [] = refl
lengths_old step rs (n ∷ ns) = rw (axis_length n step (get_or rs 0 false), lengths_old (step * n) (drop 1 rs) ns)

line_old : (n step : ℕ) (r : Bool) (i : ℕ) → reach (axis_of n step r) i ≡ step * mirrored r n i
line_old n step false i = rw (zero-mul, add-zero)
line_old n step true i = rw (zero-mul, zero-add)

place_old : (step : ℕ) (rs : List Bool) (ns is : List ℕ) → place_at (old_axes step rs ns) is ≡ step * voxel_number ns (mirrored_in rs ns is)
unfolding place_at old_axes voxel_number mirrored_in
place_old step rs [] is = sym (mul-zero step)
place_old step [] (n ∷ ns) [] = sym (mul-zero step)
place_old step (r ∷ rs) (n ∷ ns) [] = sym (mul-zero step)
place_old step [] (n ∷ ns) (i ∷ is) = rw (line_old n step false i, place_old (step * n) [] ns is, mul-add, mul_assoc)
place_old step (r ∷ rs) (n ∷ ns) (i ∷ is) = rw (line_old n step r i, place_old (step * n) rs ns is, mul-add, mul_assoc)

-- three axes, permuted
lengths_permuted : (a b c : Axis) (xs : List Axis) (t : Turn) → is_permutation t ≡ true
    → axis_lengths (permuted no_axis t (a ∷ (b ∷ (c ∷ xs)))) ≡ permuted 0 t (axis_lengths (a ∷ (b ∷ (c ∷ xs))))
unfolding permuted axis_lengths
lengths_permuted a b c xs t h =
    by_order
    (λ x y z. axis_lengths (permuted no_axis (order t x y z) (a ∷ (b ∷ (c ∷ xs))))
    ≡ permuted 0 (order t x y z) (axis_lengths (a ∷ (b ∷ (c ∷ xs)))))
    refl refl refl refl refl refl t h

place_permuted : (a b c : Axis) (xs : List Axis) (i j k : ℕ) (is : List ℕ) (t : Turn) → is_permutation t ≡ true
    → place_at (permuted no_axis t (a ∷ (b ∷ (c ∷ xs)))) (i ∷ (j ∷ (k ∷ is)))
    ≡ place_at (a ∷ (b ∷ (c ∷ xs))) (unpermuted 0 t (i ∷ (j ∷ (k ∷ is))))
unfolding permuted unpermuted place_at
place_permuted a b c xs i j k is t h =
    by_order
    (λ x y z. place_at (permuted no_axis (order t x y z) (a ∷ (b ∷ (c ∷ xs)))) (i ∷ (j ∷ (k ∷ is)))
    ≡ place_at (a ∷ (b ∷ (c ∷ xs))) (unpermuted 0 (order t x y z) (i ∷ (j ∷ (k ∷ is)))))
    refl (omega arith) (omega arith) (omega arith) (omega arith) (omega arith) t h

module _ (l m n : ℕ) (ns : List ℕ) (b : ℕ) (t : Turn) (ht : is_permutation t ≡ true) where
  abbrev new_axes : List Axis
  new_axes = permuted no_axis t (old_axes b (reversals t) (three l m n ns))

  new_lengths : axis_lengths new_axes ≡ permuted 0 t (three l m n ns)
  unfolding old_axes
  new_lengths =
      lengths_permuted _ _ _ _ t ht ∙ ap (λ (xs : List ℕ). permuted 0 t xs) (lengths_old b (reversals t) (three l m n ns))

  new_count : count_of new_axes ≡ voxels (three l m n ns)
  new_count = count_lengths new_axes ∙ ap voxels new_lengths ∙ voxels_permuted l m n ns t ht

  new_place : (k : ℕ) → place_in new_axes k ≡ b * source_of t (three l m n ns) k
  unfolding old_axes source_of came_from index_of permuted
  new_place k =
      place_index new_axes k
      ∙ ap (λ (xs : List ℕ). place_at new_axes (index_of xs k)) new_lengths
      ∙ place_permuted _ _ _ _ _ _ _ _ t ht
      ∙ place_old b (reversals t) (three l m n ns) (unpermuted 0 t (index_of (permuted 0 t (three l m n ns)) k))

  pub gathered_image : (s : List ℕ) (from : ℕ) → gathered b s from new_axes ≡ reoriented b (three l m n ns) t (drop from s)
  unfolding gathered reoriented
  gathered_image s from =
      series_same (λ k. take b (drop (from + place_in new_axes k) s))
      (λ k. take b (drop (b * source_of t (three l m n ns) k) (drop from s))) (count_of new_axes)
      (λ k h. rw (new_place k, drop-drop))
      ∙ ap (λ (i : ℕ). series (λ k. take b (drop (b * source_of t (three l m n ns) k) (drop from s))) i) new_count

  pub inside_reoriented : (size from : ℕ) → 0 < voxels (three l m n ns)
      → from + b * voxels (three l m n ns) ≤ size → Inside b size from new_axes
  inside_reoriented size from some h =
      record {
        some = rw new_count some;
        each = λ k hk.
            let old : ℕ = source_of t (three l m n ns) k in
            let below : old < voxels (three l m n ns) = source_of_below l m n ns t k ht (rw new_count at hk) in
            omega (arith, new_place k, mul-suc b old, mul-le-mul_left {m = suc old} {n = voxels (three l m n ns)} b below);
      }

-- the same of lengths that are three and more
pub record Sweeps (ns : List ℕ) (b : ℕ) (t : Turn) (s : List ℕ) (from : ℕ) : Type 0 where
  pub image : gathered b s from (permuted no_axis t (old_axes b (reversals t) ns)) ≡ reoriented b ns t (drop from s)
  pub inside : Inside b (length s) from (permuted no_axis t (old_axes b (reversals t) ns))
  pub size : length (reoriented b ns t (drop from s)) ≡ b * voxels ns

pub sweeps : (ns : List ℕ) (l m n : ℕ) (r : List ℕ) (b : ℕ) (t : Turn) (s : List ℕ) (from : ℕ)
    → ns ≡ l ∷ (m ∷ (n ∷ r)) → is_permutation t ≡ true
    → 0 < voxels ns → from + b * voxels ns ≤ length s → Sweeps ns b t s from
sweeps ns l m n r b t s from e ht some h =
    let some' : 0 < voxels (three l m n r) = rw e at some in
    let h' : from + b * voxels (three l m n r) ≤ length s = rw e at h in
    let d : b * voxels (three l m n r) ≤ length (drop from s) = rw (length-drop from s) (omega arith) in
    rw e (record {
      image = gathered_image l m n r b t ht s from;
      inside = inside_reoriented l m n r b t ht (length s) from some' h';
      size = length-reoriented l m n r b t (drop from s) ht d;
    })

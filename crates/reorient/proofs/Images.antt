-- The turned image: its voxels, and the laws of two turns and of a turn and its inverse.
use mathlib.Core.Path.{◌≡◌, ap, ◌∙◌}
use mathlib.Core.Bool.{true}
use mathlib.Core.List.{List, ◌∷◌, ◌++◌}
use Prim.Native.Nat.{ℕ, suc, ◌+◌, ◌-◌, ◌*◌, ◌≤◌, ◌<◌}
use native.Mathlib.Nat.{mul-suc, mul-le-mul_left, zero-add}
use native.Mathlib.Omega.{arith}
use lib.ListN.{length, take, drop, get_or, length-take, length-drop}
use lib.Seq.{take-append-le, drop-append-le}
use Rattle.grid.specs.Grid.{voxels, within, voxel_number}
use Rattle.grid.proofs.Voxels.{number_below, number_index}
use Rattle.gather_row.specs.Series.{series}
use Rattle.gather_row.proofs.Series.{series_same, series-length, series_part, series_side}
use Rattle.reorient.specs.declared.Turn.{Turn}
use Rattle.reorient.specs.Reorient.{is_permutation, permuted, came_from, source_of, reoriented, composed, inverse, identity}
use Rattle.reorient.proofs.Orders.{permuted_twice, voxels_permuted, composed_inverse, inverse_permutation}
use Rattle.reorient.proofs.Indexes.{three, source_of_below, source_of_twice, source_of_identity}

-- voxel k of an image that has it
cell_length : (b v k : ℕ) (s : List ℕ) → b * v ≤ length s → k < v → length (take b (drop (b * k) s)) ≡ b
cell_length b v k s h l =
    let fit : b * k + b ≤ b * v = omega (arith, mul-suc b k, mul-le-mul_left {m = suc k} {n = v} b l) in
    simp (length-take, length-drop) (omega arith)

module _ (l m n : ℕ) (ns : List ℕ) (b : ℕ) (t : Turn) (s : List ℕ)
    (ht : is_permutation t ≡ true) (h : b * voxels (three l m n ns) ≤ length s) where
  each-length : (k : ℕ) → k < voxels (three l m n ns) → length (take b (drop (b * source_of t (three l m n ns) k) s)) ≡ b
  each-length k hk = cell_length b (voxels (three l m n ns)) (source_of t (three l m n ns) k) s h (source_of_below l m n ns t k ht hk)

  pub length-reoriented : length (reoriented b (three l m n ns) t s) ≡ b * voxels (three l m n ns)
  unfolding reoriented
  length-reoriented = series-length (λ k. take b (drop (b * source_of t (three l m n ns) k) s)) b (voxels (three l m n ns)) each-length

  -- voxel k of the turned image, whatever follows the image
  pub reoriented_voxel : (rest : List ℕ) (k : ℕ) → k < voxels (three l m n ns)
      → take b (drop (b * k) (reoriented b (three l m n ns) t s ++ rest)) ≡ take b (drop (b * source_of t (three l m n ns) k) s)
  unfolding reoriented
  reoriented_voxel rest k hk =
      let v : ℕ = voxels (three l m n ns) in
      let x : List ℕ = reoriented b (three l m n ns) t s in
      let len : length x ≡ b * v = length-reoriented in
      let fit : b * k + b ≤ b * v = omega (arith, mul-suc b k, mul-le-mul_left {m = suc k} {n = v} b hk) in
      let inside : b ≤ length (drop (b * k) x) = simp length-drop (omega arith) in
      ap (λ (y : List ℕ). take b y) (drop-append-le (b * k) x rest (omega arith))
      ∙ take-append-le b (drop (b * k) x) rest inside
      ∙ series_part (λ i. take b (drop (b * source_of t (three l m n ns) i) s)) b v k each-length hk

  -- "Each voxel's bytes are those of the voxel it came from"
  pub reoriented_index : (rest js : List ℕ) → within (permuted 0 t (three l m n ns)) js ≡ true
      → take b (drop (b * voxel_number (permuted 0 t (three l m n ns)) js) (reoriented b (three l m n ns) t s ++ rest))
      ≡ take b (drop (b * voxel_number (three l m n ns) (came_from t (three l m n ns) js)) s)
  unfolding source_of
  reoriented_index rest js w =
      let new : List ℕ = permuted 0 t (three l m n ns) in
      let v = voxels_permuted l m n ns t ht in
      let below = number_below new js w in
      reoriented_voxel rest (voxel_number new js) (omega arith)
      ∙ ap (λ (is : List ℕ). take b (drop (b * voxel_number (three l m n ns) (came_from t (three l m n ns) is)) s)) (number_index new js w)

  -- "One turn followed by another gives the same .. image bytes as the composed turn"
  pub reoriented_twice : (u : Turn) (rest : List ℕ) → is_permutation u ≡ true
      → reoriented b (permuted 0 t (three l m n ns)) u (reoriented b (three l m n ns) t s ++ rest)
      ≡ reoriented b (three l m n ns) (composed t u) s
  unfolding reoriented permuted
  reoriented_twice u rest hu =
      let old : List ℕ = three l m n ns in
      let new : List ℕ = permuted 0 t old in
      let d : ℕ → ℕ = λ a. get_or old (a - 1) 0 in
      let v : voxels new ≡ voxels old = voxels_permuted l m n ns t ht in
      let x : List ℕ = reoriented b old t s ++ rest in
      series_same (λ k. take b (drop (b * source_of u new k) x)) (λ k. take b (drop (b * source_of (composed t u) old k) s)) (voxels new)
      (λ k hk.
      let below : source_of u new k < voxels new = source_of_below (d t.axis1) (d t.axis2) (d t.axis3) ns u k hu hk in
      reoriented_voxel rest (source_of u new k) (omega arith)
      ∙ ap (λ (i : ℕ). take b (drop (b * i) s)) (source_of_twice l m n ns t u k ht hu (omega arith)))
      ∙ ap (λ (i : ℕ). series (λ k. take b (drop (b * source_of (composed t u) old k) s)) i) v

-- the turn that leaves each axis where it is leaves the image
pub reoriented_identity : (l m n : ℕ) (ns : List ℕ) (b : ℕ) (s : List ℕ)
    → reoriented b (three l m n ns) identity s ≡ take (b * voxels (three l m n ns)) s
unfolding reoriented
reoriented_identity l m n ns b s =
    let v : ℕ = voxels (three l m n ns) in
    series_same (λ k. take b (drop (b * source_of identity (three l m n ns) k) s)) (λ k. take b (drop (0 + b * k) s)) v
    (λ k hk. rw (source_of_identity l m n ns k hk, zero-add))
    ∙ series_side b s 0 v

-- "and a turn then its inverse restore them": the image,
pub reoriented_back : (l m n : ℕ) (ns : List ℕ) (b : ℕ) (t : Turn) (s rest : List ℕ) → is_permutation t ≡ true
    → b * voxels (three l m n ns) ≤ length s
    → reoriented b (permuted 0 t (three l m n ns)) (inverse t) (reoriented b (three l m n ns) t s ++ rest)
    ≡ take (b * voxels (three l m n ns)) s
reoriented_back l m n ns b t s rest ht h =
    reoriented_twice l m n ns b t s ht h (inverse t) rest (inverse_permutation t ht)
    ∙ rw (composed_inverse t ht) (reoriented_identity l m n ns b s)

-- and each list that has a member for each axis, as the dims and the pixdims
pub permuted_back : {A : Type 0} (d x y z : A) (r : List A) (t : Turn) → is_permutation t ≡ true
    → permuted d (inverse t) (permuted d t (x ∷ (y ∷ (z ∷ r)))) ≡ x ∷ (y ∷ (z ∷ r))
unfolding permuted identity
permuted_back d x y z r t ht =
    permuted_twice d (x ∷ (y ∷ (z ∷ r))) t (inverse t) (inverse_permutation t ht)
    ∙ ap (λ (u : Turn). permuted d u (x ∷ (y ∷ (z ∷ r)))) (composed_inverse t ht)

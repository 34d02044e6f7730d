-- Where a voxel came from, by index and by number: the law of two turns, of a turn and its inverse, and of none.
use mathlib.Core.Path.{◌≡◌, refl, sym, ap, ◌∙◌}
use mathlib.Core.Bool.{Bool, true, false}
use mathlib.Core.List.{List, [], ◌∷◌}
use Prim.Native.Nat.{ℕ, ◌-◌, ◌<◌}
use native.Mathlib.Omega.{arith}
use lib.ListN.{get_or}
use borrow.Author.Tests.{lt-ltb}
use Rattle.grid.specs.Grid.{voxels, within, voxel_number, index_of}
use Rattle.grid.proofs.Voxels.{within_both, number_below, index_within, index_number, number_index}
use Rattle.reorient.specs.declared.Turn.{Turn}
use Rattle.reorient.specs.Reorient.{is_permutation, permuted, shown_as, unpermuted, mirrored, mirrored_in, reversals}
use Rattle.reorient.specs.Reorient.{came_from, source_of, one_of, composed, identity}
use Rattle.reorient.proofs.Orders.{unpermuted_mirrored_in, permuted_twice, unpermuted_twice, voxels_permuted, within_permuted}

mirrored_below : (r : Bool) (n i : ℕ) → i < n → mirrored r n i < n
mirrored_below false n i h = h
mirrored_below true n i h = omega arith

mirrored_twice : (r q : Bool) (n i : ℕ) → i < n → mirrored r n (mirrored q n i) ≡ mirrored (one_of r q) n i
mirrored_twice false q n i h = refl
mirrored_twice true false n i h = refl
mirrored_twice true true n i h = omega arith

-- flips keep an index within
pub mirrored_in_within : (rs : List Bool) (ns is : List ℕ) → within ns is ≡ true → within ns (mirrored_in rs ns is) ≡ true
unfolding within mirrored_in
mirrored_in_within [] ns is h = h
mirrored_in_within (r ∷ rs) [] is h = h
mirrored_in_within (r ∷ rs) (n ∷ ns) [] h = h
mirrored_in_within (r ∷ rs) (n ∷ ns) (i ∷ is) h =
    let p = within_both n ns i is h in
    rw (lt-ltb (mirrored r n i) n (mirrored_below r n i p.0)) (mirrored_in_within rs ns is p.1)

-- flips after flips, of three axes
mirrored_in_twice : (f g e p q r : Bool) (l m n i j k : ℕ) (ns is : List ℕ) → within (l ∷ (m ∷ (n ∷ ns))) (i ∷ (j ∷ (k ∷ is))) ≡ true
    → mirrored_in (f ∷ (g ∷ (e ∷ []))) (l ∷ (m ∷ (n ∷ ns))) (mirrored_in (p ∷ (q ∷ (r ∷ []))) (l ∷ (m ∷ (n ∷ ns))) (i ∷ (j ∷ (k ∷ is))))
    ≡ mirrored_in (one_of f p ∷ (one_of g q ∷ (one_of e r ∷ []))) (l ∷ (m ∷ (n ∷ ns))) (i ∷ (j ∷ (k ∷ is)))
unfolding mirrored_in
mirrored_in_twice f g e p q r l m n i j k ns is h =
    let a = within_both l (m ∷ (n ∷ ns)) i (j ∷ (k ∷ is)) h in
    let b = within_both m (n ∷ ns) j (k ∷ is) a.1 in
    let c = within_both n ns k is b.1 in
    rw (mirrored_twice f p l i a.0, mirrored_twice g q m j b.0, mirrored_twice e r n k c.0)

-- the laws below are of lengths of three axes and more
module _ (l m n : ℕ) (ns : List ℕ) where
  abbrev pub three : List ℕ
  three = l ∷ (m ∷ (n ∷ ns))

  came_twice : (t u : Turn) (i j k : ℕ) (is : List ℕ) → is_permutation t ≡ true → is_permutation u ≡ true
      → within (permuted 0 u (permuted 0 t three)) (i ∷ (j ∷ (k ∷ is))) ≡ true
      → came_from t three (came_from u (permuted 0 t three) (i ∷ (j ∷ (k ∷ is)))) ≡ came_from (composed t u) three (i ∷ (j ∷ (k ∷ is)))
  unfolding came_from permuted unpermuted composed
  came_twice t u i j k is ht hu w =
      let x : ℕ = shown_as u 1 i j k in
      let y : ℕ = shown_as u 2 i j k in
      let z : ℕ = shown_as u 3 i j k in
      let d : ℕ → ℕ = λ a. get_or three (a - 1) 0 in
      let w1 : within (permuted 0 t three) (x ∷ (y ∷ (z ∷ is))) ≡ true =
      sym (within_permuted (d t.axis1) (d t.axis2) (d t.axis3) i j k ns is u hu) ∙ w in
      let w2 : within three (unpermuted 0 t (x ∷ (y ∷ (z ∷ is)))) ≡ true = sym (within_permuted l m n x y z ns is t ht) ∙ w1 in
      ap (λ (js : List ℕ). mirrored_in (reversals t) three js)
      (unpermuted_mirrored_in l m n x y z ns is u.reversed1 u.reversed2 u.reversed3 t ht)
      ∙ mirrored_in_twice t.reversed1 t.reversed2 t.reversed3
      (shown_as t 1 u.reversed1 u.reversed2 u.reversed3)
      (shown_as t 2 u.reversed1 u.reversed2 u.reversed3)
      (shown_as t 3 u.reversed1 u.reversed2 u.reversed3)
      l m n (shown_as t 1 x y z) (shown_as t 2 x y z) (shown_as t 3 x y z) ns is w2
      ∙ ap (λ (js : List ℕ). mirrored_in (reversals (composed t u)) three js) (unpermuted_twice 0 (i ∷ (j ∷ (k ∷ is))) t u ht hu)

  -- the index that a new voxel came from is one of the old file
  pub came_within : (t : Turn) (k : ℕ) → is_permutation t ≡ true → k < voxels three
      → within three (came_from t three (index_of (permuted 0 t three) k)) ≡ true
  unfolding came_from permuted index_of
  came_within t k ht h =
      let v = voxels_permuted l m n ns t ht in
      let w = index_within (permuted 0 t three) k (omega arith) in
      mirrored_in_within (reversals t) three (unpermuted 0 t (index_of (permuted 0 t three) k))
      (sym (within_permuted l m n _ _ _ ns _ t ht) ∙ w)

  pub source_of_below : (t : Turn) (k : ℕ) → is_permutation t ≡ true → k < voxels three → source_of t three k < voxels three
  unfolding source_of
  source_of_below t k ht h = number_below three (came_from t three (index_of (permuted 0 t three) k)) (came_within t k ht h)

-- "One turn followed by another gives the same .. as the composed turn": of a voxel's number
pub source_of_twice : (l m n : ℕ) (ns : List ℕ) (t u : Turn) (k : ℕ) → is_permutation t ≡ true → is_permutation u ≡ true
    → k < voxels (three l m n ns)
    → source_of t (three l m n ns) (source_of u (permuted 0 t (three l m n ns)) k) ≡ source_of (composed t u) (three l m n ns) k
unfolding source_of permuted index_of
source_of_twice l m n ns t u k ht hu h =
    let old : List ℕ = three l m n ns in
    let mid : List ℕ = permuted 0 t old in
    let d : ℕ → ℕ = λ a. get_or old (a - 1) 0 in
    let v = voxels_permuted l m n ns t ht in
    let v2 = voxels_permuted (d t.axis1) (d t.axis2) (d t.axis3) ns u hu in
    let js : List ℕ = index_of (permuted 0 u mid) k in
    let is : List ℕ = came_from u mid js in
    let inside : within mid is ≡ true = came_within (d t.axis1) (d t.axis2) (d t.axis3) ns u k hu (omega arith) in
    ap (λ (xs : List ℕ). voxel_number old (came_from t old xs)) (number_index mid is inside)
    ∙ ap (λ (xs : List ℕ). voxel_number old xs) (came_twice l m n ns t u _ _ _ _ ht hu (index_within (permuted 0 u mid) k (omega arith)))
    ∙ ap (λ (xs : List ℕ). voxel_number old (came_from (composed t u) old (index_of xs k))) (permuted_twice 0 old t u hu)

-- the turn that leaves each axis where it is
pub source_of_identity : (l m n : ℕ) (ns : List ℕ) (k : ℕ) → k < voxels (three l m n ns) → source_of identity (three l m n ns) k ≡ k
unfolding source_of came_from permuted unpermuted mirrored_in identity index_of
source_of_identity l m n ns k h = index_number (three l m n ns) k h

-- The laws of specs/Axes.antt: what `first_below` finds; the axes one by one, and how many voxels and bytes they give; the seven axes.
use mathlib.Core.Path.{◌≡◌, refl, sym, ap, ◌∙◌}
use mathlib.Core.Logic.{◌↔◌, ⊎_elim}
use mathlib.Core.Bool.{Bool, true, false, cond}
use mathlib.Core.List.{List, [], ◌∷◌, ◌++◌}
use Prim.Native.Nat.{ℕ, zero, suc, ◌+◌, ◌-◌, ◌*◌, ◌≤◌, ◌<◌, zero-le}
use native.Mathlib.Omega.{arith}
use native.Mathlib.Nat.{eq-or-lt_of_le, le_of_suc-le-suc, not-suc-le-zero, le_refl, mul_assoc, mul_comm, mul-one, mul-suc, one-mul}
use native.Mathlib.Nat.{mul_right_comm, one-le-mul, mul-le-mul_left, le-mul_of_pos_right}
use native.Mathlib.Numerals.{add-one}
use lib.ListN.{length, get_or, replicate, set, length-append, get_or-replicate, get_or-append}
use lib.Seq.{get_or_at, get_or-append-add, set_at, append_snoc}
use lib.IntN.{ℤ}
use lib.Dec.{ltb, eqb-suc-zero}
use borrow.Author.Tests.{ltb-true, ltb-false}
use Rattle.number.specs.Natural.{natural_of}
use Rattle.grid.specs.Grid.{voxels, within, voxel_number}
use Rattle.grid.specs.Axes.{dim_at, below_one, first_below, axes, image_bytes, seven_axes}
use Rattle.grid.proofs.Entry.{below_natural}
use Rattle.grid.proofs.Voxels.{within_both, number_below}

-- ---- rule 5

-- none of dim[1] to dim[n] is below 1
abbrev pub NoneBelow : List ℤ → ℕ → Type 0
NoneBelow dim n = (k : ℕ) → 1 ≤ k → k ≤ n → below_one (dim_at dim k) ≡ false

-- one entry more, where none was found before it
module _ (dim : List ℤ) (n : ℕ) (none : first_below dim n ≡ 0) where
  pub first_found : below_one (dim_at dim (suc n)) ≡ true → first_below dim (suc n) ≡ suc n
  unfolding first_below
  first_found h = rw (none, h)

  pub first_passed : below_one (dim_at dim (suc n)) ≡ false → first_below dim (suc n) ≡ 0
  unfolding first_below
  first_passed h = rw (none, h)

-- and where one was
first_kept : (dim : List ℤ) (n i : ℕ) → first_below dim n ≡ suc i → first_below dim (suc n) ≡ suc i
unfolding first_below
first_kept dim n i h = rw (h, eqb-suc-zero i)

-- what is found up to i is found up to any later n
pub first_stays : (dim : List ℤ) (i n j : ℕ) → i ≤ n → first_below dim i ≡ suc j → first_below dim n ≡ suc j
first_stays dim i zero j l h = let e : i ≡ 0 = omega arith in rw e at h
first_stays dim i (suc n) j l h =
    ⊎_elim
    (λ e. rw e at h)
    (λ m. first_kept dim n j (first_stays dim i n j (le_of_suc-le-suc m) h))
    (eq-or-lt_of_le l)

-- the three ways in which dim[1] to dim[suc n] may go
module _ {P : Type 0} (dim : List ℤ) (n : ℕ) where
  first_cases : ((i : ℕ) → first_below dim n ≡ suc i → P)
      → (first_below dim n ≡ 0 → below_one (dim_at dim (suc n)) ≡ true → P)
      → (first_below dim n ≡ 0 → below_one (dim_at dim (suc n)) ≡ false → P) → P
  first_cases before here after = by (first_below dim n) (below_one (dim_at dim (suc n))) refl refl where
    by : (m : ℕ) (t : Bool) → first_below dim n ≡ m → below_one (dim_at dim (suc n)) ≡ t → P
    by (suc i) t e f = before i e
    by zero true e f = here e f
    by zero false e f = after e f

first_before : (dim : List ℤ) (n : ℕ) → first_below dim (suc n) ≡ 0 → (first_below dim n ≡ 0) × (below_one (dim_at dim (suc n)) ≡ false)
first_before dim n h = first_cases dim n
    (λ i e. let no : ⊥ = omega (arith, first_kept dim n i e) in absurd no)
    (λ e t. let no : ⊥ = omega (arith, first_found dim n e t) in absurd no)
    (λ e t. (e, t))

-- the number is 0 exactly where no entry is below 1,
pub first_none : (dim : List ℤ) (n : ℕ) → (first_below dim n ≡ 0) ↔ NoneBelow dim n
unfolding first_below
first_none dim zero = (λ h k l m. let no : ⊥ = omega arith in absurd no, λ _. refl)
first_none dim (suc n) = (
  λ h k l m.
      let p = first_before dim n h in
      ⊎_elim (λ e. rw e p.1) (λ s. (first_none dim n).0 p.0 k l (le_of_suc-le-suc s)) (eq-or-lt_of_le m),
  λ none. first_passed dim n ((first_none dim n).1 (λ k l m. none k l (omega arith))) (none (suc n) (omega arith) (le_refl (suc n))),
)

-- and else it is that of the first one that is
pub first_least : (dim : List ℤ) (n i : ℕ) → first_below dim n ≡ suc i → (suc i ≤ n) × (below_one (dim_at dim (suc i)) ≡ true) × NoneBelow dim i
unfolding first_below
first_least dim zero i h = let no : ⊥ = omega arith in absurd no
first_least dim (suc n) i h = first_cases dim n
    (λ j e.
    let same : i ≡ j = omega (arith, first_kept dim n j e) in
    let p = first_least dim n j e in
    rw same (omega arith, p.1, p.2))
    (λ e t.
    let same : i ≡ n = omega (arith, first_found dim n e t) in
    rw same (le_refl (suc n), t, (first_none dim n).0 e))
    (λ e t. let no : ⊥ = omega (arith, first_passed dim n e t) in absurd no)

-- ---- the axes

pub length-axes : (dim : List ℤ) (n : ℕ) → length (axes dim n) ≡ n
unfolding axes
length-axes dim zero = refl
length-axes dim (suc n) = simp (length-append, length-axes dim n, add-one)

pub axes_at : (dim : List ℤ) (n k : ℕ) → k < n → get_or (axes dim n) k 0 ≡ natural_of (dim_at dim (suc k))
unfolding axes
axes_at dim zero k h = absurd (not-suc-le-zero h)
axes_at dim (suc n) k h =
    let e : ℕ = natural_of (dim_at dim (suc n)) in
    let size : length (axes dim n) ≡ n = length-axes dim n in
    ⊎_elim
    (λ last. rw last (get_or_at (axes dim n) e [] 0 n size))
    (λ l. get_or-append (axes dim n) (e ∷ []) 0 k (omega arith) ∙ axes_at dim n k l)
    (eq-or-lt_of_le (le_of_suc-le-suc h))

-- ---- the voxels and the image's bytes

voxels-append : (ds es : List ℕ) → voxels (ds ++ es) ≡ voxels ds * voxels es
unfolding voxels
voxels-append [] es = sym (one-mul (voxels es))
voxels-append (d ∷ ds) es = rw (voxels-append ds es) (sym (mul_assoc d (voxels ds) (voxels es)))

voxels_next : (dim : List ℤ) (n : ℕ) → voxels (axes dim (suc n)) ≡ voxels (axes dim n) * natural_of (dim_at dim (suc n))
unfolding axes voxels
voxels_next dim n =
    voxels-append (axes dim n) (natural_of (dim_at dim (suc n)) ∷ []) ∙ rw (mul-one (natural_of (dim_at dim (suc n))))

-- an entry that is not below 1 states a length
natural_some : (d : ℤ) → below_one d ≡ false → 1 ≤ natural_of d
natural_some d e = ltb-false (natural_of d) 1 (sym (below_natural d) ∙ e)

pub voxels_positive : (dim : List ℤ) (n : ℕ) → first_below dim n ≡ 0 → 1 ≤ voxels (axes dim n)
unfolding axes voxels
voxels_positive dim zero h = omega arith
voxels_positive dim (suc n) h =
    let p = first_before dim n h in
    rw (voxels_next dim n) (one-le-mul (voxels_positive dim n p.0) (natural_some (dim_at dim (suc n)) p.1))

pub image_none : (dim : List ℤ) (b : ℕ) → image_bytes dim 0 b ≡ b
unfolding image_bytes axes voxels
image_none dim b = one-mul b

pub image_next : (dim : List ℤ) (n b : ℕ) → image_bytes dim (suc n) b ≡ image_bytes dim n b * natural_of (dim_at dim (suc n))
unfolding image_bytes
image_next dim n b = rw (voxels_next dim n) (mul_right_comm (voxels (axes dim n)) (natural_of (dim_at dim (suc n))) b)

-- where no entry is below 1, an axis more makes the image no smaller
pub image_grows : (dim : List ℤ) (k n b : ℕ) → first_below dim n ≡ 0 → k ≤ n → image_bytes dim k b ≤ image_bytes dim n b
image_grows dim k zero b h l = let e : k ≡ 0 = omega arith in rw e (le_refl _)
image_grows dim k (suc n) b h l =
    let p = first_before dim n h in
    let m : ℕ = image_bytes dim n b in
    let grows : m ≤ m * natural_of (dim_at dim (suc n)) = le-mul_of_pos_right m (natural_some (dim_at dim (suc n)) p.1) in
    ⊎_elim
    (λ e. rw e (le_refl _))
    (λ s. omega (arith, image_next dim n b, image_grows dim k n b p.0 (le_of_suc-le-suc s)))
    (eq-or-lt_of_le l)

-- ---- the seven axes

-- one length more, stored into the seven
pub seven_next : (dim : List ℤ) (n : ℕ) → n < 7 → set (seven_axes dim n) n (natural_of (dim_at dim (suc n))) ≡ seven_axes dim (suc n)
unfolding axes seven_axes
seven_next dim n h =
    let left : 7 - n ≡ suc (7 - suc n) = omega arith in
    let rest : List ℕ = replicate (7 - suc n) 1 in
    let e : ℕ = natural_of (dim_at dim (suc n)) in
    rw left (set_at (axes dim n) 1 rest e n (length-axes dim n) ∙ sym (append_snoc (axes dim n) e rest))

voxels_ones : (m : ℕ) → voxels (replicate m 1) ≡ 1
unfolding voxels
voxels_ones zero = refl
voxels_ones (suc m) = rw (voxels_ones m)

-- "those after dim[0] must be 0": any other number there is outside its axis
ones_zero : (ds is : List ℕ) (m k : ℕ) → within (ds ++ replicate m 1) is ≡ true → length ds ≤ k → get_or is k 0 ≡ 0
unfolding within
ones_zero ds [] m k h g = refl
ones_zero [] (i ∷ is) zero k h g = cc
ones_zero [] (i ∷ is) (suc m) zero h g = let p = within_both 1 (replicate m 1) i is h in omega arith
ones_zero [] (i ∷ is) (suc m) (suc k) h g = ones_zero [] is m k (within_both 1 (replicate m 1) i is h).1 zero-le
ones_zero (d ∷ ds) (i ∷ is) m zero h g = absurd (not-suc-le-zero g)
ones_zero (d ∷ ds) (i ∷ is) m (suc k) h g =
    ones_zero ds is m k (within_both d (ds ++ replicate m 1) i is h).1 (le_of_suc-le-suc g)

pub seven_past : (dim : List ℤ) (n : ℕ) (is : List ℕ) (k : ℕ) → within (seven_axes dim n) is ≡ true → n ≤ k → get_or is k 0 ≡ 0
unfolding seven_axes
seven_past dim n is k h l = ones_zero (axes dim n) is (7 - n) k h (rw (length-axes dim n) l)

-- one of the seven
pub seven_at : (dim : List ℤ) (n k : ℕ) → k < 7 → get_or (seven_axes dim n) k 0 ≡ cond (ltb k n) (natural_of (dim_at dim (suc k))) 1
unfolding seven_axes
seven_at dim n k h = go (ltb k n) refl
  where
    go : (t : Bool) → ltb k n ≡ t → get_or (axes dim n ++ replicate (7 - n) 1) k 0 ≡ cond t (natural_of (dim_at dim (suc k))) 1
    go true e =
        let l : k < n = ltb-true k n e in
        let size = length-axes dim n in
        get_or-append (axes dim n) (replicate (7 - n) 1) 0 k (omega arith) ∙ axes_at dim n k l
    go false e =
        let l : n ≤ k = ltb-false k n e in
        let at : k ≡ length (axes dim n) + (k - n) = omega (arith, length-axes dim n) in
        ap (λ (m : ℕ). get_or (axes dim n ++ replicate (7 - n) 1) m 0) at
        ∙ get_or-append-add (axes dim n) (replicate (7 - n) 1) (k - n) 0
        ∙ get_or-replicate (7 - n) (k - n) 1 0 (omega arith)

-- the axes past dim[0] add no voxel
pub voxels_seven : (dim : List ℤ) (n : ℕ) → voxels (seven_axes dim n) ≡ voxels (axes dim n)
unfolding seven_axes
voxels_seven dim n =
    voxels-append (axes dim n) (replicate (7 - n) 1) ∙ rw (voxels_ones (7 - n)) (mul-one (voxels (axes dim n)))

pub image_seven : (dim : List ℤ) (n b : ℕ) → image_bytes dim n b ≡ b * voxels (seven_axes dim n)
unfolding image_bytes
image_seven dim n b = rw (voxels_seven dim n) (mul_comm (voxels (axes dim n)) b)

-- the bytes of a voxel are bytes of the image
pub voxel_inside : (dim : List ℤ) (n b : ℕ) (is : List ℕ) → within (seven_axes dim n) is ≡ true
    → b * voxel_number (seven_axes dim n) is + b ≤ image_bytes dim n b
voxel_inside dim n b is h =
    let r : ℕ = voxel_number (seven_axes dim n) is in
    omega (arith, image_seven dim n b, mul-suc b r, mul-le-mul_left b (number_below (seven_axes dim n) is h))

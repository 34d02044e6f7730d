-- The laws of specs/Sizes.antt: each step from the one before it; that the bytes before an index's voxel are the voxel's bytes times its
-- number; and what the loops over the steps ask.
use Prim.Native.Nat.{ℕ, zero, suc, ◌+◌, ◌-◌, ◌*◌, ◌≤◌, ◌<◌}
use mathlib.Core.Path.{◌≡◌, refl, sym, ap, ◌∙◌}
use mathlib.Core.Bool.{Bool, true, false, cond}
use mathlib.Core.List.{List, [], ◌∷◌, ◌++◌, append_assoc, append-nil}
use native.Mathlib.Omega.{arith}
use native.Mathlib.Nat.{add-zero, add-suc, mul_assoc, mul_comm, mul-one, mul-zero, mul-add}
use native.Mathlib.Numerals.{add-one}
use borrow.Author.Tests.{ltb-true, ltb-false, lt-ltb, le-ltb}
use lib.Dec.{ltb}
use lib.IntN.{ℤ}
use lib.ListN.{length, get_or, drop, replicate, set, length-append, drop_of_length-le, replicate-append-replicate}
use lib.Seq.{drop-cons, set_at, append_snoc}
use Rattle.number.specs.Natural.{natural_of}
use Rattle.grid.specs.Grid.{voxels, within, voxel_number}
use Rattle.grid.specs.Axes.{dim_at, axes, image_bytes, image_limit, seven_axes}
use Rattle.grid.specs.Sizes.{step_after, steps_to, Measurable, bytes_before, Reaches}
use Rattle.grid.proofs.Axes.{image_none, image_next, image_grows}

module _ (dim : List ℤ) (n b : ℕ) where
  -- ---- the steps one after the other

  -- that of an axis up to dim[0], and of one after it
  step_before : (k : ℕ) → k < n → step_after dim n b k ≡ image_bytes dim k b
  step_before k h = rw (lt-ltb k n h)

  step_past : (k : ℕ) → n ≤ k → step_after dim n b k ≡ image_bytes dim n b
  step_past k h = rw (le-ltb k n h)

  pub first_step_lem : step_after dim n b 0 ≡ b
  first_step_lem = by (ltb 0 n) refl
    where
      by : (t : Bool) → ltb 0 n ≡ t → step_after dim n b 0 ≡ b
      by true e = step_before 0 (ltb-true 0 n e) ∙ image_none dim b
      by false e = let z : n ≡ 0 = omega (arith, ltb-false 0 n e) in step_past 0 (omega arith) ∙ rw z (image_none dim b)

  pub next_step : (k : ℕ)
      → cond (ltb n (suc k)) (step_after dim n b k) (step_after dim n b k * natural_of (dim_at dim (suc k))) ≡ step_after dim n b (suc k)
  next_step k = by (ltb n (suc k)) (ltb (suc k) n) refl refl
    where
      len : ℕ
      len = natural_of (dim_at dim (suc k))

      grown : k < n → step_after dim n b k * len ≡ image_bytes dim (suc k) b
      grown h = ap (λ (m : ℕ). m * len) (step_before k h) ∙ sym (image_next dim k b)

      by : (t u : Bool) → ltb n (suc k) ≡ t → ltb (suc k) n ≡ u → cond t (step_after dim n b k) (step_after dim n b k * len) ≡ step_after dim n b (suc k)
      by true u e d = let h = ltb-true n (suc k) e in step_past k (omega arith) ∙ sym (step_past (suc k) (omega arith))
      by false true e d = grown (ltb-false n (suc k) e) ∙ sym (step_before (suc k) (ltb-true (suc k) n d))
      by false false e d =
          let l = ltb-false (suc k) n d in
          let last : suc k ≡ n = omega (arith, ltb-false n (suc k) e) in
          grown (ltb-false n (suc k) e) ∙ ap (λ (m : ℕ). image_bytes dim m b) last ∙ sym (step_past (suc k) l)

  module _ (m : Measurable dim n b) where
    pub step_small : (k : ℕ) → ltb n (suc k) ≡ false → step_after dim n b k * natural_of (dim_at dim (suc k)) ≤ image_limit
    step_small k e =
        let h : k < n = ltb-false n (suc k) e in
        rw (step_before k h) (omega (arith, image_next dim k b, image_grows dim (suc k) n b m.whole h, m.small))

    pub last_step : step_after dim n b 7 ≡ image_bytes dim n b
    last_step = step_past 7 m.axes

  -- ---- stored into the seven

  length_steps : (k : ℕ) → length (steps_to dim n b k) ≡ k
  unfolding steps_to
  length_steps zero = refl
  length_steps (suc k) = simp (length-append, length_steps k, add-one)

  pub steps_next : (k : ℕ) → k < 7
      → set (steps_to dim n b k ++ replicate (7 - k) 0) k (step_after dim n b k) ≡ steps_to dim n b (suc k) ++ replicate (7 - suc k) 0
  unfolding steps_to
  steps_next k h =
      let left : 7 - k ≡ suc (7 - suc k) = omega arith in
      let rest : List ℕ = replicate (7 - suc k) 0 in
      let e : ℕ = step_after dim n b k in
      rw left (set_at (steps_to dim n b k) 0 rest e k (length_steps k) ∙ sym (append_snoc (steps_to dim n b k) e rest))

-- ---- the sum over an index

-- each step is the product of all lengths before it
abbrev running : ℕ → List ℕ → List ℕ
running b [] = []
running b (d ∷ ds) = b ∷ running (b * d) ds

before_running : (b : ℕ) (ds is : List ℕ) → bytes_before (running b ds) is ≡ b * voxel_number ds is
unfolding bytes_before voxel_number
before_running b [] is = sym (mul-zero b)
before_running b (d ∷ ds) [] = sym (mul-zero b)
before_running b (d ∷ ds) (i ∷ is) =
    let v : ℕ = voxel_number ds is in
    let rest : bytes_before (running (b * d) ds) is ≡ b * (d * v) = before_running (b * d) ds is ∙ mul_assoc b d v in
    omega (arith, mul_comm i b, mul-add b i (d * v))

running_append : (b : ℕ) (xs ys : List ℕ) → running b (xs ++ ys) ≡ running b xs ++ running (b * voxels xs) ys
unfolding voxels
running_append b [] ys = rw (mul-one b)
running_append b (x ∷ xs) ys = ap (λ (l : List ℕ). b ∷ l) (running_append (b * x) xs ys ∙ rw (mul_assoc b x (voxels xs)))

running_ones : (b m : ℕ) → running b (replicate m 1) ≡ replicate m b
running_ones b zero = refl
running_ones b (suc m) = ap (λ (l : List ℕ). b ∷ l) (rw (mul-one b) (running_ones b m))

module _ (dim : List ℤ) (n b : ℕ) where
  bytes_are : (k : ℕ) → b * voxels (axes dim k) ≡ image_bytes dim k b
  unfolding image_bytes
  bytes_are k = mul_comm b (voxels (axes dim k))

  steps_axes : (k : ℕ) → k ≤ n → steps_to dim n b k ≡ running b (axes dim k)
  unfolding steps_to axes
  steps_axes zero h = refl
  steps_axes (suc k) h =
      let d : ℕ = natural_of (dim_at dim (suc k)) in
      let e : step_after dim n b k ≡ b * voxels (axes dim k) = step_before dim n b k h ∙ sym (bytes_are k) in
      rw (e, steps_axes k (omega arith)) (sym (running_append b (axes dim k) (d ∷ [])))

  steps_ones : (m : ℕ) → steps_to dim n b (n + m) ≡ steps_to dim n b n ++ replicate m (image_bytes dim n b)
  unfolding steps_to
  steps_ones zero = rw (add-zero n, append-nil)
  steps_ones (suc m) =
      let t : ℕ = image_bytes dim n b in
      let next : replicate m t ++ (t ∷ []) ≡ t ∷ replicate m t = replicate-append-replicate m 1 t ∙ rw (add-one m) in
      rw (add-suc n m, step_past dim n b (n + m) (omega arith), steps_ones m)
      (append_assoc (steps_to dim n b n) (replicate m t) (t ∷ []) ∙ ap (λ (l : List ℕ). steps_to dim n b n ++ l) next)

  pub steps_before : n ≤ 7 → (is : List ℕ) → bytes_before (steps_to dim n b 7) is ≡ b * voxel_number (seven_axes dim n) is
  unfolding seven_axes
  steps_before h is =
      let seven : n + (7 - n) ≡ 7 = omega arith in
      let all : steps_to dim n b 7 ≡ running b (axes dim n ++ replicate (7 - n) 1) =
      ap (steps_to dim n b) (sym seven)
      ∙ steps_ones (7 - n)
      ∙ (λ i. steps_axes n (omega arith) i ++ sym (running_ones (image_bytes dim n b) (7 - n)) i)
      ∙ (λ i. running b (axes dim n) ++ running (sym (bytes_are n) i) (replicate (7 - n) 1))
      ∙ sym (running_append b (axes dim n) (replicate (7 - n) 1)) in
      ap (λ (l : List ℕ). bytes_before l is) all ∙ before_running b (axes dim n ++ replicate (7 - n) 1) is

-- one axis more, and the end of them, for a loop
module _ (ss is : List ℕ) (k : ℕ) where
  pub before_next : k < length ss → k < length is
      → bytes_before (drop k ss) (drop k is) ≡ get_or is k 0 * get_or ss k 0 + bytes_before (drop (k + 1) ss) (drop (k + 1) is)
  unfolding bytes_before
  before_next h g = rw (add-one, drop-cons ss k 0, drop-cons is k 0)

  pub before_end : length ss ≤ k → bytes_before (drop k ss) (drop k is) ≡ 0
  unfolding bytes_before
  before_end h = rw (drop_of_length-le ss h)

-- whether an index is inside, by such an answer
module _ {lengths steps index : List ℕ} {r : ℕ} (a : Reaches lengths steps index r) where
  pub reached_outside : r ≡ 18446744073709551615 → within lengths index ≡ false
  reached_outside e = by (within lengths index) refl
    where
      by : (t : Bool) → within lengths index ≡ t → within lengths index ≡ false
      by true w = absurd (omega (arith, a.small w))
      by false w = w

  pub reached_inside : (r ≡ 18446744073709551615 → ⊥) → within lengths index ≡ true
  reached_inside d = by (within lengths index) refl
    where
      by : (t : Bool) → within lengths index ≡ t → within lengths index ≡ true
      by true w = w
      by false w = absurd (d (a.outside w))

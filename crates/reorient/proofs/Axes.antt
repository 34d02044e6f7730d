-- What the functions over the axes ask.
use mathlib.Core.Path.{◌≡◌, sym, ap, ◌∙◌}
use mathlib.Core.Bool.{Bool, true, false}
use mathlib.Core.List.{List, [], ◌∷◌, ◌++◌, append_assoc, append-nil}
use Prim.Native.Nat.{ℕ, zero, suc, ◌+◌, ◌*◌, ◌≤◌, ◌<◌}
use native.Mathlib.Nat.{add-zero, mul_assoc, mul-zero, le-mul_of_pos_right}
use native.Mathlib.Numerals.{add-one}
use native.Mathlib.Omega.{arith}
use lib.ListN.{length, take, drop, get_or, set, drop_of_length-le}
use lib.Seq.{drop-cons, drop-drop, get_or-drop, take-suc-set, take_all}
use Rattle.grid.specs.Grid.{voxels}
use Rattle.gather_row.specs.declared.Axis.{Axis}
use Rattle.reorient.specs.declared.Turn.{Turn}
use Rattle.reorient.specs.Reorient.{is_permutation, axis_of, old_axes}
use Rattle.reorient.proofs.Orders.{by_order}

-- one axis more
old_next : (step : ℕ) (rs : List Bool) (ns : List ℕ) (k : ℕ) → k < length ns
    → old_axes step (drop k rs) (drop k ns)
    ≡ axis_of (get_or ns k 0) step (get_or rs k false) ∷ old_axes (step * get_or ns k 0) (drop (k + 1) rs) (drop (k + 1) ns)
unfolding old_axes
old_next step rs ns k h = rw (drop-cons ns k 0 h, get_or-drop k rs 0 false, add-zero, drop-drop 1 k rs, add-one k)

voxels_more : (ns : List ℕ) (k : ℕ) → k < length ns → voxels (drop k ns) ≡ get_or ns k 0 * voxels (drop (k + 1) ns)
unfolding voxels
voxels_more ns k h = rw (add-one, drop-cons ns k 0 h)

pos_right : (a b : ℕ) → 0 < a * b → 0 < b
pos_right a zero h = let z : 0 < 0 = rw mul-zero at h in z
pos_right a (suc b) h = omega arith

-- a turn of the loop of `old_axes`
pub record Next (step : ℕ) (ns : List ℕ) (k whole : ℕ) : Type 0 where
  pub small : step * get_or ns k 0 ≤ whole
  pub left : step * get_or ns k 0 * voxels (drop (k + 1) ns) ≡ whole
  pub some : 0 < voxels (drop (k + 1) ns)

pub step_next : (step : ℕ) (ns : List ℕ) (k whole : ℕ) → k < length ns → step * voxels (drop k ns) ≡ whole
    → 0 < voxels (drop k ns) → Next step ns k whole
step_next step ns k whole h e p =
    let v : ℕ = voxels (drop (k + 1) ns) in
    let n : ℕ = get_or ns k 0 in
    let some : 0 < v = pos_right n v (rw (voxels_more ns k h) at p) in
    let left : step * n * v ≡ whole = mul_assoc step n v ∙ rw (voxels_more ns k h) at e in
    record { small = omega (arith, le-mul_of_pos_right {m = v} (step * n) some); left = left; some = some }

pub axes_next : (xs goal : List Axis) (a : Axis) (step : ℕ) (rs : List Bool) (ns : List ℕ) (k : ℕ) → k < length ns
    → k < length xs → a ≡ axis_of (get_or ns k 0) step (get_or rs k false)
    → goal ≡ take k xs ++ old_axes step (drop k rs) (drop k ns)
    → goal ≡ take (k + 1) (set xs k a) ++ old_axes (step * get_or ns k 0) (drop (k + 1) rs) (drop (k + 1) ns)
axes_next xs goal a step rs ns k h g e q =
    let stored : take (k + 1) (set xs k a) ≡ take k xs ++ (a ∷ []) = rw add-one (take-suc-set xs k a g) in
    let rest : List Axis = old_axes (step * get_or ns k 0) (drop (k + 1) rs) (drop (k + 1) ns) in
    q ∙ ap (λ (l : List Axis). take k xs ++ l) (old_next step rs ns k h ∙ ap (λ (x : Axis). x ∷ rest) (sym e))
    ∙ sym (ap (λ (l : List Axis). l ++ rest) stored ∙ append_assoc (take k xs) (a ∷ []) rest)

-- the numbers of a permutation are from 1 to 3
pub record From1To3 (a b c : ℕ) : Type 0 where
  pub low1 : 1 ≤ a
  pub high1 : a ≤ 3
  pub low2 : 1 ≤ b
  pub high2 : b ≤ 3
  pub low3 : 1 ≤ c
  pub high3 : c ≤ 3

pub bounds : (t : Turn) → is_permutation t ≡ true → From1To3 t.axis1 t.axis2 t.axis3
bounds t h =
    by_order From1To3
    (record { low1 = omega arith; high1 = omega arith; low2 = omega arith; high2 = omega arith; low3 = omega arith; high3 = omega arith })
    (record { low1 = omega arith; high1 = omega arith; low2 = omega arith; high2 = omega arith; low3 = omega arith; high3 = omega arith })
    (record { low1 = omega arith; high1 = omega arith; low2 = omega arith; high2 = omega arith; low3 = omega arith; high3 = omega arith })
    (record { low1 = omega arith; high1 = omega arith; low2 = omega arith; high2 = omega arith; low3 = omega arith; high3 = omega arith })
    (record { low1 = omega arith; high1 = omega arith; low2 = omega arith; high2 = omega arith; low3 = omega arith; high3 = omega arith })
    (record { low1 = omega arith; high1 = omega arith; low2 = omega arith; high2 = omega arith; low3 = omega arith; high3 = omega arith })
    t h

pub last_four : {A : Type 0} (xs : List A) (d : A) → length xs ≡ 7
    → drop 3 xs ≡ get_or xs 3 d ∷ (get_or xs 4 d ∷ (get_or xs 5 d ∷ (get_or xs 6 d ∷ [])))
last_four xs d h =
    let e : drop 7 xs ≡ [] = drop_of_length-le xs {i = 7} (omega arith) in
    drop-cons xs 3 d (omega arith)
    ∙ ap (λ l. get_or xs 3 d ∷ l) (drop-cons xs 4 d (omega arith)
    ∙ ap (λ l. get_or xs 4 d ∷ l) (drop-cons xs 5 d (omega arith)
    ∙ ap (λ l. get_or xs 5 d ∷ l) (drop-cons xs 6 d (omega arith) ∙ ap (λ l. get_or xs 6 d ∷ l) e)))

-- seven members, one by one
pub all_seven : {A : Type 0} (xs : List A) (d : A) → length xs ≡ 7 → xs ≡ get_or xs 0 d ∷ (get_or xs 1 d ∷ (get_or xs 2 d ∷ drop 3 xs))
all_seven xs d h =
    drop-cons xs 0 d (omega arith)
    ∙ ap (λ l. get_or xs 0 d ∷ l) (drop-cons xs 1 d (omega arith)
    ∙ ap (λ l. get_or xs 1 d ∷ l) (drop-cons xs 2 d (omega arith)))

pub axes_done : (xs goal : List Axis) (step : ℕ) (rs : List Bool) (ns : List ℕ) (k : ℕ) → k ≡ 7 → length xs ≡ 7 → length ns ≡ 7
    → goal ≡ take k xs ++ old_axes step rs (drop k ns) → xs ≡ goal
unfolding old_axes
axes_done xs goal step rs ns k e h g q =
    let all : take k xs ≡ xs = take_all k xs (omega arith) in
    let none : drop k ns ≡ [] = drop_of_length-le ns {i = k} (omega arith) in
    sym (q ∙ rw (all, none, append-nil))

-- what holds of the axes 1 to 3 holds of each of them
pub by_axis : (P : ℕ → Type 0) → P 1 → P 2 → P 3 → (o : ℕ) → 1 ≤ o → o ≤ 3 → P o
by_axis P p q r zero l h = absurd (omega arith)
by_axis P p q r (suc zero) l h = p
by_axis P p q r (suc (suc zero)) l h = q
by_axis P p q r (suc (suc (suc zero))) l h = r
by_axis P p q r (suc (suc (suc (suc o)))) l h = absurd (omega arith)

-- How large the lengths of the seven axes may be, and so the numbers of an index inside them.
use Prim.Native.Nat.{ℕ, zero, suc, ◌-◌, ◌≤◌}
use mathlib.Core.Path.{◌≡◌, refl, ap}
use mathlib.Core.Bool.{true, false≢true}
use mathlib.Core.List.{List, [], ◌∷◌, ◌++◌}
use native.Mathlib.Omega.{arith}
use lib.IntN.{ℤ}
use lib.ListN.{length, get_or, replicate, length-append, length-replicate}
use Rattle.number.specs.Natural.{natural_of}
use Rattle.grid.specs.Grid.{within}
use Rattle.grid.specs.Axes.{dim_at, axes, seven_axes}
use Rattle.grid.proofs.Axes.{length-axes}
use Rattle.grid.proofs.Voxels.{within_both}

-- each number of a list is at most m
abbrev pub AtMost : ℕ → List ℕ → Type 0
AtMost m l = (k : ℕ) → get_or l k 0 ≤ m

append-most : (m : ℕ) (xs ys : List ℕ) → AtMost m xs → AtMost m ys → AtMost m (xs ++ ys)
append-most m [] ys f g k = g k
append-most m (x ∷ xs) ys f g zero = f 0
append-most m (x ∷ xs) ys f g (suc k) = append-most m xs ys (λ j. f (suc j)) g k

cons_most : (m x : ℕ) (xs : List ℕ) → x ≤ m → AtMost m xs → AtMost m (x ∷ xs)
cons_most m x xs h f zero = h
cons_most m x xs h f (suc k) = f k

none_most : (m : ℕ) → AtMost m []
none_most m k = omega arith

ones_most : (m n : ℕ) → AtMost (suc m) (replicate n 1)
ones_most m zero = none_most (suc m)
ones_most m (suc n) = cons_most (suc m) 1 (replicate n 1) (omega arith) (ones_most m n)

-- ---- the axes, where no entry of dim states a larger length

axes_most : (m : ℕ) (dim : List ℤ) (n : ℕ) → ((k : ℕ) → natural_of (dim_at dim k) ≤ m) → AtMost m (axes dim n)
unfolding axes
axes_most m dim zero h = none_most m
axes_most m dim (suc n) h =
    let e : ℕ = natural_of (dim_at dim (suc n)) in
    append-most m (axes dim n) (e ∷ []) (axes_most m dim n h) (cons_most m e [] (h (suc n)) (none_most m))

pub seven_most : (m : ℕ) (dim : List ℤ) (n : ℕ) → ((k : ℕ) → natural_of (dim_at dim k) ≤ suc m) → AtMost (suc m) (seven_axes dim n)
unfolding seven_axes
seven_most m dim n h =
    append-most (suc m) (axes dim n) (replicate (7 - n) 1) (axes_most (suc m) dim n h) (ones_most m (7 - n))

pub seven_length : (dim : List ℤ) (n : ℕ) → n ≤ 7 → length (seven_axes dim n) ≡ 7
unfolding seven_axes
seven_length dim n h = simp (length-append, length-axes, length-replicate) (omega arith)

-- ---- an index inside has as many numbers as there are axes, and none is larger than all of them

pub within-length : (ds is : List ℕ) → within ds is ≡ true → length is ≡ length ds
unfolding within
within-length [] [] h = refl
within-length [] (i ∷ is) h = absurd (false≢true h)
within-length (d ∷ ds) [] h = absurd (false≢true h)
within-length (d ∷ ds) (i ∷ is) h = ap suc (within-length ds is (within_both d ds i is h).1)

pub within_most : (m : ℕ) (ds is : List ℕ) → within ds is ≡ true → AtMost m ds → AtMost m is
unfolding within
within_most m ds [] h f k = omega arith
within_most m [] (i ∷ is) h f k = absurd (false≢true h)
within_most m (d ∷ ds) (i ∷ is) h f zero = omega (arith, (within_both d ds i is h).0, f 0)
within_most m (d ∷ ds) (i ∷ is) h f (suc k) = within_most m ds is (within_both d ds i is h).1 (λ j. f (suc j)) k

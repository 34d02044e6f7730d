-- What each member of a list has, each member of the permuted list has.
use Prim.Native.Nat.{ℕ, zero, suc, ◌+◌, ◌-◌}
use mathlib.Core.List.{List}
use lib.ListN.{get_or, drop}
use lib.Seq.{get_or-drop}
use Rattle.reorient.specs.declared.Turn.{Turn}
use Rattle.reorient.specs.Reorient.{permuted}

module _ {A : Type 0} (P : A → Type 0) (d : A) where
  pub each-drop : (k : ℕ) (xs : List A) → ((i : ℕ) → P (get_or xs i d)) → (i : ℕ) → P (get_or (drop k xs) i d)
  each-drop k xs h i = rw (get_or-drop k xs i d) (h (k + i))

  pub each_permuted : (t : Turn) (xs : List A) → ((i : ℕ) → P (get_or xs i d)) → (i : ℕ) → P (get_or (permuted d t xs) i d)
  unfolding permuted
  each_permuted t xs h zero = h (t.axis1 - 1)
  each_permuted t xs h (suc zero) = h (t.axis2 - 1)
  each_permuted t xs h (suc (suc zero)) = h (t.axis3 - 1)
  each_permuted t xs h (suc (suc (suc i))) = each-drop 3 xs h i

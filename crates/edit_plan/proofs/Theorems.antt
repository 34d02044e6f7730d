-- The edited list as the paper words it (01-scope.md, "Extensions"): "An append puts E last in X, a replacement puts it in the numbered
-- one's place, a removal takes that one out; the others stay as they are, in order."
use Prim.Native.Nat.{ℕ, ◌+◌}
use mathlib.Core.Path.{◌≡◌, refl}
use mathlib.Core.List.{List, [], ◌∷◌, ◌++◌}
use lib.IntN.{ℤ}
use lib.ListN.{take, drop}
use lib.Seq.{take-length, drop-length}
use Rattle.layout.specs.File.{order_of}
use Rattle.change.specs.declared.Change.TheVariants.{Append, Replace, Remove}
use Rattle.edit_plan.specs.Fresh.{stored, extension_list, exchange, edited_list}

module _ (f : List ℕ) (code : ℤ) (p : List ℕ) where
  pub append_list : edited_list f Append code p ≡ extension_list f ++ (stored (order_of f) code p ∷ [])
  unfolding edited_list exchange
  append_list = rw (take-length, drop-length)

  pub replace_list : (k : ℕ) → edited_list f (Replace k) code p ≡ take k (extension_list f) ++ (stored (order_of f) code p ∷ drop (k + 1) (extension_list f))
  unfolding edited_list exchange
  replace_list k = refl

  pub remove_list : (k : ℕ) → edited_list f (Remove k) code p ≡ take k (extension_list f) ++ drop (k + 1) (extension_list f)
  unfolding edited_list exchange
  remove_list k = refl

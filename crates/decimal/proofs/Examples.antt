-- Numbers in decimal, computed: 0, 9, 10 and 205.
use mathlib.Core.Path.{◌≡◌, refl}
use mathlib.Core.List.{[], ◌∷◌, map}
use Rattle.decimal.specs.Decimal.{digits, decimal}

pub numbers : map decimal (0 ∷ 9 ∷ 10 ∷ 205 ∷ []) ≡ (48 ∷ []) ∷ (57 ∷ []) ∷ (49 ∷ 48 ∷ []) ∷ (50 ∷ 48 ∷ 53 ∷ []) ∷ []
unfolding digits decimal
numbers = refl

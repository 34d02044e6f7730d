-- Whether two lists of numbers are the same.
use Rattle.std.specs.Prelude.{ℕ, Bool, true, false, ◌&&◌, List, [], ◌∷◌, eqb}

abbrev pub same_numbers : List ℕ → List ℕ → Bool
same_numbers [] [] = true
same_numbers [] (b ∷ bs) = false
same_numbers (a ∷ l) [] = false
same_numbers (a ∷ l) (b ∷ bs) = eqb a b && same_numbers l bs

-- Pieces one after the other.
use Rattle.std.specs.Prelude.{ℕ, ◌+◌, cond, List, [], ◌∷◌, length}
use Rattle.pieces.specs.declared.Pieces.{Pieces}
use Rattle.pieces.specs.Pieces.{passes_total, taken_of}

-- the state after pieces
unfoldable pub after_all : Pieces → List (List ℕ) → Pieces
after_all s [] = s
after_all s (p ∷ ps) = after_all (taken_of s p).pieces ps

-- the pieces that are not refused, where n bytes came before them
unfoldable pub taken_from : ℕ → List (List ℕ) → List (List ℕ)
taken_from n [] = []
taken_from n (p ∷ ps) = cond (passes_total n (length p)) (taken_from n ps) (p ∷ taken_from (n + length p) ps)

-- Document 004's six columns read backwards, computed: the slices of the ranks 0 to 4 among 1 to 5, by the codes 1 to 6; and an even number of
-- slices, 0 to 3, by ALT_INC2.
use mathlib.Core.Path.{◌≡◌, refl}
use mathlib.Core.List.{[], ◌∷◌, map}
use Prim.Native.Nat.{ℕ}
use Rattle.slices.specs.Ranks.{order_in, alt_rank, alt2_rank, rank_of}
use Rattle.slice_order.specs.Slices.{first_with, slice_with}

pub columns : map (λ (code : ℕ). map (slice_with code 1 5) (0 ∷ 1 ∷ 2 ∷ 3 ∷ 4 ∷ [])) (1 ∷ 2 ∷ 3 ∷ 4 ∷ 5 ∷ 6 ∷ [])
    ≡ (1 ∷ 2 ∷ 3 ∷ 4 ∷ 5 ∷ [])
    ∷ (5 ∷ 4 ∷ 3 ∷ 2 ∷ 1 ∷ [])
    ∷ (1 ∷ 3 ∷ 5 ∷ 2 ∷ 4 ∷ [])
    ∷ (5 ∷ 3 ∷ 1 ∷ 4 ∷ 2 ∷ [])
    ∷ (2 ∷ 4 ∷ 1 ∷ 3 ∷ 5 ∷ [])
    ∷ (4 ∷ 2 ∷ 5 ∷ 3 ∷ 1 ∷ [])
    ∷ []
unfolding order_in alt_rank alt2_rank rank_of first_with
columns = refl

pub four : map (slice_with 5 0 3) (0 ∷ 1 ∷ 2 ∷ 3 ∷ []) ≡ 1 ∷ 3 ∷ 0 ∷ 2 ∷ []
unfolding order_in alt_rank alt2_rank rank_of first_with
four = refl

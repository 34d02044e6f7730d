-- The walk over the bytes so far as these alone say it, however they were cut: which extensions have come whole, and what is kept
-- beside their marks.
use Rattle.std.specs.Prelude.{ℕ, zero, suc, ◌+◌, ◌-◌, List, [], ◌∷◌, nat_abs, length, take}
use Rattle.field.specs.declared.Order.{Order}
use Rattle.field.specs.Numbers.{bytes_at}
use Rattle.extension.specs.declared.Span.{Span}
use Rattle.extension.specs.Walk.{extension_limit, first_place, rest_of, Found, extension, ended, refused, found}
use Rattle.piece_walk.specs.declared.Walk.{Walk}
use Rattle.piece_walk.specs.Marks.{marks_of}

abbrev pub if_found : Found → (Span → List Span) → List Span
if_found (extension x) f = f x
if_found ended f = []
if_found (refused r) f = []

-- the extensions that have come whole with the bytes b, from the place `at` on, at most k of them. The region ends at `end`
unfoldable pub whole_from : Order → ℕ → List ℕ → ℕ → ℕ → List Span
whole_from order end b zero at = []
whole_from order end b (suc k) at =
    if_found (found order (extension_limit - suc k) at (rest_of b end at)) (λ x. x ∷ whole_from order end b k (at + nat_abs x.size))

-- the place after spans that begin at `at`
abbrev pub place_after : ℕ → List Span → ℕ
place_after at [] = at
place_after at (x ∷ xs) = place_after (at + nat_abs x.size) xs

-- the walk that has passed xs and stands at a place: beside their marks it keeps the first eight bytes there, none from the region's end on
abbrev pub standing : ℕ → List ℕ → List Span → ℕ → Walk
standing end b xs at =
    record { at = at; count = length xs; coming = bytes_at at 8 (take end b); marks = marks_of xs }

-- the walk over the bytes b
unfoldable pub walk_of : Order → ℕ → List ℕ → Walk
walk_of order end b =
    standing end b (whole_from order end b extension_limit first_place) (place_after first_place (whole_from order end b extension_limit first_place))

-- A window of a region of a file that comes in pieces: the eight bytes from a place on, with zeros where they have not come yet, and
-- from the region's end on.
use Rattle.std.specs.Prelude.{ℕ, ◌+◌, ◌-◌, cond, List, ltb, get_or}
use Rattle.field.specs.Numbers.{tabulate}

-- the window at `at` of a region that ends at `end`, once a piece has come: `old` is the window of the n bytes before it, and the
-- piece's first byte has the place n
abbrev pub window_byte : ℕ → ℕ → ℕ → List ℕ → List ℕ → ℕ → ℕ
window_byte at end n old piece i = cond (ltb (at + i) end) (cond (ltb (at + i) n) (get_or old i 0) (get_or piece (at + i - n) 0)) 0

unfoldable pub window : ℕ → ℕ → ℕ → List ℕ → List ℕ → List ℕ
window at end n old piece = tabulate (λ i. window_byte at end n old piece i) 8

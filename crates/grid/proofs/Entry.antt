-- One entry of dim and the length that it states.
use mathlib.Core.Path.{◌≡◌, refl, sym}
use native.Mathlib.Omega.{arith}
use lib.IntN.{ℤ, pos, negsuc}
use lib.Dec.{ltb}
use borrow.Author.Tests.{lt-ltb}
use Rattle.number.specs.Natural.{natural_of}
use Rattle.grid.specs.Axes.{below_one}

-- rule 5's test, asked of the length
pub below_natural : (z : ℤ) → below_one z ≡ ltb (natural_of z) 1
below_natural (pos n) = refl
below_natural (negsuc n) = sym (lt-ltb 0 1 (omega arith))

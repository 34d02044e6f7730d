-- A signed number as a natural one. 01-scope.md: "dim entries are signed 16-bit"; a length, a number of bits or a slice that a
-- negative entry states is none.
use Rattle.std.specs.Prelude.{ℕ, ℤ, pos, negsuc}

-- the number itself, and 0 where it is negative
abbrev pub natural_of : ℤ → ℕ
natural_of (pos n) = n
natural_of (negsuc n) = 0

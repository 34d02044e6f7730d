-- The binary32 time of a rank: 01-scope.md, "rank × slice_duration, rounded once".
use Rattle.std.specs.Prelude.{ℕ, cond, pos, Float, Some, None, Option}
use Rattle.std.specs.Float.{binary32}
use Rattle.std.specs.Float.Ieee.{mul, of_int, of_bits}
use Rattle.std.specs.Float.Ieee.Scale.{finite}

-- The product of binary32. A rank is exact in binary32, so the product's rounding is the only one.
abbrev pub product : ℕ → Float → Float
product rank d = mul binary32 (of_int binary32 (pos rank)) d

-- the time that a product is, or that it is infinite
abbrev pub time_by : Float → Option Float
time_by t = cond (finite t) (Some t) None

-- the time of a rank by the bit pattern of slice_duration
unfoldable pub time_of : ℕ → ℕ → Option Float
time_of duration rank = time_by (product rank (of_bits binary32 duration))

-- A pair: two bytes side by side as one number, the first of them lowest.
use Rattle.std.specs.Prelude.{ℕ, List}
use Rattle.field.specs.Numbers.{little_bytes}

-- the bytes of a pair
unfoldable pub pair_bytes : ℕ → List ℕ
pair_bytes n = little_bytes 2 n

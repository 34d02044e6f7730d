-- The units that are wider than two bytes (01-scope.md, "The header rules", has the swap unit of each datatype).
use Rattle.std.specs.Prelude.{ℕ}

pub data Wide : ℕ → Type 0 where
  fours : Wide 4
  eights : Wide 8
  sixteens : Wide 16

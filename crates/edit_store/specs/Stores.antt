-- The extender by the numbers that a store has: how long the file is, and where the region of the extensions is to end.
use Rattle.std.specs.Prelude.{ℕ, cond, List, [], ◌∷◌, ltb}
use mir.Val.{bool_byte}
use Rattle.extension.specs.Walk.{first_place}
use Rattle.layout.specs.File.{reserved_of}

-- only a list that is not empty has a region past 352 (the law `extender_is`)
abbrev pub first_byte_at : ℕ → ℕ
first_byte_at end = bool_byte (ltb first_place end)

-- the bytes at 348 of a buffer b with a file of len bytes: one that ends before 352 has no reserved bytes (the law `extender_is`)
abbrev pub extender_bytes : ℕ → ℕ → List ℕ → List ℕ
extender_bytes len end b = first_byte_at end ∷ cond (ltb len first_place) (0 ∷ 0 ∷ 0 ∷ []) (reserved_of b)

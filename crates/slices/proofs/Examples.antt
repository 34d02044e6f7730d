-- The times of the ranks 0 to 4 by a duration of 0.1 (document 004), and a product that is infinite, computed.
use Rattle.std.specs.Prelude.{Float, Some, None, Option}
use mathlib.Core.Path.{◌≡◌, refl}
use mathlib.Core.List.{List, [], ◌∷◌, ◌++◌, map}
use Prim.Native.Nat.{ℕ}
use lib.Ieee.{binary32, mul, of_int, of_bits, to_bits}
use Rattle.slices.specs.Times.{time_of}

-- the pattern of a time, and none of an infinite one
abbrev pattern : Option Float → List ℕ
pattern None = []
pattern (Some t) = to_bits binary32 t ∷ []

-- 0.1 is 3DCCCCCD. Twice the largest number is infinite.
pub times : map (λ (r : ℕ). pattern (time_of 0x3dcc_cccd r)) (0 ∷ 1 ∷ 2 ∷ 3 ∷ 4 ∷ []) ++ map (λ (r : ℕ). pattern (time_of 0x7f7f_ffff r)) (0 ∷ 1 ∷ 2 ∷ [])
    ≡ (0 ∷ []) ∷ (0x3dcc_cccd ∷ []) ∷ (0x3e4c_cccd ∷ []) ∷ (0x3e99_999a ∷ []) ∷ (0x3ecc_cccd ∷ []) ∷ (0 ∷ []) ∷ (0x7f7f_ffff ∷ []) ∷ [] ∷ []
unfolding time_of of_bits to_bits of_int mul
times = refl

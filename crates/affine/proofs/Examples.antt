-- Worked examples, computed: positions by their bit patterns, and a row of the stated case. Assumes nothing.
use Rattle.std.specs.Prelude.{Some, None, Option}
use Rattle.affine.specs.declared.Position.{Position}
use mathlib.Core.Path.{◌≡◌, refl}
use mathlib.Core.List.{List, [], ◌∷◌}
use Prim.Native.Nat.{ℕ}
use mathlib.Core.Bool.{true, false}
use lib.Dec.{lit≤}
use lib.IntN.{pos, negsuc}
use lib.Ieee.{binary32, add, mul, of_int, of_bits, to_bits}
use Rattle.refusal.specs.Table.{verdict}
use Rattle.affine.specs.Method.{finite_row, position_of}
use Rattle.affine.specs.Whole.{WholeRow}

-- the patterns of a position's three values; none where there is no position
abbrev patterns : Option Position → List ℕ
patterns None = []
patterns (Some p) = to_bits binary32 p.x ∷ to_bits binary32 p.y ∷ to_bits binary32 p.z ∷ []

abbrev rounded_row : List ℕ
rounded_row = 0xbf09_b16b ∷ 0x4006_4993 ∷ 0xc07e_ebf5 ∷ 0xbedf_b1ad ∷ []

-- 0, -1, 0 and 100
abbrev whole_row : List ℕ
whole_row = 0x0000_0000 ∷ 0xbf80_0000 ∷ 0x0000_0000 ∷ 0x42c8_0000 ∷ []

-- all zeros, each with a minus sign
abbrev minus_row : List ℕ
minus_row = 0x8000_0000 ∷ 0x8000_0000 ∷ 0x8000_0000 ∷ 0x8000_0000 ∷ []

-- its last number is infinite
abbrev infinite_row : List ℕ
infinite_row = 0x0000_0000 ∷ 0x0000_0000 ∷ 0x0000_0000 ∷ 0x7f80_0000 ∷ []

-- its first number is the largest of binary32, so that twice it is infinite
abbrev large_row : List ℕ
large_row = 0x7f7f_ffff ∷ 0x0000_0000 ∷ 0x0000_0000 ∷ 0x0000_0000 ∷ []

-- The order of the roundings shows in the first value: rounded once at the end it would be 42C29478, and summed from the right 42C29479.
positions : patterns (position_of rounded_row whole_row minus_row 185 206 59)
    ∷ patterns (position_of whole_row whole_row infinite_row 0 0 0)
    ∷ patterns (position_of whole_row whole_row large_row 1 0 0)
    ∷ patterns (position_of whole_row large_row whole_row 2 0 0)
    ∷ []
    ≡ (0x42c2_947a ∷ 0xc2d4_0000 ∷ 0x8000_0000 ∷ []) ∷ [] ∷ (0x42c8_0000 ∷ 0x42c8_0000 ∷ 0x7f7f_ffff ∷ []) ∷ [] ∷ []
unfolding position_of verdict finite_row of_bits to_bits of_int add mul
positions = refl

whole : WholeRow whole_row
unfolding of_bits
whole =
    record {
      n0 = pos 0;
      n1 = negsuc 0;
      n2 = pos 0;
      n3 = pos 100;
      is0 = record { sign = false; size = 0; value = (refl, refl); is = refl };
      is1 = record { sign = true; size = 1; value = (refl, refl); is = refl };
      is2 = record { sign = false; size = 0; value = (refl, refl); is = refl };
      is3 = record { sign = false; size = 100; value = (refl, refl); is = refl };
      small0 = lit≤ tt;
      small1 = lit≤ tt;
      small2 = lit≤ tt;
      small3 = lit≤ tt;
    }

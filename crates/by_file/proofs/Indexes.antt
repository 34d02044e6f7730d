-- An index inside the seven axes of a file's dims is one that the calls take: seven numbers, each below 32768.
use Prim.Native.Nat.{ℕ, zero, suc, ◌+◌, ◌*◌, ◌≤◌}
use mathlib.Core.Path.{◌≡◌, ◌∙◌}
use mathlib.Core.Bool.{true}
use mathlib.Core.List.{List}
use native.Mathlib.Omega.{arith}
use lib.IntN.{ℤ}
use lib.ListN.{length}
use mir.Syntax.{w16}
use mir.Val.{to_z}
use Rattle.number.specs.Natural.{natural_of}
use Rattle.number.proofs.Naturals.{natural_half}
use Rattle.field.specs.declared.Order.{Order}
use Rattle.field.specs.Numbers.{tabulate, u16_at, i16s_at}
use Rattle.grid.specs.Grid.{within}
use Rattle.grid.specs.Axes.{dim_at, seven_axes}
use Rattle.grid.proofs.Bounds.{AtMost, seven_most, seven_length, within-length, within_most}

-- dim entries are signed 16-bit
dims_most : (f : ℕ → ℕ) (n k : ℕ) → natural_of (dim_at (tabulate (λ i. to_z w16 (f i)) n) k) ≤ 32767
dims_most f zero k = omega arith
dims_most f (suc n) zero = omega (arith, natural_half (f 0))
dims_most f (suc n) (suc k) = dims_most (λ i. f (suc i)) n k

pub index_seven : (order : Order) (s : List ℕ) (n : ℕ) (index : List ℕ) → n ≤ 7
    → within (seven_axes (i16s_at order s 40 8) n) index ≡ true → (length index ≡ 7) × AtMost 32767 index
index_seven order s n index h w =
    let dim : List ℤ = i16s_at order s 40 8 in
    let most = seven_most 32766 dim n (dims_most (λ i. u16_at order s (40 + i * 2)) 8) in
    (within-length (seven_axes dim n) index w ∙ seven_length dim n h, within_most 32767 (seven_axes dim n) index w most)

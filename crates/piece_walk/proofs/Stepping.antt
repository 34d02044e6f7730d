-- A step with a piece, without the eight bytes: those that the piece has are read where they stand, and fewer than 16 bytes break the
-- size rule whatever they are.
use Prim.Native.Nat.{ℕ, ◌+◌, ◌-◌, ◌<◌, ◌≤◌, min}
use mathlib.Core.Path.{◌≡◌, sym, ap, ◌∙◌}
use mathlib.Core.List.{List}
use native.Mathlib.Omega.{arith}
use borrow.Author.Tests.{lt-ltb, le-ltb}
use lib.IntN.{ℤ}
use lib.ListN.{get_or}
use mir.Syntax.{w32}
use mir.Val.{to_z}
use Rattle.field.specs.declared.Order.{Order}
use Rattle.field.specs.Numbers.{i32_at}
use Rattle.field.proofs.Tabulate.{tabulate_get}
use Rattle.extension.specs.declared.Walker.{Walker}
use Rattle.extension.specs.Walk.{found_by, step_from}
use Rattle.extension.proofs.Regions.{u32_same}
use Rattle.extension.proofs.Found.{found_short}
use Rattle.piece_walk.specs.Window.{window_byte, window}
use Rattle.piece_walk.specs.Walking.{step_by}

module _ (w : Walker) (coming : List ℕ) (total n : ℕ) (left : n ≡ min w.end total - w.at) where
  pub step_short : (size code : ℤ) → n < 16 → step_from w (found_by w.count w.at n size code) ≡ step_by w coming total
  unfolding step_by
  step_short size code h =
      rw (← left)
      (ap (step_from w) (found_short w.count w.at n size code (i32_at w.order coming 0) (i32_at w.order coming 4) h))

  pub step_with : (size code : ℤ) → size ≡ i32_at w.order coming 0 → code ≡ i32_at w.order coming 4
      → step_from w (found_by w.count w.at n size code) ≡ step_by w coming total
  unfolding step_by
  step_with size code s c = rw (left, s, c)

module _ (at end n : ℕ) (old piece : List ℕ) (from : n ≤ at) (room : at + 8 ≤ end) where
  byte_in : (i : ℕ) → i < 8 → get_or piece (at - n + i) 0 ≡ get_or (window at end n old piece) i 0
  unfolding window
  byte_in i h =
      let e : at - n + i ≡ at + i - n = omega arith in
      let b : window_byte at end n old piece i ≡ get_or piece (at + i - n) 0 =
      rw (lt-ltb (at + i) end (omega arith), le-ltb (at + i) n (omega arith)) in
      ap (λ j. get_or piece j 0) e ∙ sym (tabulate_get (λ j. window_byte at end n old piece j) 8 i 0 h ∙ b)

  pub number_in : (order : Order) (k : ℕ) → k + 4 ≤ 8 → i32_at order piece (at - n + k) ≡ i32_at order (window at end n old piece) k
  number_in order k h =
      ap (to_z w32)
      (u32_same order piece (window at end n old piece) (at - n + k) k
      (λ i below.
      let e : at - n + k + i ≡ at - n + (k + i) = omega arith in
      ap (λ j. get_or piece j 0) e ∙ byte_in (k + i) (omega arith)))

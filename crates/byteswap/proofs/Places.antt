-- What is read of a list of runs that was turned round, place by place: a unit's bytes are turned round, so a number reads in the
-- other byte order as it did (`number_same`), and text reads as it did (`text_same`). Which unit stands at a place is a computed
-- test (crate units, `units_at`), so that each field of a header is an instance.
use Prim.Native.Nat.{ℕ, ◌+◌, ◌*◌, ◌≤◌, ◌<◌}
use mathlib.Core.Path.{◌≡◌, sym, ap, ◌∙◌}
use mathlib.Core.Bool.{true}
use mathlib.Core.List.{List, reverse}
use native.Mathlib.Omega.{arith}
use native.Mathlib.Nat.{add-zero, mul-one}
use lib.ListN.{length, get_or}
use mir.Syntax.{w16}
use mir.Val.{to_z}
use Rattle.field.specs.declared.Order.{Order}
use Rattle.field.specs.Numbers.{other, bytes_at, number_of, u16_at, u32_at, i16_at, u32s_at, i16s_at}
use Rattle.field.proofs.Inverse.{number_other}
use Rattle.field.proofs.Tabulate.{bytes_at_part, tabulate_same}
use Rattle.units.specs.Runs.{Run, turn_runs}
use Rattle.units.proofs.Runs.{span_of, length-turn_runs}
use Rattle.units.proofs.Places.{units_at, turns_at}

module _ (rs : List Run) (s : List ℕ) (room : span_of rs ≤ length s) where
  abbrev after : List ℕ
  after = turn_runs rs s

  unit_bytes : (w n p i : ℕ) → units_at w n p rs ≡ true → i < n → bytes_at (p + i * w) w after ≡ reverse (bytes_at (p + i * w) w s)
  unit_bytes w n p i h b =
      let t = turns_at w n p i rs s b room h in
      bytes_at_part (p + i * w) w after (omega (arith, t.inside, length-turn_runs rs s))
      ∙ t.unit
      ∙ ap reverse (sym (bytes_at_part (p + i * w) w s (omega (arith, t.inside))))

  number_same : (o : Order) (w n p i : ℕ) → units_at w n p rs ≡ true → i < n
      → number_of (other o) (bytes_at (p + i * w) w after) ≡ number_of o (bytes_at (p + i * w) w s)
  number_same o w n p i h b = ap (number_of (other o)) (unit_bytes w n p i h b) ∙ number_other o (bytes_at (p + i * w) w s)

  pub u32s_same : (o : Order) (p n : ℕ) → units_at 4 n p rs ≡ true → u32s_at (other o) after p n ≡ u32s_at o s p n
  unfolding u32_at
  u32s_same o p n h =
      tabulate_same (λ i. u32_at (other o) after (p + i * 4)) (λ i. u32_at o s (p + i * 4)) n (λ i b. number_same o 4 n p i h b)

  pub i16s_same : (o : Order) (p n : ℕ) → units_at 2 n p rs ≡ true → i16s_at (other o) after p n ≡ i16s_at o s p n
  unfolding u16_at
  i16s_same o p n h =
      tabulate_same (λ i. i16_at (other o) after (p + i * 2)) (λ i. i16_at o s (p + i * 2)) n
      (λ i b. ap (to_z w16) (number_same o 2 n p i h b))

  byte_same : (n p i : ℕ) → units_at 1 n p rs ≡ true → i < n → get_or after (p + i) 0 ≡ get_or s (p + i) 0
  byte_same n p i h b = let e = unit_bytes 1 n p i h b in rw (mul-one, add-zero) at (ap (λ (l : List ℕ). get_or l 0 0) e)

  pub text_same : (p n : ℕ) → units_at 1 n p rs ≡ true → bytes_at p n after ≡ bytes_at p n s
  text_same p n h = tabulate_same (λ i. get_or after (p + i) 0) (λ i. get_or s (p + i) 0) n (λ i b. byte_same n p i h b)

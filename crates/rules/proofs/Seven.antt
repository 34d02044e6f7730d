-- Rule 2's test of dim[0], by its bits and by the number of axes; and what it decides of a record.
use Rattle.refusal.specs.declared.Rule.TheVariants.{AxisCount}
use Rattle.std.specs.Prelude.{Err}
use Prim.Native.Nat.{ℕ, ◌≤◌}
use mathlib.Core.Path.{◌≡◌, refl}
use mathlib.Core.Bool.{Bool, true, false, ◌&&◌, and-false}
use native.Mathlib.Omega.{arith}
use borrow.Author.Tests.{le-ltb, lt-leb, ltb-false}
use lib.Dec.{leb, ltb}
use lib.IntN.{ℤ, pos, negsuc}
use mir.Syntax.{w16}
use mir.Val.{to_z}
use Rattle.refusal.specs.Table.{refusal, verdict}
use Rattle.number.specs.Natural.{natural_of}
use Rattle.grid.specs.Axes.{dim_at}
use Rattle.header.specs.declared.Header.{Header}
use Rattle.rules.specs.Rules.{one_to_seven, judged_of, shape_of_record, record_judged}

seven_above : (n : ℕ) → 32768 ≤ n → (leb 1 n && leb n 7) ≡ one_to_seven (to_z w16 n)
seven_above n h = rw (le-ltb n 32768 h, lt-leb n 7 (omega arith)) (and-false (leb 1 n))

pub seven_bits : (n : ℕ) → (leb 1 n && leb n 7) ≡ one_to_seven (to_z w16 n)
seven_bits n = by (ltb n 32768) refl
  where
    by : (t : Bool) → ltb n 32768 ≡ t → (leb 1 n && leb n 7) ≡ one_to_seven (to_z w16 n)
    by true e = rw e
    by false e = seven_above n (ltb-false n 32768 e)

-- and by the number of axes that it states
pub seven_natural : (z : ℤ) → one_to_seven z ≡ (leb 1 (natural_of z) && leb (natural_of z) 7)
seven_natural (pos n) = refl
seven_natural (negsuc n) = refl

-- what a record's rule 2 decides
module _ (h : Header) where
  pub record_2 : one_to_seven (dim_at h.dim 0) ≡ false → Err (refusal AxisCount 40) ≡ record_judged h
  unfolding record_judged verdict
  record_2 e = rw e

  pub record_rest : one_to_seven (dim_at h.dim 0) ≡ true → judged_of (shape_of_record h) 0 ≡ record_judged h
  unfolding record_judged judged_of verdict
  record_rest e = rw e

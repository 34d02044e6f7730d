-- What holds of every position: its three values are finite; and in the case that 01-scope.md states it is the exact whole number; and
-- which numbers a refusal has. The crate slice_position has the same of files.
use Rattle.std.specs.Prelude.{Ok, Err, Some, None, Result, Option}
use mathlib.Core.Path.{◌≡◌, refl, sym, subst}
use mathlib.Core.Bool.{Bool, true, false, not, ◌&&◌, ◌||◌, and-eq-true_iff}
use mathlib.Core.List.{List, [], ◌∷◌}
use Prim.Native.Nat.{ℕ, suc, ◌<◌}
use borrow.Author.Tests.{not-false}
use lib.Dec.{eqb}
use lib.ListN.{get_or}
use lib.IntN.{ℤ, pos}
use lib.Signed.{le_z}
use lib.Ieee.Scale.{finite}
use Rattle.refusal.specs.declared.Refusal.{Refusal}
use Rattle.refusal.specs.Table.{verdict, number_of}
use Rattle.refusal.proofs.Rows.{Clear, none, one, accepted_clear, decided_accepted, decided-refused, verdict_number}
use Rattle.grid.specs.Grid.{within}
use Rattle.grid.specs.Axes.{seven_axes}
use Rattle.grid.proofs.Axes.{seven_at}
use Rattle.rules.specs.Rules.{axis_count}
use Rattle.rules.proofs.Passed.{neither}
use Rattle.affine.specs.declared.Position.{Position}
use Rattle.affine.specs.Method.{finite_rows, finite_results}
use Rattle.affine.specs.Whole.{IsWhole, WholeRow, exact_of, PlacedExactly}
use Rattle.affine.proofs.Theorems.{position_exact}
use Rattle.position.specs.declared.Sform.{Sform}
use Rattle.position.specs.Positions.{length_at, three_axes, results_by, position_rows, position_by}
use Rattle.position.proofs.Answers.{from_placed, placed_by, position_placed}

-- ---- the stated case
-- "the first three numbers of each row are whole and at most 64 in size, and its last is whole and at most 8,388,608 in size"
pub record WholeRows (f : Sform) : Type 0 where
  pub x : WholeRow f.srow_x
  pub y : WholeRow f.srow_y
  pub z : WholeRow f.srow_z

-- an answer that is the position of three whole numbers
abbrev pub PositionedExactly : Result Position Refusal → ℤ → ℤ → ℤ → Type 0
PositionedExactly (Err r) x y z = ⊥
PositionedExactly (Ok p) x y z = IsWhole p.x x × IsWhole p.y y × IsWhole p.z z

-- "the position is the exact whole number"
abbrev pub ExactAt : (f : Sform) → WholeRows f → ℕ → ℕ → ℕ → Result Position Refusal → Type 0
ExactAt f w i j k answer = PositionedExactly answer (exact_of w.x i j k) (exact_of w.y i j k) (exact_of w.z i j k)

pub placed_exactly : (p : Option Position) (x y z : ℤ) → PlacedExactly p x y z → PositionedExactly (from_placed p) x y z
placed_exactly (Some p) x y z e = e
placed_exactly None x y z e = absurd e

-- an index is inside its axis, and sform_code is above 0
pub record Answered (f : Sform) (i j k : ℕ) : Type 0 where
  pub inside : within (three_axes f.dim) (i ∷ j ∷ k ∷ []) ≡ true
  pub above : le_z f.sform_code (pos 0) ≡ false

pub position_by_exact : (f : Sform) (w : WholeRows f) (i j k : ℕ) → Answered f i j k → i < 32768 → j < 32768 → k < 32768
    → ExactAt f w i j k (position_by f i j k)
position_by_exact f w i j k a hi hj hk =
    subst (ExactAt f w i j k) (position_placed f i j k a.inside a.above)
    (placed_exactly (placed_by f i j k) _ _ _ (position_exact w.x w.y w.z i j k hi hj hk))

-- ---- the axes are those of a voxel's seven indexes
pub length_of_seven : (dim : List ℤ) (k : ℕ) → k < 7 → get_or (seven_axes dim (axis_count dim)) k 0 ≡ length_at dim (suc k)
length_of_seven dim k h = seven_at dim (axis_count dim) k h

-- ---- every position is finite

-- a position is not a refusal
pub unpositioned_never {ℓ} : {A : Type ℓ} {r : Refusal} {p : Position} → ◌≡◌ {A = Result Position Refusal} (Err r) (Ok p) → A
unpositioned_never e = cc

abbrev pub IsFinite : Position → Type 0
IsFinite p = (finite p.x ≡ true) × (finite p.y ≡ true) × (finite p.z ≡ true)

results_finite : (p : Position) → finite_results p ≡ true → IsFinite p
results_finite p e =
    let two = (and-eq-true_iff (finite p.x && finite p.y) (finite p.z)).0 e in
    let one = (and-eq-true_iff (finite p.x) (finite p.y)).0 two.0 in
    (one.0, one.1, two.1)

rows_finite : (f : Sform) (i j k : ℕ) → Clear (position_rows f i j k) → finite_results (results_by f i j k) ≡ true
rows_finite f i j k (one r17 (one r23 (one placed none))) =
    let p = results_by f i j k in
    not-false (finite_results p) (neither (not (finite_rows f.srow_x f.srow_y f.srow_z)) (not (finite_results p)) placed).1

pub position_by_finite : (f : Sform) (i j k : ℕ) (p : Position) → position_by f i j k ≡ Ok p → IsFinite p
unfolding position_by
position_by_finite f i j k p e =
    let d = decided_accepted (verdict (position_rows f i j k)) (λ r. unpositioned_never) e in
    let same : results_by f i j k ≡ p = cc d.1 in
    subst IsFinite same (results_finite (results_by f i j k) (rows_finite f i j k (accepted_clear (position_rows f i j k) d.0)))

-- ---- The numbers of the refusals

-- 17 and 23
abbrev pub record_number : ℕ → Bool
record_number n = eqb n 17 || eqb n 23

pub position_by_number : (f : Sform) (i j k : ℕ) (r : Refusal) → position_by f i j k ≡ Err r → record_number (number_of r.rule) ≡ true
unfolding position_by
position_by_number f i j k r e =
    let d = decided-refused (verdict (position_rows f i j k)) (λ x. unpositioned_never (sym x)) e in
    let same : d.0 ≡ r = cc d.2 in
    rw (← same) (verdict_number record_number (position_rows f i j k) d.0 refl d.1)

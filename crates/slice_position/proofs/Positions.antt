-- What holds of every position of a file: what the crate position shows of its record, with no hypothesis on the record left.
use Rattle.refusal.specs.Table.{number_of}
use Rattle.std.specs.Prelude.{Ok, Err}
use mathlib.Core.Path.{◌≡◌}
use mathlib.Core.Bool.{Bool, true, false, cond, ◌||◌, or-true}
use mathlib.Core.List.{List, []}
use Prim.Native.Nat.{ℕ, ◌<◌}
use native.Mathlib.Omega.{arith}
use lib.Dec.{leb}
use lib.IntN.{ℤ}
use Rattle.field.specs.declared.Order.{Order}
use Rattle.field.specs.declared.Order.TheVariants.{Little}
use Rattle.field.specs.Numbers.{u16_at, i16s_at}
use Rattle.refusal.specs.declared.Refusal.{Refusal}
use Rattle.refusal.proofs.Rows.{decided_accepted, between}
use Rattle.number.specs.Natural.{natural_of}
use Rattle.number.proofs.Naturals.{natural_half}
use Rattle.extension.specs.Walk.{Walked, listed, stopped}
use Rattle.grid.specs.Axes.{dim_at}
use Rattle.grid.proofs.Voxels.{within_both}
use Rattle.header.specs.Fields.{header_of}
use Rattle.rules.specs.Rules.{axis_count}
use Rattle.layout.specs.File.{order_of}
use Rattle.reader.specs.Reading.{judgement, reading_by, reading_of, IsAccepted}
use Rattle.reader.proofs.Theorems.{answered_number}
use Rattle.affine.specs.declared.Position.{Position}
use Rattle.position.specs.Positions.{length_at, sform_of}
use Rattle.position.proofs.Theorems.{WholeRows, ExactAt, Answered, position_by_exact, IsFinite, position_by_finite}
use Rattle.position.proofs.Theorems.{unpositioned_never, record_number, position_by_number}
use Rattle.slice_position.specs.Files.{position_at}
use Rattle.slice_position.proofs.Shown.{refused_same}

-- the lengths of a file's axes
axis_half : (dim : List ℤ) (axis : ℕ) → natural_of (dim_at dim axis) < 32768 → length_at dim axis < 32768
axis_half dim axis h = go (leb axis (axis_count dim))
  where
    go : (t : Bool) → cond t (natural_of (dim_at dim axis)) 1 < 32768
    go true = h
    go false = omega arith

abbrev pub ThreeHalf : List ℤ → Type 0
ThreeHalf dim = (length_at dim 1 < 32768) × (length_at dim 2 < 32768) × (length_at dim 3 < 32768)

read_half : (order : Order) (s : List ℕ) → ThreeHalf (i16s_at order s 40 8)
read_half order s =
    let dim = i16s_at order s 40 8 in (
      axis_half dim 1 (natural_half (u16_at order s 42)),
      axis_half dim 2 (natural_half (u16_at order s 44)),
      axis_half dim 3 (natural_half (u16_at order s 46)),
    )

pub file_half : (file : List ℕ) → ThreeHalf (reading_of file).header.dim
unfolding reading_of header_of
file_half file = go (judgement file)
  where
    go : (w : Walked) → ThreeHalf (reading_by file w).header.dim
    go (listed xs) = read_half (order_of file) file
    go (stopped r) = read_half Little []

-- In the stated case every accepted file has a position for each index inside its axes, and it is the exact whole number.
pub file_position_exact : (file : List ℕ) (w : WholeRows (sform_of (reading_of file).header)) (i j k : ℕ)
    → IsAccepted file → Answered (sform_of (reading_of file).header) i j k
    → ExactAt (sform_of (reading_of file).header) w i j k (position_at file i j k)
unfolding position_at
file_position_exact file w i j k e a =
    let f = sform_of (reading_of file).header in
    let l = file_half file in
    let p = within_both _ _ i _ a.inside in
    let q = within_both _ _ j _ p.1 in
    let r = within_both _ _ k _ q.1 in
    rw e
    (position_by_exact f w i j k a (omega (arith, p.0, l.0)) (omega (arith, q.0, l.1)) (omega (arith, r.0, l.2)))

-- Every position is finite.
pub file_position_finite : (file : List ℕ) (i j k : ℕ) (p : Position) → position_at file i j k ≡ Ok p → IsFinite p
unfolding position_at
file_position_finite file i j k p e =
    let d = decided_accepted (reading_of file).verdict (λ r. unpositioned_never) e in
    position_by_finite (sform_of (reading_of file).header) i j k p d.1

-- A refusal has a number of 1 to 15, 17 or 23.
abbrev pub position_number : ℕ → Bool
position_number n = between 1 15 n || record_number n

pub position_number_lem : (file : List ℕ) (i j k : ℕ) (r : Refusal) → position_at file i j k ≡ Err r → position_number (number_of r.rule) ≡ true
unfolding position_at
position_number_lem file i j k r e =
    answered_number position_number file r (λ n h. rw h) (λ q. refused_same {A = Position} q r)
    (λ a d. rw (position_by_number (sform_of (reading_of file).header) i j k r d) (or-true (between 1 15 (number_of r.rule)))) e

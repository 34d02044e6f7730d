-- The sizes of fields that rules 2 and 5 to 10 pass: they can be computed from bitpix, and are those of the dims and the datatype; and
-- when the record's sizes and its aligned fact pass the writer's test.
use Rattle.std.specs.Prelude.{Some}
use Prim.Native.Nat.{ℕ, ◌/◌, ◌≤◌}
use mathlib.Core.Path.{◌≡◌, refl, ap, sym, ◌∙◌}
use mathlib.Core.Bool.{Bool, true, false, not, and-eq-true_iff, beq, false≢true}
use borrow.Author.Tests.{leb-true, eqb-true, eq-eqb, not-false}
use lib.Dec.{leb, eqb}
use lib.IntN.{ℤ}
use Rattle.refusal.proofs.Rows.{Clear, one}
use Rattle.number.specs.Natural.{natural_of}
use Rattle.number.specs.Same.{same_numbers}
use Rattle.number.proofs.Same.{same_is, same_self}
use Rattle.datatype.specs.declared.Format.{Format}
use Rattle.datatype.specs.Datatypes.{datatype_of}
use Rattle.offset.specs.Offset.{whole_of}
use Rattle.grid.specs.declared.Sizes.{Sizes}
use Rattle.grid.specs.Axes.{dim_at}
use Rattle.grid.specs.Sizes.{sizes_by, same_sizes}
use Rattle.rules.specs.declared.Shape.{Shape}
use Rattle.rules.specs.Rules.{one_to_seven, axis_count, format_bytes, sizes_of, shape_rows, Measured}
use Rattle.rules.proofs.Judging.{HasOffset, voxel_bytes_lem}
use Rattle.rules.proofs.Passed.{Fields, clear_fields}
use Rattle.rules.proofs.Seven.{seven_natural}

-- rule 2: at most seven axes
pub axes_few : (z : ℤ) → not (one_to_seven z) ≡ false → natural_of z ≤ 7
axes_few z e =
    let n : ℕ = natural_of z in
    let p = (and-eq-true_iff (leb 1 n) (leb n 7)).0 (sym (seven_natural z) ∙ not-false (one_to_seven z) e) in
    leb-true n 7 p.1

-- rules 6 and 7: the datatype has a format, and a voxel has its bytes
pub record Formed (f : Shape) : Type 0 where
  pub format : Format
  pub known : datatype_of f.datatype ≡ Some format
  pub bytes : natural_of f.bitpix / 8 ≡ format.bytes

fields_formed : (f : Shape) (len : ℕ) → Fields f len → Formed f
fields_formed f len t =
    let at = whole_of f.vox_offset in
    let o : HasOffset f t.format at =
    record { format = record { axes = t.axes; known = t.known }; bits = t.bits; whole = t.whole; value = refl } in
    record { format = t.format; known = t.known; bytes = voxel_bytes_lem f len t.format at o }

pub fields_measured : (f : Shape) (len : ℕ) → not (one_to_seven (dim_at f.dim 0)) ≡ false → Fields f len → Measured f
fields_measured f len two t =
    let m = fields_formed f len t in
    record {
      small = record { axes = axes_few (dim_at f.dim 0) two; whole = t.axes; small = t.small };
      bytes = m.bytes ∙ sym (ap format_bytes m.known);
    }

module _ (f : Shape) where
  pub shape_formed : Clear (shape_rows f) → Formed f
  shape_formed (one two fields) = fields_formed f 0 (clear_fields f 0 fields)

  pub shape_measured : Clear (shape_rows f) → Measured f
  shape_measured (one two fields) = fields_measured f 0 two (clear_fields f 0 fields)

-- the sizes by bitpix are those by the datatype
pub measured_sizes : (f : Shape) → Measured f → sizes_by f.dim (axis_count f.dim) (natural_of f.bitpix / 8) ≡ sizes_of f.dim f.datatype
unfolding sizes_of
measured_sizes f m = ap (λ (b : ℕ). sizes_by f.dim (axis_count f.dim) b) m.bytes

-- sizes that pass the test are the same, and each pass it beside themselves
pub sizes_same : (a b : Sizes) → same_sizes a b ≡ true → a ≡ b
sizes_same a b e =
    let p = (and-eq-true_iff (eqb a.total b.total) (same_numbers a.steps b.steps)).0 e in
    let t = eqb-true a.total b.total p.0 in
    let s = same_is a.steps b.steps p.1 in
    λ i. record { total = t i; steps = s i }

pub sizes_self : (a : Sizes) → same_sizes a a ≡ true
sizes_self a = rw (eq-eqb a.total a.total refl, same_self a.steps)

-- the same of the aligned fact
pub fact_same : (a b : Bool) → beq a b ≡ true → a ≡ b
fact_same true true e = refl
fact_same true false e = absurd (false≢true e)
fact_same false true e = absurd (false≢true e)
fact_same false false e = refl

pub fact_self : (a : Bool) → beq a a ≡ true
fact_self true = refl
fact_self false = refl

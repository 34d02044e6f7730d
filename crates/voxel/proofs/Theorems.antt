-- What holds of every voxel of a record that is located, and the numbers of its refusals (01-scope.md, "Voxels and byte order").
use Rattle.refusal.specs.declared.Rule.TheVariants.{AxisCount, IndexOutside}
use Rattle.std.specs.Prelude.{Ok, Err, Result}
use Prim.Native.Nat.{ℕ, ◌+◌, ◌≤◌}
use mathlib.Core.Path.{◌≡◌, refl, sym}
use mathlib.Core.Bool.{Bool, true, not, ◌||◌}
use mathlib.Core.List.{List, [], ◌∷◌}
use native.Mathlib.Omega.{arith}
use lib.Dec.{eqb}
use Rattle.refusal.specs.declared.Refusal.{Refusal}
use Rattle.refusal.specs.Table.{Row, row, verdict, decided, number_of}
use Rattle.refusal.proofs.Rows.{Clear, none, one, accepted_clear, decided_accepted, decided-refused, between, numbers, verdict_number}
use Rattle.offset.specs.Offset.{offset_limit}
use Rattle.grid.specs.Grid.{within}
use Rattle.grid.specs.Axes.{image_limit}
use Rattle.grid.specs.Sizes.{bytes_before}
use Rattle.grid.proofs.Axes.{voxel_inside}
use Rattle.header.specs.declared.Header.{Header}
use Rattle.header.specs.declared.Kind.TheVariants.{Single}
use Rattle.rules.specs.declared.Image.{Image}
use Rattle.rules.specs.Rules.{axis_count, image_of, shape_of_record}
use Rattle.rules.proofs.Passed.{inside_limit}
use Rattle.voxel.specs.declared.Extent.{Extent}
use Rattle.voxel.specs.Voxel.{lengths_of, voxel_bytes, image_rows}
use Rattle.voxel.specs.declared.Volume.{Volume}
use Rattle.voxel.specs.Steps.{image_at, first_step, extent_by, no_axes, step_rows, volume_of, record_step_rows, stepped_by, stepped_in}
use Rattle.voxel.proofs.Locating.{Found, unlocated_never}
use Rattle.voxel.proofs.Stepping.{stays}

-- its bytes are bytes of the image
abbrev pub Inside : Extent → Image → Type 0
Inside e i = (i.offset ≤ e.place) × (e.place + e.length ≤ i.offset + i.bytes)

pub extent_inside : (h : Header) (len : ℕ) (index : List ℕ) (e : Extent) → Found h len index e → Inside e (image_of (shape_of_record h))
extent_inside h len index e f =
    let r = voxel_inside h.dim (axis_count h.dim) (voxel_bytes h) index f.inside in
    rw (← f.is) (omega arith, omega (arith, r))

-- By sizes, of any volume at all: what is located has a byte, its bytes are bytes of the image as the stored total has it, and the numbers are
-- far below 2^64.
pub record Stepped (v : Volume) (e : Extent) : Type 0 where
  pub inside : Inside e (image_at v)
  pub some : 1 ≤ e.length
  pub offset : v.offset ≤ offset_limit
  pub total : v.sizes.total ≤ image_limit

pub stepped_inside : (v : Volume) (len : ℕ) (index : List ℕ) (e : Extent) → stepped_by v len index ≡ Ok e → Stepped v e
unfolding stepped_by
stepped_inside v len index e d =
    let rows = row AxisCount (no_axes v.dim) 40 ∷ step_rows v len index in
    let p = decided_accepted (verdict rows) (λ r. unlocated_never) d in
    by (accepted_clear rows p.0) p.1
  where
    by : Clear (row AxisCount (no_axes v.dim) 40 ∷ step_rows v len index) → ◌≡◌ {A = Result Extent Refusal} (Ok (extent_by v index)) (Ok e) → Stepped v e
    by (one two (one nine (one whole (one within (one kept none))))) same =
        let is : extent_by v index ≡ e = cc in
        let k = stays v.sizes.total (bytes_before v.sizes.steps index) (first_step v) kept in
        rw (← is) record {
          inside = (omega arith, omega arith);
          some = k.0;
          offset = inside_limit v.kind v.offset 0 nine;
          total = k.1;
        }

-- ---- The numbers of the refusals

pub unlocated_same : (q r : Refusal) → ◌≡◌ {A = Result Extent Refusal} (Err q) (Err r) → q ≡ r
unlocated_same q r e = cc

-- of a record, by its sizes: 2, 8, 9, 16, 17 and 26
abbrev pub record_number : ℕ → Bool
record_number n = eqb n 2 || between 8 9 n || between 16 17 n || eqb n 26

pub rows_number : (p : ℕ → Bool) (rows : List Row) (e : Extent) (r : Refusal) → numbers p rows ≡ true
    → decided (verdict rows) (Ok e) Err ≡ Err r → p (number_of r.rule) ≡ true
rows_number p rows e r n d =
    let q = decided-refused (verdict rows) (λ x. unlocated_never (sym x)) d in
    rw (← unlocated_same q.0 r q.2) (verdict_number p rows q.0 n q.1)

pub stepped_in_number : (h : Header) (len : ℕ) (index : List ℕ) (r : Refusal) → stepped_in h len index ≡ Err r
    → record_number (number_of r.rule) ≡ true
unfolding stepped_in
stepped_in_number h len index r e = rows_number record_number (record_step_rows h len index) (extent_by (volume_of h) index) r refl e

-- of a single file's record the image's rows have 17 alone
pub single_rows : (h : Header) (len : ℕ) (index : List ℕ) → h.kind ≡ Single
    → verdict (image_rows h len index) ≡ verdict (row IndexOutside (not (within (lengths_of h) index)) 0 ∷ [])
unfolding verdict
single_rows h len index single = rw single

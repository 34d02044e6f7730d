-- Where the sizes are those of the dims and the datatype, and rules 2 and 5 to 10 pass, the sizes give the answer that the dims give.
use Rattle.std.specs.Prelude.{Ok, Err}
use Prim.Native.Nat.{ℕ, ◌+◌, ◌*◌, ◌≤◌}
use mathlib.Core.Path.{◌≡◌, refl, ap, sym, ◌∙◌}
use mathlib.Core.Bool.{Bool, true, false}
use mathlib.Core.List.{List}
use Rattle.refusal.specs.Table.{verdict, decided}
use Rattle.refusal.proofs.Rows.{Clear, one, clear_accepted}
use Rattle.datatype.proofs.Sound.{known_sound}
use Rattle.offset.specs.Offset.{whole_of}
use Rattle.grid.specs.declared.Sizes.{Sizes}
use Rattle.grid.specs.Grid.{within, voxel_number}
use Rattle.grid.specs.Sizes.{steps_to, sizes_by, bytes_before}
use Rattle.grid.proofs.Axes.{voxel_inside}
use Rattle.grid.proofs.Steps.{first_step_lem, steps_before}
use Rattle.header.specs.declared.Header.{Header}
use Rattle.rules.specs.declared.Shape.{Shape}
use Rattle.rules.specs.Rules.{axis_count, offset_outside, image_of, image_cut, shape_rows, shape_of_record, record_rows, sizes_of, Measured}
use Rattle.rules.proofs.Passed.{Fields, clear_fields}
use Rattle.rules.proofs.Sizes.{shape_formed, shape_measured, measured_sizes}
use Rattle.voxel.specs.Voxel.{lengths_in, bytes_in, image_rows_in, extent_in, located_by, located_in}
use Rattle.voxel.specs.declared.Volume.{Volume}
use Rattle.voxel.specs.Steps.{first_step, strays, no_axes, stepped_by, stepped_in}
use Rattle.voxel.proofs.Locating.{passed_located}
use Rattle.voxel.proofs.Stepping.{inside_stays, in_stepped}

-- a voxel has a byte at least, and 32 at most
pub shape_some : (f : Shape) → Clear (shape_rows f) → 1 ≤ bytes_in f
shape_some f c = let m = shape_formed f c in rw m.bytes (known_sound f.datatype m.format m.known).some

pub shape_most : (f : Shape) → Clear (shape_rows f) → bytes_in f ≤ 32
shape_most f c = let m = shape_formed f c in rw m.bytes (known_sound f.datatype m.format m.known).most

-- what fields are located by, with some sizes
abbrev pub volume_with : Shape → Sizes → Volume
volume_with f sizes = record { dim = f.dim; offset = whole_of f.vox_offset; sizes = sizes; kind = f.kind }

-- rules 2, 8 and 9 of fields that all of them pass
passed_2 : (f : Shape) → Clear (shape_rows f) → no_axes f.dim ≡ false
passed_2 f (one two fields) = two

pub passed_fields : (f : Shape) → Clear (shape_rows f) → Fields f 0
passed_fields f (one two fields) = clear_fields f 0 fields

module _ (f : Shape) (c : Clear (shape_rows f)) (len : ℕ) (index : List ℕ) where
  abbrev n : ℕ
  n = axis_count f.dim

  -- the sizes as bitpix gives them
  abbrev v : Volume
  v = volume_with f (sizes_by f.dim n (bytes_in f))

  measured : Measured f
  measured = shape_measured f c

  before_is : bytes_before v.sizes.steps index ≡ bytes_in f * voxel_number (lengths_in f) index
  unfolding sizes_by
  before_is = steps_before f.dim n (bytes_in f) measured.small.axes index

  pub first-length : first_step v ≡ bytes_in f
  unfolding sizes_by steps_to
  first-length = first_step_lem f.dim n (bytes_in f)

  -- a voxel whose index is inside is one of the image
  pub inside_kept : within (lengths_in f) index ≡ true → strays v index ≡ false
  unfolding sizes_by
  inside_kept inside =
      inside_stays v.sizes.total (bytes_before v.sizes.steps index) (first_step v) (rw first-length (shape_some f c)) measured.small.small
      (rw (before_is, first-length) (voxel_inside f.dim n (bytes_in f) index inside))

  low : offset_outside f.kind (whole_of f.vox_offset) 0 ≡ false
  low = (passed_fields f c).inside

  -- so the sizes give what the dims give
  pub stepped_located : stepped_by v len index ≡ located_by f len index
  unfolding stepped_by verdict sizes_by
  stepped_located =
      by (image_cut f.kind len (image_of f)) (within (lengths_in f) index) refl refl
      ∙ sym (passed_located f len index (clear_accepted c))
    where
      by : (t u : Bool) → image_cut f.kind len (image_of f) ≡ t → within (lengths_in f) index ≡ u
          → stepped_by v len index ≡ decided (verdict (image_rows_in f len index)) (Ok (extent_in f index)) Err
      by true u cut e = rw (passed_2 f c, low, cut)
      by false false cut e = rw (passed_2 f c, low, cut, e)
      by false true cut e =
          rw (passed_2 f c, low, cut, e, inside_kept e)
          (λ i. Ok (record { place = whole_of f.vox_offset + before_is i; length = first-length i }))

  right_located : stepped_by (volume_with f (sizes_of f.dim f.datatype)) len index ≡ located_by f len index
  right_located = ap (λ (z : Sizes). stepped_by (volume_with f z) len index) (sym (measured_sizes f measured)) ∙ stepped_located

-- and so do those of a record
pub in_located : (h : Header) → Clear (record_rows h) → h.sizes ≡ sizes_of h.dim h.intent.datatype → (len : ℕ) (index : List ℕ)
    → stepped_in h len index ≡ located_in h len index
in_located h c right len index =
    let f = shape_of_record h in
    sym (in_stepped h len index (passed_fields f c).whole)
    ∙ ap (λ (z : Sizes). stepped_by (volume_with f z) len index) right
    ∙ right_located f c len index

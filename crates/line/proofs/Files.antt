-- A line of a file is the line of its record: where reading accepts, the sizes are those of the dims, and of the rules of any volume 16, 17 and 22
-- alone are left.
use Rattle.std.specs.Prelude.{Result}
use Rattle.refusal.specs.declared.Refusal.{Refusal}
use Rattle.voxel.specs.declared.Extent.{Extent}
use Prim.Native.Nat.{ℕ, ◌-◌}
use mathlib.Core.Path.{◌≡◌, refl, sym, ap, ◌∙◌}
use mathlib.Core.Bool.{Bool, true, false}
use mathlib.Core.List.{List}
use native.Mathlib.Omega.{arith}
use borrow.Author.Tests.{le-ltb}
use lib.ListN.{length}
use Rattle.refusal.specs.Table.{verdict}
use Rattle.refusal.proofs.Rows.{Clear, one}
use Rattle.grid.specs.Sizes.{sizes_by}
use Rattle.header.specs.declared.Header.{Header}
use Rattle.rules.specs.declared.Shape.{Shape}
use Rattle.rules.specs.Rules.{axis_count, shape_rows, record_rows, image_of, shape_of_record, cut_short, image_cut, holder}
use Rattle.reader.specs.Reading.{reading_of, IsAccepted}
use Rattle.reader.proofs.File.{accepted_record, record_whole}
use Rattle.gather_row.proofs.Series.{series_same}
use Rattle.voxel.specs.declared.Volume.{Volume}
use Rattle.voxel.specs.Voxel.{bytes_in}
use Rattle.voxel.specs.Steps.{no_axes, volume_of}
use Rattle.voxel.proofs.Stepping.{in_stepped}
use Rattle.voxel.proofs.Sized.{volume_with, passed_fields, shape_most, inside_kept, first-length}
use Rattle.by_file.specs.Files.{located_of, part_of, voxel_of}
use Rattle.by_file.proofs.Shown.{volume_is}
use Rattle.by_file.proofs.Steps.{accepted_stepped}
use Rattle.line_plan.specs.Line.{with_number, along, count_along, line_outside, widest, line_strays, volume_verdict}
use Rattle.line_plan.proofs.Places.{line_inside}
use Rattle.line_copy.specs.Copied.{voxel_in, line_in}
use Rattle.line.specs.Lines.{line_of, file_rows, line_verdict}

-- ---- the rules, of a record that passes 2 and 5 to 10 and has the sizes that its fields give

pub two_passed : (f : Shape) → Clear (shape_rows f) → no_axes f.dim ≡ false
two_passed f (one two rest) = two

module _ (h : Header) (c : Clear (record_rows h)) (image axis : ℕ) (index : List ℕ) where
  abbrev f : Shape
  f = shape_of_record h

  abbrev v : Volume
  v = volume_with f (sizes_by f.dim (axis_count f.dim) (bytes_in f))

  -- 26 is not given
  sizes_right : line_outside f.dim axis index ≡ false → line_strays v axis index ≡ false
  sizes_right e =
      let p = line_inside f.dim axis index (two_passed f c) e in
      let n : ℕ = count_along f.dim axis in
      let kept = inside_kept f c image (with_number axis index (n - 1)) (p.each (n - 1) (omega (arith, p.some))) in
      rw (kept, first-length f c image index, le-ltb widest (bytes_in f) (shape_most f c))

  fields_verdict : (file out : ℕ) → cut_short f.kind file (image_of f) ≡ false
      → volume_verdict v file image axis index out ≡ verdict (file_rows h image axis index out)
  unfolding verdict sizes_by
  fields_verdict file out whole = by (image_cut f.kind image (image_of f)) (line_outside f.dim axis index) refl refl
    where
      by : (t u : Bool) → image_cut f.kind image (image_of f) ≡ t → line_outside f.dim axis index ≡ u
          → volume_verdict v file image axis index out ≡ verdict (file_rows h image axis index out)
      by true u cut e = rw (two_passed f c, (passed_fields f c).inside, whole, cut)
      by false true cut e = rw (two_passed f c, (passed_fields f c).inside, whole, cut, e)
      by false false cut e =
          rw (two_passed f c, (passed_fields f c).inside, whole, cut, e, sizes_right e, first-length f c image index)

-- ---- a file that reading accepts

module _ (file image : List ℕ) (a : IsAccepted file) where
  abbrev h : Header
  h = (reading_of file).header

  -- a voxel by the record is that of the file,
  voxel_same : (index : List ℕ) → voxel_in (volume_of h) file image index ≡ voxel_of file image index
  unfolding voxel_of located_of
  voxel_same index =
      let whole = (passed_fields (shape_of_record h) (accepted_record file a)).whole in
      let same = in_stepped h (length image) index whole ∙ accepted_stepped file a (length image) index in
      rw a (ap (λ (l : Result Extent Refusal). part_of l (holder h.kind file image)) same)

  module _ (axis : ℕ) (index : List ℕ) where
    -- and so is a line
    pub line_same : line_in (volume_of h) file image axis index ≡ line_of file image axis index
    unfolding line_in line_of along
    line_same =
        series_same
        (λ k. voxel_in (volume_of h) file image (with_number axis index k)) (λ k. voxel_of file image (with_number axis index k))
        (count_along h.dim axis) (λ k l. voxel_same (with_number axis index k))

    pub verdict_same : (out : ℕ) → volume_verdict (volume_of h) (length file) (length image) axis index out ≡ line_verdict file image axis index out
    unfolding line_verdict
    verdict_same out =
        ap (λ (v : Volume). volume_verdict v (length file) (length image) axis index out) (sym (volume_is file a))
        ∙ fields_verdict h (accepted_record file a) (length image) axis index (length file) out (record_whole file a)
        ∙ rw a

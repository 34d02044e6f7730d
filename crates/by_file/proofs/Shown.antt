-- What the outline of an accepted file says of a voxel: what it is located by is what its record keeps.
use Rattle.std.specs.Prelude.{Ok, Err}
use Prim.Native.Nat.{ℕ, ◌+◌, ◌≤◌}
use mathlib.Core.Path.{◌≡◌, ap, sym, subst, ◌∙◌}
use mathlib.Core.List.{List}
use mathlib.Core.Bool.{true, false}
use Rattle.grid.specs.Grid.{within}
use Rattle.grid.specs.Axes.{seven_axes}
use lib.ListN.{length, take, drop}
use Rattle.refusal.specs.declared.Refusal.{Refusal}
use Rattle.refusal.proofs.Rows.{Clear, one, decided_accepted, decided-refused}
use Rattle.grid.specs.Sizes.{sizes_by}
use Rattle.header.specs.Fields.{header_of}
use Rattle.rules.specs.declared.Shape.{Shape}
use Rattle.rules.specs.Rules.{axis_count, image_of, shape_rows, shape_of_record, offset_outside, holder}
use Rattle.rules.proofs.Sizes.{shape_measured, measured_sizes}
use Rattle.layout.specs.declared.Layout.{Layout}
use Rattle.layout.specs.File.{shape_in}
use Rattle.reader.specs.Reading.{reading_of, IsAccepted}
use Rattle.reader.proofs.File.{accepted_record, accepted_sizes}
use Rattle.outline.specs.declared.Outline.{Outline}
use Rattle.outline.specs.Outline.{outline_of}
use Rattle.outline.proofs.Outlines.{shows, shown_header, shown_accepted, hidden_answer}
use Rattle.voxel.specs.Voxel.{bytes_in}
use Rattle.voxel.specs.declared.Volume.{Volume}
use Rattle.voxel.specs.Steps.{no_axes, strays, volume_of, stepped_by}
use Rattle.voxel.proofs.Stepping.{in_stepped}
use Rattle.voxel.proofs.Sized.{volume_with, passed_fields, inside_kept}
use Rattle.by_file.specs.Files.{volume_in, located_of, voxel_of}
use Rattle.by_file.proofs.Steps.{accepted_stepped}
use Rattle.by_file.proofs.Voxels.{voxel_in_file, voxel_bytes_are}
use Rattle.voxel.specs.declared.Extent.{Extent}

-- a record's sizes are those that its fields give
pub volume_is : (s : List ℕ) → IsAccepted s → let f = shape_of_record (reading_of s).header in
    volume_with f (sizes_by f.dim (axis_count f.dim) (bytes_in f)) ≡ volume_of (reading_of s).header
volume_is s a =
    let f = shape_of_record (reading_of s).header in
    ap (volume_with f) (measured_sizes f (shape_measured f (accepted_record s a)) ∙ sym (accepted_sizes s a))

module _ (s : List ℕ) (o : Outline) (e : outline_of 0 s ≡ Ok o) where
  abbrev pub fields : Shape
  fields = shape_in o.layout.order o.layout.kind s

  shown_shape : fields ≡ shape_of_record (reading_of s).header
  unfolding shape_in header_of
  shown_shape = ap shape_of_record (shown_header s 0 o e)

  pub shown_image : image_of fields ≡ o.layout.image
  shown_image =
      ap (λ (l : Layout). image_of (shape_in l.order l.kind s)) (sym (shows s 0 o e).layout)
      ∙ ap (λ (l : Layout). l.image) (shows s 0 o e).layout

  pub shown_volume : volume_with fields (sizes_by fields.dim (axis_count fields.dim) (bytes_in fields)) ≡ volume_of (reading_of s).header
  shown_volume =
      ap (λ (f : Shape). volume_with f (sizes_by f.dim (axis_count f.dim) (bytes_in f))) shown_shape
      ∙ volume_is s (shown_accepted s 0 o e)

pub hidden_volume : (s : List ℕ) (r : Refusal) → outline_of 0 s ≡ Err r → volume_in s ≡ Err r
hidden_volume s r e = sym (hidden_answer s 0 _ Err r e)

two_passed : (f : Shape) → Clear (shape_rows f) → no_axes f.dim ≡ false
two_passed f (one two rest) = two

-- by what a file answers, a voxel is located as the file's
module _ (s image index : List ℕ) where
  pub volume_answered : (v : Volume) → volume_in s ≡ Ok v → IsAccepted s × (volume_of (reading_of s).header ≡ v)
  volume_answered v e =
      let p = decided_accepted (reading_of s).verdict (λ r d. absurd cc) e in
      (p.0, cc)

  -- and the rules but 16 and 17 pass
  pub passes : (v : Volume) → volume_in s ≡ Ok v → (no_axes v.dim ≡ false) × (offset_outside v.kind v.offset 0 ≡ false)
      × (within (seven_axes v.dim (axis_count v.dim)) index ≡ true → strays v index ≡ false)
  passes v e =
      let p = volume_answered v e in
      let f = shape_of_record (reading_of s).header in
      let c = accepted_record s p.0 in
      let kept : within (seven_axes f.dim (axis_count f.dim)) index ≡ true → strays (volume_of (reading_of s).header) index ≡ false =
      λ w. subst (λ (u : Volume). strays u index ≡ false) (volume_is s p.0) (inside_kept f c (length image) index w) in
      rw (← p.1) (two_passed f c, (passed_fields f c).inside, kept)

  pub located_is : (v : Volume) → volume_in s ≡ Ok v → stepped_by v (length image) index ≡ located_of s image index
  unfolding located_of
  located_is v e =
      let p = volume_answered v e in
      let whole = (passed_fields (shape_of_record (reading_of s).header) (accepted_record s p.0)).whole in
      rw (← p.1, p.0) (in_stepped (reading_of s).header (length image) index whole ∙ accepted_stepped s p.0 (length image) index)

  pub unlocated : (r : Refusal) → volume_in s ≡ Err r → Err r ≡ located_of s image index
  unfolding located_of
  unlocated r e =
      let p = decided-refused (reading_of s).verdict (λ d. absurd cc) e in
      rw p.1 (ap Err (sym cc))

  -- and its bytes are in the file that holds the image
  pub part_is : (v : Volume) → volume_in s ≡ Ok v → (e : Extent) → stepped_by v (length image) index ≡ Ok e
      → (e.place + e.length ≤ length (holder v.kind s image)) × (voxel_of s image index ≡ take e.length (drop e.place (holder v.kind s image)))
  part_is v a e d =
      let at = sym (located_is v a) ∙ d in
      rw (← ap (λ (w : Volume). w.kind) (volume_answered v a).1) (voxel_in_file s image index e at, voxel_bytes_are s image index e at)

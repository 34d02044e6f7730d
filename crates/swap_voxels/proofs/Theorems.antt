-- Any voxel before and after a swap: asked with the same indexes, and for a pair with the image file that the swap leaves. One
-- statement for a single file and a pair, in either byte order, for every unit.
use Rattle.std.specs.Prelude.{Ok, Err, Some, Result}
use Prim.Native.Nat.{ℕ, ◌+◌, ◌*◌, ◌/◌, ◌≤◌}
use mathlib.Core.Path.{◌≡◌, refl, ap, sym, ◌∙◌}
use mathlib.Core.List.{List}
use native.Mathlib.Omega.{arith}
use native.Mathlib.Nat.{zero-div, mul_comm}
use lib.ListN.{length, take, drop}
use Rattle.refusal.specs.declared.Refusal.{Refusal}
use Rattle.refusal.specs.Table.{decided, no_refusal}
use Rattle.datatype.specs.declared.Format.{Format}
use Rattle.datatype.specs.Datatypes.{datatype_of}
use Rattle.grid.specs.Grid.{voxel_number}
use Rattle.header.specs.declared.Header.{Header}
use Rattle.rules.specs.declared.Shape.{Shape}
use Rattle.rules.specs.declared.Image.{Image}
use Rattle.rules.specs.Rules.{image_of, shape_of_record, holder}
use Rattle.layout.specs.File.{order_of, kind_of, shape_in, shape_of}
use Rattle.reader.specs.Reading.{reading_of, IsAccepted}
use Rattle.reader.proofs.File.{accepted_shape, accepted_image}
use Rattle.units.specs.Units.{turned}
use Rattle.voxel.specs.declared.Extent.{Extent}
use Rattle.voxel.specs.Voxel.{lengths_of, located_in}
use Rattle.rules.proofs.Sizes.{Formed, shape_formed}
use Rattle.voxel.proofs.Locating.{Found}
use Rattle.by_file.specs.Files.{located_of, voxel_of}
use Rattle.by_file.proofs.Voxels.{located_both, file_found, voxel_in_image, voxel_bytes_are, voxel_length, refused_empty}
use Rattle.turning.specs.Turn.{unit_in}
use Rattle.byteswap.specs.Swap.{swap_answer, swapped_file, swapped_image}
use Rattle.byteswap.specs.Other.{read_in_other}
use Rattle.byteswap.proofs.Whole.{unit_known}
use Rattle.byteswap.proofs.Theorems.{swap_lengths, swap_reads, swap_voxel}
use Rattle.swap_voxels.specs.Turned.{turned_voxel}

module _ (file image index : List ℕ) (a : swap_answer file image ≡ no_refusal) where
  abbrev file' : List ℕ
  file' = swapped_file file image

  abbrev image' : List ℕ
  image' = swapped_image file image

  abbrev unit : ℕ
  unit = unit_in (order_of file) file

  abbrev header : Header
  header = (reading_of file).header

  reads : reading_of file' ≡ read_in_other (reading_of file)
  reads = swap_reads file image a

  -- the byte order is the one field that changes, and no place depends on it
  same_answer : located_of file' image' index ≡ located_of file image index
  unfolding located_of
  same_answer = λ i. decided (reads i).verdict (located_in (reads i).header ((swap_lengths file image).1 i) index) Err

  -- an index that is refused
  refused_turned : (r : Refusal) → located_of file image index ≡ Err r
      → voxel_of file' image' index ≡ turned_voxel unit (voxel_of file image index)
  unfolding turned
  refused_turned r d = rw (refused_empty file' image' index r (same_answer ∙ d), refused_empty file image index r d, zero-div unit)

  -- an index that has a place
  module _ (e : Extent) (d : located_of file image index ≡ Ok e) where
    accepted : IsAccepted file
    accepted = (located_both file image index e d).0

    place_found : Found header (length image) index e
    place_found = file_found file image index e d

    formed : Formed (shape_of_record header)
    formed = shape_formed (shape_of_record header) place_found.rules

    abbrev format : Format
    format = formed.format

    -- how many voxels come before it
    abbrev before : ℕ
    before = voxel_number (lengths_of header) index

    same_image : image_of (shape_of_record header) ≡ image_of (shape_of file)
    same_image = ap image_of (accepted_shape file accepted)

    same_kind : header.kind ≡ kind_of file
    unfolding shape_in
    same_kind = ap (λ (s : Shape). s.kind) (accepted_shape file accepted)

    known : datatype_of (shape_of file).datatype ≡ Some format
    known = ap (λ (s : Shape). datatype_of s.datatype) (sym (accepted_shape file accepted)) ∙ formed.known

    same_unit : unit ≡ format.unit
    same_unit = unit_known file format known

    same_length : e.length ≡ format.bytes
    same_length = ap (λ (x : Extent). x.length) (sym place_found.is) ∙ formed.bytes

    same_place : e.place ≡ (image_of (shape_of file)).offset + before * format.bytes
    same_place =
        ap (λ (x : Extent). x.place) (sym place_found.is)
        ∙ (λ i. (same_image i).offset + formed.bytes i * before)
        ∙ ap (λ (n : ℕ). (image_of (shape_of file)).offset + n) (mul_comm format.bytes before)

    inside : before * format.bytes + format.bytes ≤ (image_of (shape_of file)).bytes
    inside =
        let offset = ap (λ (x : Image). x.offset) (accepted_image file accepted) in
        let bytes = ap (λ (x : Image). x.bytes) (accepted_image file accepted) in
        omega (arith, (voxel_in_image file image index e d).1, offset, bytes, same_place, same_length)

    -- the voxel in a file and its image file, as `swap_voxel` speaks of it
    abbrev part : List ℕ → List ℕ → List ℕ
    part f i = take format.bytes (drop ((image_of (shape_of file)).offset + before * format.bytes) (holder (kind_of file) f i))

    part_is : (f i : List ℕ) → take e.length (drop e.place (holder header.kind f i)) ≡ part f i
    part_is f i = λ j. take (same_length j) (drop (same_place j) (holder (same_kind j) f i))

    voxel_is : voxel_of file image index ≡ part file image
    voxel_is = voxel_bytes_are file image index e d ∙ part_is file image

    located_turned : voxel_of file' image' index ≡ turned_voxel unit (voxel_of file image index)
    located_turned =
        let bytes : length (voxel_of file image index) ≡ format.bytes = voxel_length file image index e d ∙ same_length in
        voxel_bytes_are file' image' index e (same_answer ∙ d)
        ∙ (λ i. take e.length (drop e.place (holder (reads i).header.kind file' image')))
        ∙ part_is file' image'
        ∙ swap_voxel file image a format known before inside
        ∙ sym (λ i. turned (same_unit i) (bytes i / same_unit i) (voxel_is i))

  voxel_turned : (l : Result Extent Refusal) → located_of file image index ≡ l
      → voxel_of file' image' index ≡ turned_voxel unit (voxel_of file image index)
  voxel_turned (Ok e) d = located_turned e d
  voxel_turned (Err r) d = refused_turned r d

-- a swap that is not refused, and any voxel before and after it
pub record VoxelTurned (file image index : List ℕ) : Type 0 where
  -- the same place and length, or the same refusal with the same place
  pub answer : located_of (swapped_file file image) (swapped_image file image) index ≡ located_of file image index
  -- each unit of the voxel turned round; where the index is refused there are no bytes, before and after
  pub bytes : voxel_of (swapped_file file image) (swapped_image file image) index
      ≡ turned_voxel (unit_in (order_of file) file) (voxel_of file image index)

pub swap_voxels : (file image index : List ℕ) → swap_answer file image ≡ no_refusal → VoxelTurned file image index
swap_voxels file image index a =
    record {
      answer = same_answer file image index a;
      bytes = voxel_turned file image index a (located_of file image index) refl;
    }

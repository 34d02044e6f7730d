-- P4: the struct that reading a file answers, asked for a voxel, gives what the call on the file gives, refusals included.
use Rattle.std.specs.Prelude.{Ok, Err}
use Prim.Native.Nat.{ℕ, ◌≤◌}
use mathlib.Core.Path.{◌≡◌, refl, ap, sym, ◌∙◌}
use mathlib.Core.Bool.{false, and-eq-true_iff}
use mathlib.Core.List.{List}
use native.Mathlib.Omega.{arith}
use borrow.Author.Tests.{leb-true, ne_eqb}
use lib.Dec.{leb, eqb}
use lib.ListN.{length}
use Rattle.refusal.specs.declared.Refusal.{Refusal}
use Rattle.refusal.specs.Table.{decided, Verdict, number_of}
use Rattle.grid.specs.Sizes.{sizes_by}
use Rattle.header.specs.declared.Header.{Header}
use Rattle.header.specs.declared.Kind.{Kind}
use Rattle.header.specs.declared.Kind.TheVariants.{Single, Pair}
use Rattle.rules.specs.declared.Shape.{Shape}
use Rattle.rules.specs.Rules.{axis_count, shape_of_record}
use Rattle.rules.proofs.Sizes.{shape_measured, measured_sizes}
use Rattle.reader.specs.Reading.{reading_of, IsAccepted}
use Rattle.reader.proofs.File.{accepted_record, accepted_sizes, record_image}
use Rattle.reader.proofs.Theorems.{reading_number}
use Rattle.voxel.specs.Voxel.{bytes_in, located_in}
use Rattle.voxel.specs.declared.Volume.{Volume}
use Rattle.voxel.specs.Steps.{stepped_by}
use Rattle.voxel.proofs.Sized.{volume_with, stepped_located}
use Rattle.by_file.specs.Files.{located_of}
use Rattle.answers.specs.Answers.{voxel_reply, is_pair, shown_file, refused_file, file_answer}
use Rattle.voxel_answers.specs.Answers.{kind_by, volume_in, voxel_in}

kind_back : (k : Kind) → kind_by (is_pair k) ≡ k
kind_back Single = refl
kind_back Pair = refl

-- an accepted file's struct has the kind, the dims, the offset and the sizes of its record
module _ (s : List ℕ) (a : IsAccepted s) where
  abbrev h : Header
  h = (reading_of s).header

  abbrev f : Shape
  f = shape_of_record h

  sizes_are : h.sizes ≡ sizes_by f.dim (axis_count f.dim) (bytes_in f)
  sizes_are = accepted_sizes s a ∙ sym (measured_sizes f (shape_measured f (accepted_record s a)))

  volume_is : volume_in (shown_file h (reading_of s).image) ≡ volume_with f (sizes_by f.dim (axis_count f.dim) (bytes_in f))
  unfolding sizes_by
  volume_is =
      let i = sym (record_image s a) in
      λ j.
      record {
        dim = h.dim;
        offset = (i j).offset;
        sizes = record { total = (i j).bytes; steps = (sizes_are j).steps };
        kind = kind_back h.kind j;
      }

  shown_voxel : (len : ℕ) (index : List ℕ) → stepped_by (volume_in (shown_file h (reading_of s).image)) len index ≡ located_in h len index
  shown_voxel len index =
      ap (λ (v : Volume). stepped_by v len index) volume_is ∙ stepped_located f (accepted_record s a) len index

-- and a refused one's has its number, which is not 0
refused_some : (s : List ℕ) (r : Refusal) → (reading_of s).verdict ≡ Err r → eqb (number_of r.rule) 0 ≡ false
refused_some s r e =
    let p = (and-eq-true_iff (leb 1 (number_of r.rule)) (leb (number_of r.rule) 15)).0 (reading_number s r e) in
    let n : 1 ≤ (number_of r.rule) = leb-true 1 (number_of r.rule) p.0 in
    ne_eqb (number_of r.rule) 0 (λ z. absurd (omega arith))

pub voxel_in_read : (file image index : List ℕ)
    → voxel_in (file_answer (reading_of file)) (length image) index ≡ voxel_reply (located_of file image index)
unfolding voxel_in file_answer located_of
voxel_in_read file image index = by (reading_of file).verdict refl
  where
    h : Header
    h = (reading_of file).header

    by : (v : Verdict) → (reading_of file).verdict ≡ v
        → voxel_in (decided v (shown_file h (reading_of file).image) refused_file) (length image) index
        ≡ voxel_reply (decided v (located_in h (length image) index) Err)
    by (Ok tt) a = ap voxel_reply (shown_voxel file a (length image) index)
    by (Err r) e = rw (refused_some file r e)

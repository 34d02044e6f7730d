-- P4: a record that reading gave, asked for a voxel by its sizes, answers what the call on the file answers, refusals included.
use Rattle.std.specs.Prelude.{Ok, Err}
use mathlib.Core.Path.{◌≡◌, refl, sym}
use mathlib.Core.List.{List}
use Prim.Native.Nat.{ℕ}
use lib.ListN.{length}
use Rattle.refusal.specs.Table.{decided, Verdict}
use Rattle.reader.specs.Reading.{reading_of, IsAccepted}
use Rattle.reader.proofs.File.{accepted_record, accepted_sizes}
use Rattle.voxel.specs.Voxel.{located_in}
use Rattle.voxel.specs.Steps.{stepped_in}
use Rattle.voxel.proofs.Sized.{in_located}
use Rattle.by_file.specs.Files.{located_of}

-- of an accepted file
pub accepted_stepped : (s : List ℕ) → IsAccepted s → (len : ℕ) (index : List ℕ)
    → stepped_in (reading_of s).header len index ≡ located_in (reading_of s).header len index
accepted_stepped s a len index = in_located (reading_of s).header (accepted_record s a) (accepted_sizes s a) len index

-- and of any: its refusal, or the record's answer
pub read_stepped : (file image index : List ℕ)
    → located_of file image index ≡ decided (reading_of file).verdict (stepped_in (reading_of file).header (length image) index) Err
unfolding located_of
read_stepped file image index = by (reading_of file).verdict refl
  where
    by : (v : Verdict) → (reading_of file).verdict ≡ v
        → decided v (located_in (reading_of file).header (length image) index) Err
        ≡ decided v (stepped_in (reading_of file).header (length image) index) Err
    by (Ok tt) a = sym (accepted_stepped file a (length image) index)
    by (Err r) a = refl

-- What is asked of a file's bytes: reading's refusal, 1..15 first, and of an accepted file what the crate voxel answers by its record
-- (01-scope.md, "Voxels and byte order").
use Rattle.refusal.specs.declared.Refusal.{Refusal}
use Rattle.voxel.specs.declared.Extent.{Extent}
use Rattle.std.specs.Prelude.{ℕ, List, [], length, take, drop, Ok, Err, Result}
use Rattle.refusal.specs.Table.{decided}
use Rattle.rules.specs.Rules.{holder}
use Rattle.reader.specs.Reading.{reading_of}
use Rattle.voxel.specs.Voxel.{located_in}
use Rattle.voxel.specs.declared.Volume.{Volume}
use Rattle.voxel.specs.Steps.{volume_of}

-- what the voxels of an accepted file are located by
abbrev pub volume_in : List ℕ → Result Volume Refusal
volume_in file = decided (reading_of file).verdict (Ok (volume_of (reading_of file).header)) Err

-- "One call answers the place and length, or the refusal"
unfoldable pub located_of : List ℕ → List ℕ → List ℕ → Result Extent Refusal
located_of file image index =
    let h = (reading_of file).header in
    decided (reading_of file).verdict (located_in h (length image) index) Err

abbrev pub part_of : Result Extent Refusal → List ℕ → List ℕ
part_of (Ok e) l = take e.length (drop e.place l)
part_of (Err r) l = []

-- "In another the voxel's bytes are handed back"
unfoldable pub voxel_of : List ℕ → List ℕ → List ℕ → List ℕ
voxel_of file image index = part_of (located_of file image index) (holder (reading_of file).header.kind file image)

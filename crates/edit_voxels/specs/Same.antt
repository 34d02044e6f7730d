-- Demand 3: "Both answers are the same refusal with the same place, or both give the same length and the same voxel bytes, those at the
-- voxel's place by the exact rules. .. in a single file it moves by exactly as much as the voxel offset." f and g are the files before
-- and after an edit.
use Rattle.std.specs.Prelude.{ℕ, ◌+◌, ◌≡◌, List, take, drop, Ok, Err}
use Rattle.refusal.specs.declared.Refusal.{Refusal}
use Rattle.rules.specs.Rules.{holder}
use Rattle.reader.specs.Reading.{reading_of}
use Rattle.voxel.specs.declared.Extent.{Extent}
use Rattle.by_file.specs.Files.{located_of, voxel_of}

-- the bytes of a file, or of its image file, at a place
abbrev pub bytes_of_extent : List ℕ → List ℕ → Extent → List ℕ
bytes_of_extent file image e = take e.length (drop e.place (holder (reading_of file).header.kind file image))

-- a voxel that is found in both, at d and at e
pub record FoundAgain (f g image index : List ℕ) (d e : Extent) : Type 0 where
  pub before : located_of f image index ≡ Ok d
  pub after : located_of g image index ≡ Ok e
  pub length_same : e.length ≡ d.length
  pub bytes_same : voxel_of g image index ≡ voxel_of f image index
  pub bytes_before : voxel_of f image index ≡ bytes_of_extent f image d
  pub bytes_after : voxel_of g image index ≡ bytes_of_extent g image e
  pub moved : e.place + (reading_of f).image.offset ≡ d.place + (reading_of g).image.offset

pub data SameVoxel (f g image index : List ℕ) : Type 0 where
  refused : (r : Refusal) → located_of f image index ≡ Err r → located_of g image index ≡ Err r → SameVoxel f g image index
  found : (d e : Extent) → FoundAgain f g image index d e → SameVoxel f g image index

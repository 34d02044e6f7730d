-- A turn that was made, and what the laws of turns speak of (02-change-requests.md, P10).
use Rattle.std.specs.Prelude.{◌≡◌, List, ℕ, ◌<◌, length, get_or, take, drop, Ok}
use Rattle.rules.specs.Rules.{holder}
use Rattle.reader.specs.Reading.{reading_of}
use Rattle.reorient.specs.declared.Turn.{Turn}
use Rattle.turn.specs.declared.Lengths.{Lengths}
use Rattle.turn.specs.Turned.{turn_answer, turned_out, turned_out_image}

-- "where no turn named is refused": the call on a file and an image file, with some two buffers, was not refused, and newFile and newImage
-- are as many bytes of the buffers afterwards as it answered
pub record Turns (file image : List ℕ) (t : Turn) (newFile newImage : List ℕ) : Type 0 where
  pub out : List ℕ
  pub out_image : List ℕ
  pub lengths : Lengths
  pub made : turn_answer file image t (length out) (length out_image) ≡ Ok lengths
  pub is_file : newFile ≡ take lengths.file (turned_out file image t out out_image)
  pub is_image : newImage ≡ take lengths.image (turned_out_image file image t out out_image)

-- what a buffer holds: bytes
abbrev pub IsBytes : List ℕ → Type 0
IsBytes s = (i : ℕ) → get_or s i 0 < 256

-- "image bytes": those of the file or of the image file, whichever holds them
unfoldable pub image_bytes_in : List ℕ → List ℕ → List ℕ
image_bytes_in file image =
    let r = reading_of file in
    take r.image.bytes (drop r.image.offset (holder r.header.kind file image))

-- "the same dims, pixdims and image bytes"
pub record SameVolume (file image file' image' : List ℕ) : Type 0 where
  pub dims : (reading_of file').header.dim ≡ (reading_of file).header.dim
  pub pixdims : (reading_of file').header.scale.pixdim ≡ (reading_of file).header.scale.pixdim
  pub bytes : image_bytes_in file' image' ≡ image_bytes_in file image

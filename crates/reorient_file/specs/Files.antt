-- The bytes of a turned file and of a pair's turned image file, from the old bytes and their record (02-change-requests.md, P10).
use Rattle.std.specs.Prelude.{ℕ, ◌+◌, ◌≤◌, ◌<◌, ◌≡◌, Bool, false, List, [], ◌++◌, ltb, length, drop}
use Rattle.buffer.specs.Put.{put}
use Rattle.grid.specs.Grid.{voxels}
use Rattle.grid.specs.Axes.{image_limit}
use Rattle.header.specs.declared.Header.{Header}
use Rattle.header.specs.declared.Kind.{Kind}
use Rattle.header.specs.declared.Kind.TheVariants.{Single, Pair}
use Rattle.encode.specs.Encode.{encode}
use Rattle.rules.specs.declared.Image.{Image}
use Rattle.rules.specs.Rules.{axis_count, image_of, shape_of_record, holder}
use Rattle.voxel.specs.Voxel.{lengths_of, voxel_bytes}
use Rattle.reorient.specs.declared.Turn.{Turn}
use Rattle.reorient.specs.Reorient.{reoriented}
use Rattle.reorient_header.specs.After.{header_after}

-- where the image is, by the record
abbrev pub image_in : Header → Image
image_in h = image_of (shape_of_record h)

-- the file that holds the image, with the image turned. "All else in the file and image file is copied": what is before the image, and what
-- is behind it
unfoldable pub holder_after : Turn → Header → List ℕ → List ℕ
holder_after t h s = put s (image_in h).offset (reoriented (voxel_bytes h) (lengths_of h) t (drop (image_in h).offset s))

-- a file with a header in place of its first 348 bytes
unfoldable pub with_header : Header → List ℕ → List ℕ
with_header h s = encode h ++ drop 348 s

-- "A pair's image file goes to a third buffer": a single file holds its image, a pair's header file does not
abbrev pub own_after : Kind → Turn → Header → List ℕ → List ℕ
own_after Single t h file = holder_after t h file
own_after Pair t h file = file

abbrev pub image_by : Kind → Turn → Header → List ℕ → List ℕ
image_by Single t h image = []
image_by Pair t h image = holder_after t h image

-- the new file, and the new image file; for a single file that is none
unfoldable pub file_after : Turn → Header → List ℕ → List ℕ
file_after t h file = with_header (header_after t h) (own_after h.kind t h file)

unfoldable pub image_after : Turn → Header → List ℕ → List ℕ
image_after t h image = image_by h.kind t h image

-- ---- What only the steps between cite

-- a record whose image can be turned: small, and not empty
pub record Sized (h : Header) : Type 0 where
  pub axes : axis_count h.dim ≤ 7
  pub small : voxel_bytes h ≤ 32
  pub some : 0 < voxels (lengths_of h)
  pub bytes : (image_in h).bytes ≤ image_limit

-- "22 for either buffer" is that the new files do not fit: for a single file the third buffer does not count
abbrev pub image_longer : Kind → ℕ → ℕ → Bool
image_longer Single image out = false
image_longer Pair image out = ltb out image

-- files that hold a header and the image, and buffers of these lengths that hold the new files
pub record Room (h : Header) (file image : List ℕ) (out out_image : ℕ) : Type 0 where
  pub long : 348 ≤ length file
  pub whole : (image_in h).offset + (image_in h).bytes ≤ length (holder h.kind file image)
  pub fits : length file ≤ out
  pub fits_image : image_longer h.kind (length image) out_image ≡ false

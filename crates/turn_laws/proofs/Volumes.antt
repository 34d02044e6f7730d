-- What a turn leaves of dims, pixdims and image bytes, over the call's own outputs; and so the laws of two turns and of a turn and its
-- inverse (02-change-requests.md, P10).
use Prim.Native.Nat.{ℕ, ◌*◌, ◌≤◌}
use mathlib.Core.Path.{◌≡◌, sym, ap, subst, ◌∙◌}
use mathlib.Core.Bool.{true}
use mathlib.Core.List.{List, ◌++◌}
use native.Mathlib.Omega.{arith}
use lib.ListN.{length, take, drop, length-drop}
use lib.Seq.{take_at}
use Rattle.grid.specs.Grid.{voxels}
use Rattle.grid.proofs.Bounds.{seven_length}
use Rattle.header.specs.declared.Header.{Header}
use Rattle.encode.proofs.Back.{Writable, facts_writable}
use Rattle.rules.specs.declared.Image.{Image}
use Rattle.rules.specs.Rules.{axis_count, completed, holder}
use Rattle.reader.specs.declared.Reading.{Reading}
use Rattle.reader.specs.Reading.{reading_of}
use Rattle.reader.proofs.File.{accepted_record, record_image}
use Rattle.voxel.specs.Voxel.{lengths_of, voxel_bytes}
use Rattle.reorient.specs.declared.Turn.{Turn}
use Rattle.reorient.specs.Reorient.{is_permutation, permuted, reoriented}
use Rattle.reorient.proofs.Seven.{length_seven}
use Rattle.reorient_header.specs.After.{entries_after, dims_after, pixdims_after, header_after}
use Rattle.reorient_header.proofs.Written.{after_writable}
use Rattle.reorient_file.specs.Files.{image_in}
use Rattle.reorient_file.proofs.Made.{image_voxels}
use Rattle.turn.proofs.Shown.{record_sized}
use Rattle.turn_laws.specs.Turns.{Turns, image_bytes_in}
use Rattle.turn_laws.proofs.Axes.{seven_after}
use Rattle.turn_laws.proofs.Made.{was_accepted, was_allowed, held, new_record, offset, held_in, turned_image, rest, image_dropped}

-- ---- one turn
module _ {file image : List ℕ} {t : Turn} {newFile newImage : List ℕ} (w : Turns file image t newFile newImage) where
  abbrev header : Header
  header = (reading_of file).header

  abbrev pub ns : List ℕ
  ns = lengths_of header

  abbrev pub ht : is_permutation t ≡ true
  ht = (was_allowed w).permutation

  few : axis_count header.dim ≤ 7
  few = (record_sized header (accepted_record file (was_accepted w))).axes

  pub seven : length ns ≡ 7
  seven = seven_length header.dim (axis_count header.dim) few

  pub room : voxel_bytes header * voxels ns ≤ length (drop (offset w) (held_in w))
  room = rw length-drop (omega (arith, held w, image_voxels header))

  pub lengths_after_lem : lengths_of (header_after t header) ≡ permuted 0 t ns
  unfolding header_after entries_after
  lengths_after_lem = seven_after t header.dim ht (axis_count header.dim) (was_allowed w).three few

  -- the new image bytes
  image_take : take (image_in header).bytes (drop (offset w) (holder header.kind newFile newImage)) ≡ turned_image w
  image_take =
      let size = length_seven ns seven t ht (voxel_bytes header) (drop (offset w) (held_in w)) room in
      ap (take (image_in header).bytes) (image_dropped w)
      ∙ take_at (turned_image w) (rest w) (image_in header).bytes (size ∙ sym (image_voxels header))

  pub image_after_lem : Writable header → image_bytes_in newFile newImage ≡ turned_image w
  unfolding image_bytes_in header_after
  image_after_lem wr =
      ap (λ (r : Reading). take r.image.bytes (drop r.image.offset (holder r.header.kind newFile newImage))) (new_record w wr)
      ∙ ap (λ (i : Image). take i.bytes (drop i.offset (holder header.kind newFile newImage)))
      (sym (record_image file (was_accepted w)))
      ∙ image_take

  pub image_before_lem : image_bytes_in file image ≡ take (voxel_bytes header * voxels ns) (drop (offset w) (held_in w))
  unfolding image_bytes_in
  image_before_lem =
      ap (λ (i : Image). take i.bytes (drop i.offset (held_in w))) (sym (record_image file (was_accepted w)))
      ∙ ap (λ (n : ℕ). take n (drop (offset w) (held_in w))) (image_voxels header)

-- ---- a turn, and then another
module _ {file image : List ℕ} {t u : Turn} {file' image' file'' image'' : List ℕ}
    (w : Turns file image t file' image') (v : Turns file' image' u file'' image'')
    (wr : Writable (reading_of file).header) where
  abbrev old : Header
  old = (reading_of file).header

  first : (reading_of file').header ≡ completed (header_after t old)
  first = ap (λ (r : Reading). r.header) (new_record w wr)

  writable : Writable (reading_of file').header
  writable = subst Writable (sym first) (facts_writable _ _ (after_writable t old wr))

  second : (reading_of file'').header ≡ completed (header_after u (completed (header_after t old)))
  second = ap (λ (r : Reading). r.header) (new_record v writable) ∙ ap (λ (h : Header). completed (header_after u h)) first

  pub dims_twice : (reading_of file'').header.dim ≡ dims_after u (dims_after t old.dim)
  unfolding header_after
  dims_twice = ap (λ (h : Header). h.dim) second

  pub pixdims_twice : (reading_of file'').header.scale.pixdim ≡ pixdims_after u (pixdims_after t old.scale.pixdim)
  unfolding header_after
  pixdims_twice = ap (λ (h : Header). h.scale.pixdim) second

  -- the second turn's image, by the first one's
  pub image_twice : image_bytes_in file'' image'' ≡ reoriented (voxel_bytes old) (permuted 0 t (lengths_of old)) u (turned_image w ++ rest w)
  unfolding header_after
  image_twice =
      image_after_lem v writable
      ∙ ap (λ (h : Header). reoriented (voxel_bytes h) (lengths_of h) u (drop (image_in h).offset (holder h.kind file' image'))) first
      ∙ (λ i. reoriented (voxel_bytes old) (lengths_after_lem w i) u (image_dropped w i))

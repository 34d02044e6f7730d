-- Any voxel of a turned file, asked by the voxel call: "Each voxel's bytes are those of the voxel it came from" (02-change-requests.md,
-- P10), and an index that is outside is refused in the new file as in the old.
use Rattle.refusal.specs.declared.Rule.TheVariants.{IndexOutside}
use Rattle.std.specs.Prelude.{Ok, Err, Result}
use Rattle.refusal.specs.declared.Refusal.{Refusal}
use Prim.Native.Nat.{ℕ, ◌+◌, ◌*◌}
use mathlib.Core.Path.{◌≡◌, refl, sym, ap, ◌∙◌}
use mathlib.Core.Bool.{Bool, true, false, cond}
use mathlib.Core.List.{List, ◌∷◌}
use lib.ListN.{length, take, drop}
use lib.Seq.{drop-drop}
use Rattle.refusal.specs.Table.{refusal, verdict}
use Rattle.grid.specs.Grid.{within, voxel_number}
use Rattle.header.specs.declared.Header.{Header}
use Rattle.header.specs.declared.Kind.{Kind}
use Rattle.header.specs.declared.Kind.TheVariants.{Single, Pair}
use Rattle.rules.specs.declared.Image.{Image}
use Rattle.rules.specs.Rules.{completed, image_cut, holder}
use Rattle.reader.specs.declared.Reading.{Reading}
use Rattle.reader.specs.Reading.{reading_of, IsAccepted}
use Rattle.reader.proofs.File.{record_image}
use Rattle.voxel.specs.declared.Extent.{Extent}
use Rattle.voxel.specs.Voxel.{lengths_of, voxel_bytes, extent_of}
use Rattle.by_file.specs.Files.{located_of, part_of, voxel_of}
use Rattle.by_file.proofs.Voxels.{accepted_located}
use Rattle.reorient.specs.declared.Turn.{Turn}
use Rattle.reorient.specs.Reorient.{permuted, unpermuted, reversals, came_from}
use Rattle.reorient.proofs.Indexes.{mirrored_in_within}
use Rattle.reorient.proofs.Seven.{within_seven, index_seven}
use Rattle.reorient_header.specs.After.{header_after}
use Rattle.reorient_file.specs.Files.{image_in}
use Rattle.turn.specs.Turned.{image_length}
use Rattle.turn_laws.specs.Turns.{Turns, IsBytes}
use Rattle.turn_laws.proofs.Made.{was_accepted, was_allowed, length_new_image, offset, held_in, rest, image_dropped}
use Rattle.turn_laws.proofs.Volumes.{ns, ht, seven, room, lengths_after_lem}
use Rattle.turn_laws.proofs.Theorems.{turned_reads}

-- of an accepted file whose image is whole, 17 alone is still to be given
located : (file image index : List ℕ) (b : Bool) → let h = (reading_of file).header in
    IsAccepted file → image_cut h.kind (length image) (image_in h) ≡ false
    → within (lengths_of h) index ≡ b → located_of file image index ≡ cond b (Ok (extent_of h index)) (Err (refusal IndexOutside 0))
unfolding verdict
located file image index true a c e = accepted_located file image index a ∙ rw (c, e)
located file image index false a c e = accepted_located file image index a ∙ rw (c, e)

-- what is handed back of a voxel that has a place
voxel_at : (file image index : List ℕ) (e : Extent) → located_of file image index ≡ Ok e
    → voxel_of file image index ≡ take e.length (drop e.place (holder (reading_of file).header.kind file image))
unfolding voxel_of
voxel_at file image index e h = ap (λ (l : Result Extent Refusal). part_of l (holder (reading_of file).header.kind file image)) h

cut_length : (kind : Kind) (n : ℕ) (i : Image) → image_cut kind (image_length kind n) i ≡ image_cut kind n i
cut_length Single n i = refl
cut_length Pair n i = refl

module _ {file image : List ℕ} {t : Turn} {newFile newImage : List ℕ} (all : IsBytes file) (w : Turns file image t newFile newImage) where
  abbrev header : Header
  header = (reading_of file).header

  new_header : (reading_of newFile).header ≡ completed (header_after t header)
  new_header = ap (λ (r : Reading). r.header) (turned_reads all w)

  new_accepted : IsAccepted newFile
  new_accepted = ap (λ (r : Reading). r.verdict) (turned_reads all w)

  new_image : image_in (reading_of newFile).header ≡ image_in header
  new_image =
      record_image newFile new_accepted ∙ ap (λ (r : Reading). r.image) (turned_reads all w) ∙ sym (record_image file (was_accepted w))

  new_whole : image_cut (reading_of newFile).header.kind (length newImage) (image_in (reading_of newFile).header) ≡ false
  unfolding header_after
  new_whole =
      (λ i. image_cut (new_header i).kind (length_new_image w i) (new_image i))
      ∙ cut_length header.kind (length image) (image_in header)
      ∙ (was_allowed w).whole

  new_lengths : lengths_of (reading_of newFile).header ≡ permuted 0 t (lengths_of header)
  new_lengths = ap lengths_of new_header ∙ lengths_after_lem w

  module _ (i j k : ℕ) (is : List ℕ) where
    abbrev index : List ℕ
    index = i ∷ (j ∷ (k ∷ is))

    -- an index that is outside: 17, and so it is in the old file when it is taken back
    pub turned_outside : within (permuted 0 t (lengths_of header)) index ≡ false
        → (located_of newFile newImage index ≡ Err (refusal IndexOutside 0))
        × (located_of file image (unpermuted 0 t index) ≡ Err (refusal IndexOutside 0))
    turned_outside e = (
      located newFile newImage index false new_accepted new_whole (ap (λ (l : List ℕ). within l index) new_lengths ∙ e),
      located file image (unpermuted 0 t index) false (was_accepted w) (was_allowed w).whole
          (sym (within_seven (ns w) (seven w) t (ht w) i j k is) ∙ e),
    )

    module _ (e : within (permuted 0 t (lengths_of header)) index ≡ true) where
      abbrev from : List ℕ
      from = came_from t (lengths_of header) index

      from_within : within (lengths_of header) from ≡ true
      unfolding came_from
      from_within =
          mirrored_in_within (reversals t) (lengths_of header) (unpermuted 0 t index)
          (sym (within_seven (ns w) (seven w) t (ht w) i j k is) ∙ e)

      -- an index that is inside: both have a place,
      pub turned_located : (located_of newFile newImage index ≡ Ok (extent_of (header_after t header) index))
          × (located_of file image from ≡ Ok (extent_of header from))
      turned_located = (
        located newFile newImage index true new_accepted new_whole (ap (λ (l : List ℕ). within l index) new_lengths ∙ e)
            ∙ ap (λ (h : Header). Ok (extent_of h index)) new_header,
        located file image from true (was_accepted w) (was_allowed w).whole from_within,
      )

      -- and the same bytes there
      pub turned_voxel_lem : voxel_of newFile newImage index ≡ voxel_of file image from
      unfolding header_after
      turned_voxel_lem =
          let b = voxel_bytes header in
          let n = voxel_number (permuted 0 t (ns w)) index in
          let m = voxel_number (ns w) from in
          let after : List ℕ = lengths_of (header_after t header) in
          voxel_at newFile newImage index _ turned_located.0
          ∙ ap (λ (h : Header). take b (drop (offset w + b * voxel_number after index) (holder h.kind newFile newImage))) new_header
          ∙ ap (λ (l : List ℕ). take b (drop (offset w + b * voxel_number l index) (holder header.kind newFile newImage)))
          (lengths_after_lem w)
          ∙ ap (take b) (sym (drop-drop (b * n) (offset w) (holder header.kind newFile newImage)))
          ∙ ap (λ (l : List ℕ). take b (drop (b * n) l)) (image_dropped w)
          ∙ index_seven (ns w) (seven w) t (ht w) b (drop (offset w) (held_in w)) (room w) (rest w) index e
          ∙ ap (take b) (drop-drop (b * m) (offset w) (held_in w))
          ∙ sym (voxel_at file image from _ turned_located.1)

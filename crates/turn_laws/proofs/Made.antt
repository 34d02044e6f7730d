-- A turn that was made: the file was accepted, none of the call's own refusals held, and the two new files are those that the promise
-- cites.
use Rattle.std.specs.Prelude.{Ok, Err, Result}
use Prim.Native.Nat.{ℕ, ◌+◌, ◌≤◌}
use mathlib.Core.Path.{◌≡◌, refl, sym, ap, subst, ◌∙◌}
use mathlib.Core.List.{List, ◌++◌}
use native.Mathlib.Omega.{arith}
use lib.ListN.{length, take, drop}
use Rattle.refusal.specs.declared.Refusal.{Refusal}
use Rattle.refusal.specs.Table.{verdict, no_refusal}
use Rattle.refusal.proofs.Rows.{refused_never, decided_accepted}
use Rattle.buffer.specs.Put.{put}
use Rattle.buffer.proofs.Laws.{take-drop-put, drop-put_at}
use Rattle.header.specs.declared.Header.{Header}
use Rattle.header.specs.declared.Kind.{Kind}
use Rattle.header.specs.declared.Kind.TheVariants.{Single, Pair}
use Rattle.encode.proofs.Back.{Writable}
use Rattle.rules.specs.declared.Shape.{Shape}
use Rattle.rules.specs.Rules.{axis_count, image_of, completed, holder}
use Rattle.rules.proofs.Passed.{image_held}
use Rattle.layout.specs.File.{kind_of, shape_in}
use Rattle.reader.specs.declared.Reading.{Reading}
use Rattle.reader.specs.Reading.{reading_of, IsAccepted}
use Rattle.reader.proofs.File.{accepted_file, accepted_list, accepted_reads, accepted_record, accepted_shape, record_whole}
use Rattle.voxel.specs.Voxel.{lengths_of, voxel_bytes}
use Rattle.reorient.specs.declared.Turn.{Turn}
use Rattle.reorient.specs.Reorient.{reoriented}
use Rattle.reorient_header.specs.After.{header_after}
use Rattle.reorient_file.specs.Files.{image_in, holder_after, with_header, own_after, image_by, file_after, image_after}
use Rattle.reorient_file.proofs.Made.{length-holder, behind_header}
use Rattle.turn.specs.declared.Lengths.{Lengths}
use Rattle.turn.specs.Turned.{turn_rows, image_length, turn_verdict, lengths_after, turn_answer, turned_out, turned_out_image}
use Rattle.turn.proofs.Shown.{Allowed, allowed, record_sized}
use Rattle.turn_laws.specs.Turns.{Turns}
use Rattle.turn_laws.proofs.Reading.{new_length, new_reads}

made_never : {r : Refusal} {n : Lengths} → ◌≡◌ {A = Result Lengths Refusal} (Err r) (Ok n) → ⊥
made_never e = let z : ◌≡◌ {A = ℕ} 0 1 = cc in omega arith

made_same : (m n : Lengths) → ◌≡◌ {A = Result Lengths Refusal} (Ok m) (Ok n) → m ≡ n
made_same m n e = cc

module _ {file image : List ℕ} {t : Turn} {newFile newImage : List ℕ} (w : Turns file image t newFile newImage) where
  abbrev header : Header
  header = (reading_of file).header

  answered : (turn_verdict file image t (length w.out) (length w.out_image) ≡ no_refusal)
      × ◌≡◌ {A = Result Lengths Refusal} (Ok (lengths_after header.kind (length file) (length image))) (Ok w.lengths)
  unfolding turn_answer
  answered = decided_accepted (turn_verdict file image t (length w.out) (length w.out_image)) (λ r. made_never) w.made

  both : IsAccepted file × (verdict (turn_rows header t (length file) (length image) (length w.out) (length w.out_image)) ≡ no_refusal)
  unfolding turn_verdict
  both = decided_accepted (reading_of file).verdict (λ r. refused_never) answered.0

  pub was_accepted : IsAccepted file
  was_accepted = both.0

  pub was_allowed : Allowed header t (length file) (length image) (length w.out) (length w.out_image)
  was_allowed = allowed header t (length file) (length image) (length w.out) (length w.out_image) both.1

  lengths_are : w.lengths ≡ lengths_after header.kind (length file) (length image)
  lengths_are = sym (made_same (lengths_after header.kind (length file) (length image)) w.lengths answered.1)

  -- the image, in the file that holds it
  pub held : (image_in header).offset + (image_in header).bytes ≤ length (holder header.kind file image)
  held = image_held header.kind (image_in header) file image (record_whole file was_accepted) was_allowed.whole

  -- the new files, which are as long as the old ones
  take_front : (l e : List ℕ) (n : ℕ) → n ≡ length e → take n (put l 0 e) ≡ e
  take_front l e n h = ap (λ (k : ℕ). take k (put l 0 e)) h ∙ take-drop-put l 0 e (omega arith)

  pub length_file : length (file_after t header file) ≡ length file
  length_file =
      let a = accepted_reads file was_accepted in
      ap (λ (r : Reading). length (file_after t r.header file)) a
      ∙ new_length file (accepted_list file was_accepted) (accepted_file file was_accepted).file t was_allowed.permutation

  pub file_is : newFile ≡ file_after t header file
  unfolding turned_out
  file_is =
      let n : w.lengths.file ≡ length (file_after t header file) = ap (λ (l : Lengths). l.file) lengths_are ∙ sym length_file in
      w.is_file ∙ rw answered.0 (take_front w.out (file_after t header file) w.lengths.file n)

  length_image : (kind : Kind) → header.kind ≡ kind → image_length kind (length image) ≡ length (image_by kind t header image)
  length_image Single e = refl
  length_image Pair e =
      sym (length-holder t header image was_allowed.permutation (record_sized header (accepted_record file was_accepted)) (rw e at held))

  pub image_is : newImage ≡ image_after t header image
  unfolding turned_out_image image_after
  image_is =
      w.is_image
      ∙ rw answered.0 (take_front w.out_image (image_after t header image) w.lengths.image
      (ap (λ (n : Lengths). n.image) lengths_are ∙ length_image header.kind refl))

  pub length_new_image : length newImage ≡ image_length header.kind (length image)
  unfolding image_after
  length_new_image = ap length image_is ∙ sym (length_image header.kind refl)

  -- "the turned file is accepted": its record is the old one after the turn
  pub new_record : Writable header
      → reading_of newFile ≡ record { verdict = no_refusal; header = completed (header_after t header); image = (reading_of file).image }
  new_record wr =
      let a = accepted_reads file was_accepted in
      let xs = accepted_list file was_accepted in
      let f = (accepted_file file was_accepted).file in
      let old = subst (λ (r : Reading). Writable r.header) a wr in
      let three = subst (λ (r : Reading). 3 ≤ axis_count r.header.dim) a was_allowed.three in
      ap reading_of file_is
      ∙ ap (λ (r : Reading). reading_of (file_after t r.header file)) a
      ∙ new_reads file xs f t was_allowed.permutation old three
      ∙ sym (ap (λ (r : Reading). record { verdict = no_refusal; header = completed (header_after t r.header); image = r.image }) a)

  -- ---- the image

  abbrev pub offset : ℕ
  offset = (image_in header).offset

  abbrev pub held_in : List ℕ
  held_in = holder header.kind file image

  abbrev pub turned_image : List ℕ
  turned_image = reoriented (voxel_bytes header) (lengths_of header) t (drop offset held_in)

  begins : header.kind ≡ Single → 348 ≤ offset
  unfolding shape_in
  begins e =
      let s = accepted_shape file was_accepted in
      let k : kind_of file ≡ Single = sym (ap (λ (f : Shape). f.kind) s) ∙ e in
      omega (arith, (accepted_file file was_accepted).file.begins k, ap (λ (f : Shape). (image_of f).offset) s)

  -- it stands where the old one stood, and what followed that follows it
  dropped_by : (kind : Kind) → header.kind ≡ kind
      → drop offset (holder kind (with_header (header_after t header) (own_after kind t header file)) (image_by kind t header image))
      ≡ reoriented (voxel_bytes header) (lengths_of header) t (drop offset (holder kind file image))
      ++ drop (offset + length (reoriented (voxel_bytes header) (lengths_of header) t (drop offset (holder kind file image))))
      (holder kind file image)
  unfolding holder_after
  dropped_by Single e =
      let room : offset ≤ length file = omega (arith, rw e at held) in
      behind_header (header_after t header) (holder_after t header file) offset (begins e)
      ∙ drop-put_at file offset (reoriented (voxel_bytes header) (lengths_of header) t (drop offset file)) room
  dropped_by Pair e =
      let room : offset ≤ length image = omega (arith, rw e at held) in
      drop-put_at image offset (reoriented (voxel_bytes header) (lengths_of header) t (drop offset image)) room

  abbrev pub rest : List ℕ
  rest = drop (offset + length turned_image) held_in

  pub image_dropped : drop offset (holder header.kind newFile newImage) ≡ turned_image ++ rest
  unfolding file_after image_after
  image_dropped = (λ i. drop offset (holder header.kind (file_is i) (image_is i))) ∙ dropped_by header.kind refl

-- A file whose outline is shown: its record without the extensions and sizes does as well as the whole one, and its image can be turned.
use Rattle.std.specs.Prelude.{Ok, Err, Result}
use Rattle.turn.specs.declared.Lengths.{Lengths}
use Prim.Native.Nat.{ℕ, ◌+◌, ◌≤◌}
use mathlib.Core.Path.{◌≡◌, refl, sym, ap, ◌∙◌}
use mathlib.Core.Bool.{true, false}
use mathlib.Core.List.{List, []}
use borrow.Author.Tests.{ltb-false, not-false}
use lib.Dec.{ltb}
use lib.ListN.{length}
use Rattle.refusal.specs.declared.Refusal.{Refusal}
use Rattle.refusal.specs.Table.{verdict, Verdict, no_refusal}
use Rattle.refusal.proofs.Rows.{Clear, none, one, accepted_clear}
use Rattle.buffer.specs.Put.{put}
use Rattle.datatype.proofs.Sound.{known_sound}
use Rattle.extension.specs.declared.Span.{Span}
use Rattle.extension.specs.Listing.{spans_of}
use Rattle.grid.specs.Sizes.{no_sizes}
use Rattle.grid.proofs.Axes.{voxels_positive, voxels_seven}
use Rattle.header.specs.declared.Header.{Header}
use Rattle.header.specs.declared.Kind.{Kind}
use Rattle.header.specs.declared.Kind.TheVariants.{Single, Pair}
use Rattle.header.specs.Fields.{header_of, with_spans, with_facts}
use Rattle.encode.specs.Encode.{encode}
use Rattle.rules.specs.Rules.{axis_count, image_of, shape_of_record, record_rows, image_cut, holder}
use Rattle.rules.proofs.Passed.{neither, clear_fields, image_held}
use Rattle.layout.specs.declared.Layout.{Layout}
use Rattle.reader.specs.Reading.{reading_of}
use Rattle.reader.proofs.File.{accepted_shape, accepted_record, record_whole}
use Rattle.outline.specs.declared.Outline.{Outline}
use Rattle.outline.specs.Outline.{outline_of}
use Rattle.outline.proofs.Outlines.{hidden_reading, shows, shown_accepted, shown_header, shown_long}
use Rattle.rules.proofs.Sizes.{shape_formed, shape_measured}
use Rattle.reorient.specs.declared.Turn.{Turn}
use Rattle.reorient.specs.Reorient.{is_permutation}
use Rattle.reorient_header.specs.After.{not_finite, header_after, sform_after}
use Rattle.reorient_file.specs.Files.{image_in, image_longer, holder_after, with_header, own_after, image_by, file_after, image_after, Sized, Room}
use Rattle.turn.specs.Turned.{turn_rows, turn_verdict, image_length, turn_answer, turned_out, turned_out_image}

-- ---- what a turn that none of the rows refuses is like
pub record Allowed (h : Header) (t : Turn) (file image out out_image : ℕ) : Type 0 where
  pub whole : image_cut h.kind image (image_in h) ≡ false
  pub three : 3 ≤ axis_count h.dim
  pub permutation : is_permutation t ≡ true
  pub finite : not_finite t h ≡ false
  pub fits : file ≤ out
  pub fits_image : image_longer h.kind image out_image ≡ false

clear_allowed : (h : Header) (t : Turn) (file image out out_image : ℕ) → Clear (turn_rows h t file image out out_image)
    → Allowed h t file image out out_image
clear_allowed h t file image out out_image (one r16 (one r29 (one r30 (one r23 (one r22 none))))) =
    let b = neither (ltb out file) (image_longer h.kind image out_image) r22 in
    record {
      whole = r16;
      three = ltb-false (axis_count h.dim) 3 r29;
      permutation = not-false (is_permutation t) r30;
      finite = r23;
      fits = ltb-false out file b.0;
      fits_image = b.1;
    }

pub allowed : (h : Header) (t : Turn) (file image out out_image : ℕ) → verdict (turn_rows h t file image out out_image) ≡ no_refusal
    → Allowed h t file image out out_image
allowed h t file image out out_image e = clear_allowed h t file image out out_image (accepted_clear (turn_rows h t file image out out_image) e)

-- ---- the image of a record that rules 2 and 5 to 10 pass
pub record_sized : (h : Header) → Clear (record_rows h) → Sized h
record_sized h (one two fields) =
    let f = shape_of_record h in
    let n = axis_count h.dim in
    let t = clear_fields f 0 fields in
    let m = shape_formed f (one two fields) in
    record {
      axes = (shape_measured f (one two fields)).small.axes;
      small = rw m.bytes (known_sound f.datatype m.format m.known).most;
      some = rw (voxels_seven h.dim n) (voxels_positive h.dim n t.axes);
      bytes = t.small;
    }

-- ---- the extensions and the sizes play no part
module _ (t : Turn) (h : Header) (count : ℕ) (spans : List Span) where
  abbrev bare : Header
  bare = with_facts no_sizes false (with_spans count spans h)

  same_rows : (file image out out_image : ℕ) → turn_rows bare t file image out out_image ≡ turn_rows h t file image out out_image
  unfolding not_finite
  same_rows file image out out_image = refl

  same_own : (kind : Kind) (file : List ℕ) → own_after kind t bare file ≡ own_after kind t h file
  unfolding holder_after
  same_own Single file = refl
  same_own Pair file = refl

  same_file : (file : List ℕ) → file_after t bare file ≡ file_after t h file
  unfolding file_after with_header encode header_after sform_after
  same_file file = ap (with_header (header_after t h)) (same_own h.kind file)

  same_by : (kind : Kind) (image : List ℕ) → image_by kind t bare image ≡ image_by kind t h image
  unfolding holder_after
  same_by Single image = refl
  same_by Pair image = refl

  same_image : (image : List ℕ) → image_after t bare image ≡ image_after t h image
  unfolding image_after
  same_image image = same_by h.kind image

-- ---- the record of a file whose outline is shown
module _ (s : List ℕ) (o : Outline) (e : outline_of 0 s ≡ Ok o) where
  abbrev read : Header
  read = (reading_of s).header

  -- the record with no extensions and no sizes
  abbrev pub parsed : Header
  parsed = header_of o.layout.order o.layout.kind 0 (spans_of []) s

  parsed_is : parsed ≡ with_facts no_sizes false (with_spans 0 (spans_of []) read)
  unfolding header_of
  parsed_is = ap (λ (h : Header). with_facts no_sizes false (with_spans 0 (spans_of []) h)) (shown_header s 0 o e)

  pub parsed_kind : o.layout.kind ≡ read.kind
  unfolding header_of
  parsed_kind = ap (λ (h : Header). h.kind) parsed_is

  pub parsed_image : o.layout.image ≡ image_in parsed
  parsed_image =
      let w = shows s 0 o e in
      ap (λ (l : Layout). l.image) (sym w.layout)
      ∙ ap image_of (sym (accepted_shape s (shown_accepted s 0 o e)))
      ∙ ap image_in (sym parsed_is)

  pub parsed_sized : Sized parsed
  parsed_sized = rw parsed_is (record_sized (with_facts no_sizes false (with_spans 0 (spans_of []) read)) (accepted_record s (shown_accepted s 0 o e)))

  pub parsed_room : (t : Turn) (image : List ℕ) (out out_image : ℕ) → Allowed parsed t (length s) (length image) out out_image
      → Room parsed s image out out_image
  parsed_room t image out out_image a =
      let held : (image_in read).offset + (image_in read).bytes ≤ length (holder read.kind s image) =
      image_held read.kind (image_in read) s image (record_whole s (shown_accepted s 0 o e)) (rw parsed_is at a.whole) in
      record { long = shown_long s 0 o e; whole = rw parsed_is held; fits = a.fits; fits_image = a.fits_image }

  -- what the call answers and leaves, by the verdict on that record
  module _ (t : Turn) (image out out_image : List ℕ) where
    abbrev judged : Verdict
    judged = verdict (turn_rows parsed t (length s) (length image) (length out) (length out_image))

    verdict_is : turn_verdict s image t (length out) (length out_image) ≡ judged
    unfolding turn_verdict
    verdict_is =
        rw (shown_accepted s 0 o e)
        (ap verdict (sym (ap (λ (h : Header). turn_rows h t (length s) (length image) (length out) (length out_image)) parsed_is
        ∙ same_rows t read 0 (spans_of []) (length s) (length image) (length out) (length out_image))))

    -- an answer and two contents, as the call promises them
    abbrev pub Turns : Result Lengths Refusal → List ℕ → List ℕ → Type 0
    Turns answer left leftImage =
        (answer ≡ turn_answer s image t (length out) (length out_image))
        × (left ≡ turned_out s image t out out_image)
        × (leftImage ≡ turned_out_image s image t out out_image)

    pub turns_refused : (r : Refusal) → judged ≡ Err r → Turns (Err r) out out_image
    unfolding turn_answer turned_out turned_out_image
    turns_refused r j = let v = verdict_is ∙ j in (rw v, rw v, rw v)

    pub turns_made : (n : ℕ) → n ≡ image_length o.layout.kind (length image) → (left leftImage : List ℕ)
        → judged ≡ no_refusal → left ≡ put out 0 (file_after t parsed s)
        → leftImage ≡ put out_image 0 (image_after t parsed image)
        → Turns (Ok (record { file = length s; image = n })) left leftImage
    unfolding turn_answer turned_out turned_out_image
    turns_made n en left leftImage j el em =
        let v = verdict_is ∙ j in (
          rw (v, en, parsed_kind),
          rw v (el ∙ ap (λ (x : List ℕ). put out 0 x) (ap (λ (h : Header). file_after t h s) parsed_is ∙ same_file t read 0 (spans_of []) s)),
          rw v (em ∙ ap (λ (x : List ℕ). put out_image 0 x)
              (ap (λ (h : Header). image_after t h image) parsed_is ∙ same_image t read 0 (spans_of []) image)),
        )

-- a file that reading refuses
pub turns_hidden : (s image : List ℕ) (t : Turn) (out out_image : List ℕ) (r : Refusal) → outline_of 0 s ≡ Err r
    → (Err r ≡ turn_answer s image t (length out) (length out_image))
    × (out ≡ turned_out s image t out out_image)
    × (out_image ≡ turned_out_image s image t out out_image)
unfolding turn_verdict turn_answer turned_out turned_out_image
turns_hidden s image t out out_image r e = let h = hidden_reading s 0 r e in (rw h, rw h, rw h)

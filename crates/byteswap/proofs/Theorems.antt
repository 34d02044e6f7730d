-- What swapping does to a file and its image file, over the reader's definitions (01-scope.md, "Voxels and byte order" and the demands
-- on what is proved): what it refuses, and by which numbers; a single file needs no image buffer; swapping again restores each byte; a
-- swapped file is accepted and reads as the same record in the other order; and each voxel has its units turned round. And that the two
-- calls which swap agree (02-change-requests.md, P3).
use Rattle.refusal.specs.declared.Rule.TheVariants.{ImageCut}
use Rattle.std.specs.Prelude.{Err, Some}
use Prim.Native.Nat.{ℕ, ◌+◌, ◌*◌, ◌/◌, ◌≤◌}
use mathlib.Core.Path.{◌≡◌, refl, sym, ap, ◌∙◌}
use mathlib.Core.Bool.{Bool, true, false}
use mathlib.Core.List.{List, [], ◌∷◌}
use native.Mathlib.Omega.{arith}
use native.Mathlib.Nat.{div-add-mod'}
use lib.ListN.{length}
use Rattle.refusal.specs.declared.Refusal.{Refusal}
use Rattle.refusal.specs.Table.{Row, row, verdict, then, Verdict, number_of, no_refusal}
use Rattle.refusal.proofs.Rows.{none, one, refused_never, clear_accepted, between, between_wider, verdict_number}
use Rattle.datatype.specs.declared.Format.{Format}
use Rattle.datatype.specs.Datatypes.{datatype_of}
use Rattle.datatype.proofs.Sound.{known_sound}
use Rattle.extension.specs.declared.Span.{Span}
use Rattle.extension.specs.Walk.{Walked, listed, stopped}
use Rattle.header.specs.declared.Kind.TheVariants.{Single}
use Rattle.header.specs.Fields.{header_of}
use Rattle.rules.specs.declared.Shape.{Shape}
use Rattle.rules.specs.Rules.{image_of, image_cut, holder}
use Rattle.layout.specs.File.{kind_of, shape_in, shape_of, extender_of, layout_of, end_of}
use Rattle.reader.specs.declared.Reading.{Reading}
use Rattle.reader.specs.Reading.{judgement, reading_by, reading_of, IsAccepted}
use Rattle.reader.proofs.File.{accepted_shape}
use Rattle.reader.proofs.Theorems.{answered_number}
use Rattle.units.specs.Units.{turned}
use Rattle.byteswap.specs.Swap.{unless_cut, file_runs, swap_list, answer_by, turned_file, turned_image, swap_answer, swapped_file, swapped_image, Swaps}
use Rattle.byteswap.specs.Other.{read_in_other}
use Rattle.byteswap.proofs.Whole.{place_of, unit_for, room, unit_known, image_single}
use Rattle.byteswap.proofs.Answers.{swaps_stopped, image_turned}
use Rattle.byteswap.proofs.Swapped.{reading_swapped, length-is, extender_is}
use Rattle.byteswap.proofs.Again.{accepts, file_is, image_length_lem, image_room, listed_again, file_back, image_back, part_at, voxel_turned}

-- ---- The answer

-- rule 16
abbrev image_row : List ℕ → List ℕ → List Row
image_row file image = row ImageCut (image_cut (kind_of file) (length image) (place_of file)) 0 ∷ []

answer_by_lem : (s : List ℕ) (c : Bool) (w : Walked) → answer_by (unless_cut c w) ≡ then (reading_by s w).verdict (verdict (row ImageCut c 0 ∷ []))
unfolding verdict
answer_by_lem s true (listed xs) = refl
answer_by_lem s false (listed xs) = refl
answer_by_lem s c (stopped r) = refl

-- the swap refuses what the reader refuses, and then rule 16
pub swap_answer_lem : (file image : List ℕ)
    → swap_answer file image
    ≡ then (reading_of file).verdict (verdict (row ImageCut (image_cut (kind_of file) (length image) (image_of (shape_of file))) 0 ∷ []))
unfolding swap_answer swap_list reading_of
swap_answer_lem file image = answer_by_lem file (image_cut (kind_of file) (length image) (place_of file)) (judgement file)

-- by 1 to 16, and of a single file by 1 to 15
module _ (file image : List ℕ) (r : Refusal) (e : swap_answer file image ≡ Err r) where
  by_number : (p : ℕ → Bool) → ((n : ℕ) → between 1 15 n ≡ true → p n ≡ true)
      → (IsAccepted file → verdict (image_row file image) ≡ Err r → p (number_of r.rule) ≡ true) → p (number_of r.rule) ≡ true
  by_number p wider own = answered_number p file r wider (λ q d. cc) own (sym (swap_answer_lem file image) ∙ e)

  pub swap_number : between 1 16 (number_of r.rule) ≡ true
  swap_number = by_number (between 1 16) (λ n. between_wider 1 15 1 16 n refl) (λ a. verdict_number (between 1 16) (image_row file image) r refl)

  pub swap_single_number : (reading_of file).header.kind ≡ Single → between 1 15 (number_of r.rule) ≡ true
  unfolding shape_in
  swap_single_number single =
      by_number (between 1 15) (λ n h. h)
      (λ a d.
      let k : kind_of file ≡ Single = sym (ap (λ (s : Shape). s.kind) (accepted_shape file a)) ∙ single in
      let uncut : image_cut (kind_of file) (length image) (place_of file) ≡ false = rw k in
      refused_never (sym d ∙ clear_accepted (one uncut none)))

-- ---- A single file

module _ (file : List ℕ) (single : (reading_of file).header.kind ≡ Single) where
  uncut_by : (len : ℕ) (w : Walked) → (reading_by file w).header.kind ≡ Single
      → unless_cut (image_cut (kind_of file) len (place_of file)) w ≡ w
  unfolding header_of
  uncut_by len (listed xs) k = rw k
  uncut_by len (stopped r) k = refl

  single_list : (image : List ℕ) → swap_list file image ≡ judgement file
  unfolding swap_list reading_of
  single_list image = uncut_by (length image) (judgement file) single

  image_by_lem : (image : List ℕ) (w : Walked) → (reading_by file w).header.kind ≡ Single → turned_image w (layout_of file) file image ≡ image
  unfolding header_of
  image_by_lem image (listed xs) k = sym (image_single (kind_of file) (place_of file) (unit_for file) image k)
  image_by_lem image (stopped r) k = refl

  -- "For a single file the image buffer is neither read nor changed"
  pub swap_single : (image image' : List ℕ)
      → (swap_answer file image ≡ swap_answer file image') × (swapped_file file image ≡ swapped_file file image') × (swapped_image file image ≡ image)
  unfolding swap_answer swapped_file swapped_image reading_of
  swap_single image image' =
      let same = single_list image ∙ sym (single_list image') in (
        ap answer_by same,
        ap (λ (w : Walked). turned_file w (layout_of file) file) same,
        ap (λ (w : Walked). turned_image w (layout_of file) file image) (single_list image) ∙ image_by_lem image (judgement file) single,
      )

-- ---- Swapping again

abbrev Back : List ℕ → List ℕ → List ℕ → List ℕ → Type 0
Back file image file' image' = (swapped_file file' image' ≡ file) × (swapped_image file' image' ≡ image)

pub swap_twice : (file image : List ℕ)
    → (swapped_file (swapped_file file image) (swapped_image file image) ≡ file)
    × (swapped_image (swapped_file file image) (swapped_image file image) ≡ image)
swap_twice file image = by (swap_list file image) refl
  where
    by : (w : Walked) → swap_list file image ≡ w → Back file image (swapped_file file image) (swapped_image file image)
    by (listed xs) e =
        rw (file_is file image xs e, image_turned file image xs e) (file_back file image xs e, image_back file image xs e)
    by (stopped r) e =
        let q = swaps_stopped file image r e in
        let f = sym q.1 in
        let g = sym q.2 in
        ((λ i. swapped_file (f i) (g i)) ∙ f, (λ i. swapped_image (f i) (g i)) ∙ g)

-- the answer is the same; so a pair's image file is long enough as before
pub swap_answers_again : (file image : List ℕ) → swap_answer (swapped_file file image) (swapped_image file image) ≡ swap_answer file image
unfolding swap_answer
swap_answers_again file image = ap answer_by (by (swap_list file image) refl)
  where
    by : (w : Walked) → swap_list file image ≡ w → swap_list (swapped_file file image) (swapped_image file image) ≡ swap_list file image
    by (listed xs) e =
        let f = file_is file image xs e in
        let g = image_turned file image xs e in
        (λ i. swap_list (f i) (g i)) ∙ listed_again file image xs e ∙ sym e
    by (stopped r) e =
        let q = swaps_stopped file image r e in
        λ i. swap_list (sym q.1 i) (sym q.2 i)

pub swap_lengths : (file image : List ℕ)
    → (length (swapped_file file image) ≡ length file) × (length (swapped_image file image) ≡ length image)
swap_lengths file image = by (swap_list file image) refl
  where
    by : (w : Walked) → swap_list file image ≡ w
        → (length (swapped_file file image) ≡ length file) × (length (swapped_image file image) ≡ length image)
    by (listed xs) e = (
      ap length (file_is file image xs e) ∙ length-is (accepts file image xs e),
      ap length (image_turned file image xs e) ∙ image_length_lem file image xs e,
    )
    by (stopped r) e = let q = swaps_stopped file image r e in (ap length (sym q.1), ap length (sym q.2))

-- ---- What a swapped file reads as

reads_swapped : (file image : List ℕ) (xs : List Span) → swap_list file image ≡ listed xs
    → reading_of (swapped_file file image) ≡ read_in_other (reading_of file)
reads_swapped file image xs e = ap reading_of (file_is file image xs e) ∙ reading_swapped (accepts file image xs e)

-- a file that the reader accepts is accepted afterwards
pub swap_accepted : (file image : List ℕ) → IsAccepted file → IsAccepted (swapped_file file image)
swap_accepted file image a = by (swap_list file image) refl
  where
    by : (w : Walked) → swap_list file image ≡ w → IsAccepted (swapped_file file image)
    by (listed xs) e = ap (λ (r : Reading). r.verdict) (reads_swapped file image xs e) ∙ a
    by (stopped r) e = ap (λ (s : List ℕ). (reading_of s).verdict) (sym (swaps_stopped file image r e).1) ∙ a

-- ---- A swap that is not refused

accepted_by : (w : Walked) → answer_by w ≡ no_refusal → (xs : List Span) × (w ≡ listed xs)
accepted_by (listed xs) e = (xs, refl)
accepted_by (stopped r) e = refused_never e

module _ (file image : List ℕ) (a : swap_answer file image ≡ no_refusal) where
  swaps : (xs : List Span) × (swap_list file image ≡ listed xs)
  unfolding swap_answer
  swaps = accepted_by (swap_list file image) a

  -- the swapped file reads as the same record, in the other order
  pub swap_reads : reading_of (swapped_file file image) ≡ read_in_other (reading_of file)
  swap_reads = reads_swapped file image swaps.0 swaps.1

  -- the extender stays, with its reserved bytes
  pub swap_extender : extender_of (swapped_file file image) ≡ extender_of file
  swap_extender = ap extender_of (file_is file image swaps.0 swaps.1) ∙ extender_is (accepts file image swaps.0 swaps.1)

  -- the voxel of the datatype's bytes that k others are before: its units are turned round, each in its place
  module _ (t : Format) (d : datatype_of (shape_of file).datatype ≡ Some t) where
    units_of : t.bytes / t.unit * unit_for file ≡ t.bytes
    units_of =
        let s = known_sound (shape_of file).datatype t d in
        rw (unit_known file t d) (omega (arith, div-add-mod' t.bytes t.unit, s.divides))

    -- where it is in a buffer
    abbrev voxel_in : ℕ → List ℕ → List ℕ
    voxel_in k l = part_at t.bytes ((place_of file).offset + k * t.bytes) l

    pub swap_voxel : (k : ℕ) → k * t.bytes + t.bytes ≤ (place_of file).bytes
        → voxel_in k (holder (kind_of file) (swapped_file file image) (swapped_image file image))
        ≡ turned t.unit (t.bytes / t.unit) (voxel_in k (holder (kind_of file) file image))
    unfolding file_runs end_of
    swap_voxel k h =
        let xs = swaps.0 in
        let e = swaps.1 in
        let f = accepts file image xs e in
        let unit = unit_known file t d in
        let some : 1 ≤ unit_for file = rw unit (known_sound (shape_of file).datatype t d).unit_some in
        let v =
        voxel_turned (kind_of file) (place_of file) (unit_for file) (t.bytes / t.unit) k xs file image some (rw units_of h) f.end_behind
        f.fills (room f) (image_room file image xs e) in
        (λ i. voxel_in k (holder (kind_of file) (file_is file image xs e i) (image_turned file image xs e i)))
        ∙ rw units_of at v
        ∙ (λ i. turned (unit i) (t.bytes / t.unit) (voxel_in k (holder (kind_of file) file image)))

-- ---- The two calls

-- "both give the same answers and bytes on any input, refused or not" (02-change-requests.md, P3). Both calls ensure `Swaps` of any file and image file;
-- so what one of them answers and leaves is what the other does.
pub swaps_agree : (file image : List ℕ) {a b : Verdict} {f g i j : List ℕ} → Swaps file image a f i → Swaps file image b g j
    → (a ≡ b) × (f ≡ g) × (i ≡ j)
swaps_agree file image p q = (p.0 ∙ sym q.0, p.1 ∙ sym q.1, p.2 ∙ sym q.2)

-- What holds of every voxel of every file, over the definitions that the contracts cite (01-scope.md, "Voxels and byte order").
use Rattle.refusal.specs.declared.Rule.TheVariants.{IndexOutside}
use Rattle.std.specs.Prelude.{Ok, Err, Result}
use Prim.Native.Nat.{ℕ, ◌+◌, ◌≤◌, ◌<◌}
use mathlib.Core.Path.{◌≡◌, refl, ap, sym, subst, ◌∙◌}
use mathlib.Core.Logic.{◌↔◌}
use mathlib.Core.Bool.{Bool, true, false, not, ◌||◌}
use mathlib.Core.List.{List, [], ◌∷◌}
use native.Mathlib.Omega.{arith}
use lib.Dec.{eqb}
use lib.IntN.{ℤ}
use lib.ListN.{length, get_or, take, drop, length-take, length-drop}
use Rattle.field.specs.Numbers.{i16s_at}
use Rattle.refusal.specs.declared.Refusal.{Refusal}
use Rattle.refusal.specs.Table.{row, verdict, decided, number_of, no_refusal}
use Rattle.refusal.proofs.Rows.{none, one, clear_accepted, decided_accepted, between, between_wider}
use Rattle.grid.specs.Grid.{within}
use Rattle.grid.specs.Axes.{seven_axes}
use Rattle.grid.proofs.Axes.{image_seven, seven_past}
use Rattle.grid.proofs.Voxels.{byte_one, byte_some}
use Rattle.header.specs.declared.Kind.{Kind}
use Rattle.header.specs.declared.Kind.TheVariants.{Single}
use Rattle.rules.specs.declared.Shape.{Shape}
use Rattle.rules.specs.declared.Image.{Image}
use Rattle.rules.specs.Rules.{axis_count, image_of, shape_of_record, image_cut, holder}
use Rattle.layout.specs.File.{order_of, shape_in}
use Rattle.rules.proofs.Passed.{image_held}
use Rattle.reader.specs.Reading.{reading_of, IsAccepted}
use Rattle.reader.proofs.File.{accepted_shape, accepted_record, record_image, record_whole}
use Rattle.reader.proofs.Theorems.{answered_number}
use Rattle.voxel.specs.declared.Extent.{Extent}
use Rattle.voxel.specs.Voxel.{lengths_of, voxel_bytes, image_rows, voxel_rows, extent_of, located_by, located_in}
use Rattle.rules.proofs.Sizes.{shape_measured}
use Rattle.voxel.proofs.Sized.{shape_some}
use Rattle.voxel.proofs.Locating.{Found, found, unlocated_never, passed_located}
use Rattle.voxel.proofs.Theorems.{Inside, extent_inside, unlocated_same, rows_number, single_rows}
use Rattle.by_file.specs.Files.{located_of, part_of, voxel_of}
use Rattle.by_file.proofs.Indexes.{index_seven}

-- Of an accepted file 16 and 17 alone are still to be given.
pub accepted_located : (file image index : List ℕ) → IsAccepted file
    → located_of file image index
    ≡ decided (verdict (image_rows (reading_of file).header (length image) index)) (Ok (extent_of (reading_of file).header index)) Err
unfolding located_of
accepted_located file image index a =
    rw a (passed_located (shape_of_record (reading_of file).header) (length image) index (clear_accepted (accepted_record file a)))

module _ (file image index : List ℕ) (e : Extent) (at : located_of file image index ≡ Ok e) where
  pub located_both : IsAccepted file × (located_in (reading_of file).header (length image) index ≡ Ok e)
  unfolding located_of
  located_both = decided_accepted (reading_of file).verdict (λ r. unlocated_never) at

  pub file_found : Found (reading_of file).header (length image) index e
  file_found = found (reading_of file).header (length image) index e located_both.1

  -- A voxel's bytes lie inside the image,
  pub voxel_in_image : Inside e (reading_of file).image
  voxel_in_image =
      rw (← record_image file located_both.0) (extent_inside (reading_of file).header (length image) index e file_found)

  -- and so inside the file that holds it,
  pub voxel_in_file : e.place + e.length ≤ length (holder (reading_of file).header.kind file image)
  voxel_in_file =
      let h = (reading_of file).header in
      let i = image_of (shape_of_record h) in
      let held = image_held h.kind i file image (record_whole file located_both.0) file_found.whole in
      omega (arith, extent_inside h (length image) index e file_found, held)

  -- there are some,
  pub voxel_some : 1 ≤ e.length
  voxel_some = rw (← file_found.is) (shape_some (shape_of_record (reading_of file).header) file_found.rules)

  -- and these are handed back.
  pub voxel_bytes_are : voxel_of file image index
      ≡ take e.length (drop e.place (holder (reading_of file).header.kind file image))
  unfolding voxel_of
  voxel_bytes_are = rw at

  pub voxel_length : length (voxel_of file image index) ≡ e.length
  voxel_length =
      let room = voxel_in_file in
      ap length voxel_bytes_are ∙ simp (length-take, length-drop) (omega arith)

-- The index is one that the calls take, seven numbers far below 2^64, and those after dim[0] are 0.
module _ (file image index : List ℕ) (e : Extent) (at : located_of file image index ≡ Ok e) where
  pub located_seven : (length index ≡ 7) × ((k : ℕ) → get_or index k 0 ≤ 32767)
  unfolding shape_in
  located_seven =
      let f = file_found file image index e at in
      let n : ℕ = axis_count (reading_of file).header.dim in
      let d : (reading_of file).header.dim ≡ i16s_at (order_of file) file 40 8 =
      ap (λ (s : Shape). s.dim) (accepted_shape file (located_both file image index e at).0) in
      index_seven (order_of file) file n index (shape_measured (shape_of_record (reading_of file).header) f.rules).small.axes
      (subst (λ (dim : List ℤ). within (seven_axes dim n) index ≡ true) d f.inside)

  pub located_past : (k : ℕ) → axis_count (reading_of file).header.dim ≤ k → get_or index k 0 ≡ 0
  located_past k l =
      let f = file_found file image index e at in
      let dim = (reading_of file).header.dim in
      seven_past dim (axis_count dim) index k f.inside l

-- The part is empty exactly when the place is refused.
pub refused_empty : (file image index : List ℕ) (r : Refusal) → located_of file image index ≡ Err r → voxel_of file image index ≡ []
unfolding voxel_of
refused_empty file image index r e = rw e

pub voxel_empty : (file image index : List ℕ)
    → (voxel_of file image index ≡ []) ↔ ((r : Refusal) × (located_of file image index ≡ Err r))
voxel_empty file image index = (by (located_of file image index) refl, λ p. refused_empty file image index p.0 p.1)
  where
    by : (l : Result Extent Refusal) → located_of file image index ≡ l → voxel_of file image index ≡ []
        → (r : Refusal) × (located_of file image index ≡ Err r)
    by (Err r) d z = (r, d)
    by (Ok e) d z = absurd (omega (arith, voxel_some file image index e d, voxel_length file image index e d, ap length z))

-- The bytes of two voxels never meet: a byte is in one voxel, and at one place of it.
pub voxels_apart : (file image is js : List ℕ) (d e : Extent) → located_of file image is ≡ Ok d → located_of file image js ≡ Ok e
    → (o p : ℕ) → o < d.length → p < e.length → d.place + o ≡ e.place + p → (is ≡ js) × (o ≡ p)
voxels_apart file image is js d e at bt o p below under same =
    let h = (reading_of file).header in
    let f = file_found file image is d at in
    let g = file_found file image js e bt in
    let dl = ap (λ (x : Extent). x.length) f.is in
    let el = ap (λ (x : Extent). x.length) g.is in
    let dp = ap (λ (x : Extent). x.place) f.is in
    let ep = ap (λ (x : Extent). x.place) g.is in
    let at = (image_of (shape_of_record h)).offset in
    byte_one (lengths_of h) is js (voxel_bytes h) at o p f.inside g.inside (omega arith) (omega arith) (omega arith)

-- An index inside its axes is located, where the image is there;
module _ (file image : List ℕ) (a : IsAccepted file)
    (whole : image_cut (reading_of file).header.kind (length image) (reading_of file).image ≡ false) where
  pub index_located : (index : List ℕ) → within (lengths_of (reading_of file).header) index ≡ true
      → located_of file image index ≡ Ok (extent_of (reading_of file).header index)
  index_located index inside =
      let h = (reading_of file).header in
      let cut : image_cut h.kind (length image) (image_of (shape_of_record h)) ≡ false = rw (record_image file a) whole in
      let outside : not (within (lengths_of h) index) ≡ false = rw inside in
      let v : verdict (image_rows h (length image) index) ≡ no_refusal = clear_accepted (one cut (one outside none)) in
      accepted_located file image index a ∙ rw v

  -- and so each byte of it is in a voxel, and in exactly one.
  pub byte_located : (x : ℕ) → (reading_of file).image.offset ≤ x
      → x < (reading_of file).image.offset + (reading_of file).image.bytes
      → (index : List ℕ) × (e : Extent) × (o : ℕ) × (located_of file image index ≡ Ok e) × (o < e.length) × (e.place + o ≡ x)
  byte_located x from upto =
      let h = (reading_of file).header in
      let i : Image = image_of (shape_of_record h) in
      let same : i ≡ (reading_of file).image = record_image file a in
      let o = ap (λ (j : Image). j.offset) same in
      let n = ap (λ (j : Image). j.bytes) same in
      let s = image_seven h.dim (axis_count h.dim) (voxel_bytes h) in
      let b = byte_some (lengths_of h) (voxel_bytes h) i.offset x (omega arith) (omega arith) in
      (b.0, extent_of h b.0, b.1, index_located b.0 b.2, b.3, b.4)

-- For a single file the image buffer is neither read nor judged.
module _ (file a b index : List ℕ) (single : (reading_of file).header.kind ≡ Single) where
  pub single_located : located_of file a index ≡ located_of file b index
  unfolding located_of located_by
  single_located =
      let h = (reading_of file).header in
      let i : Image = image_of (shape_of_record h) in
      let e : image_cut h.kind (length a) i ≡ image_cut h.kind (length b) i =
      ap (λ (k : Kind). image_cut k (length a) i) single ∙ sym (ap (λ (k : Kind). image_cut k (length b) i) single) in
      rw e

  pub single_voxel : voxel_of file a index ≡ voxel_of file b index
  unfolding voxel_of
  single_voxel =
      (λ i. part_of (single_located i) (holder (single i) file a))
      ∙ sym (λ i. part_of (located_of file b index) (holder (single i) file b))

-- ---- The numbers of the refusals

-- of files: 1 to 15, 16 and 17
pub located_number : (file image index : List ℕ) (r : Refusal) → located_of file image index ≡ Err r
    → between 1 17 (number_of r.rule) ≡ true
unfolding located_of located_by
located_number file image index r e =
    let h = (reading_of file).header in
    answered_number (between 1 17) file r (λ n. between_wider 1 15 1 17 n refl) (λ q. unlocated_same q r)
    (λ a. rows_number (between 1 17) (voxel_rows (shape_of_record h) (length image) index) (extent_of h index) r refl) e

-- and of a single file never 16
abbrev pub single_number : ℕ → Bool
single_number n = between 1 15 n || eqb n 17

pub single_no_16 : (file image index : List ℕ) (r : Refusal) → (reading_of file).header.kind ≡ Single
    → located_of file image index ≡ Err r → single_number (number_of r.rule) ≡ true
unfolding located_of
single_no_16 file image index r single e = answered_number single_number file r (λ n h. rw h) (λ q. unlocated_same q r) own e
  where
    own : IsAccepted file → located_in (reading_of file).header (length image) index ≡ Err r → single_number (number_of r.rule) ≡ true
    own a d =
        let h = (reading_of file).header in
        let l = passed_located (shape_of_record h) (length image) index (clear_accepted (accepted_record file a)) in
        rows_number single_number (row IndexOutside (not (within (lengths_of h) index)) 0 ∷ []) (extent_of h index) r refl
        (rw (single_rows h (length image) index single) at (sym l ∙ d))

-- Demand 3 as one theorem, `demand_three`: for append, replacement and removal, a single file and a pair, in either byte order.
use Rattle.refusal.specs.declared.Rule.TheVariants.{ImageCut, IndexOutside}
use Rattle.std.specs.Prelude.{Ok, Err}
use Prim.Native.Nat.{ℕ, ◌+◌, ◌*◌, ◌≤◌}
use mathlib.Core.Path.{◌≡◌, refl, ap, sym, ◌∙◌}
use mathlib.Core.Bool.{not}
use mathlib.Core.List.{List, [], ◌∷◌}
use native.Mathlib.Omega.{arith}
use lib.IntN.{ℤ}
use lib.ListN.{length, take, drop}
use lib.Seq.{drop-drop}
use mir.Syntax.{w32}
use mir.Val.{SFits}
use Rattle.refusal.specs.Table.{row, verdict, decided, Verdict}
use Rattle.grid.specs.Grid.{within, voxel_number}
use Rattle.header.specs.declared.Kind.{Kind}
use Rattle.header.specs.declared.Kind.TheVariants.{Single, Pair}
use Rattle.rules.specs.declared.Image.{Image}
use Rattle.rules.specs.Rules.{image_of, shape_of_record, image_cut, holder}
use Rattle.layout.specs.File.{extender_of}
use Rattle.reader.specs.declared.Reading.{Reading}
use Rattle.reader.specs.Reading.{reading_of, IsAccepted}
use Rattle.reader.proofs.File.{record_image}
use Rattle.buffer.specs.Settled.{settled}
use Rattle.voxel.specs.declared.Extent.{Extent}
use Rattle.voxel.specs.Voxel.{lengths_of, voxel_bytes, image_rows}
use Rattle.by_file.specs.Files.{located_of}
use Rattle.by_file.proofs.Voxels.{accepted_located, voxel_bytes_are}
use Rattle.change.specs.declared.Change.{Change}
use Rattle.edit_plan.specs.Fresh.{extension_list, edited_list, extender_for, end_for, fresh_of}
use Rattle.edit.specs.declared.NewFile.{NewFile}
use Rattle.edit.specs.Outcome.{outcome_of, edit_answer, buffer_after}
use Rattle.edit.specs.After.{anew_in, read_after}
use Rattle.edit.proofs.Theorems.{Moved, Renewed, edit_carried}
use Rattle.edit_voxels.specs.Same.{SameVoxel, refused, found}

-- the part of the new file that a place names, moved along with what lies behind the region
part_same : (kind : Kind) (f g image : List ℕ) (old new bytes behind : ℕ) → (kind ≡ Single → drop new g ≡ drop old f) → (kind ≡ Pair → new ≡ old)
    → take bytes (drop (new + behind) (holder kind g image)) ≡ take bytes (drop (old + behind) (holder kind f image))
part_same Single f g image old new bytes behind single pair =
    ap (take bytes) (sym (drop-drop behind new g) ∙ ap (drop behind) (single refl) ∙ drop-drop behind old f)
part_same Pair f g image old new bytes behind single pair = rw (pair refl)

cut_same : (kind : Kind) (len : ℕ) (i j : Image) → (kind ≡ Pair → j.offset ≡ i.offset) → j.bytes ≡ i.bytes
    → image_cut kind len j ≡ image_cut kind len i
cut_same Single len i j o b = refl
cut_same Pair len i j o b = rw (o refl, b)

module _ (f g : List ℕ) (xs : List (List ℕ)) (a : IsAccepted f) (r : Renewed f g xs) where
  abbrev old : ℕ
  old = (reading_of f).image.offset

  abbrev new : ℕ
  new = (reading_of g).image.offset

  abbrev kind : Kind
  kind = (reading_of f).header.kind

  -- what the record after the edit says of the voxels
  kind_same : (reading_of g).header.kind ≡ kind
  kind_same = ap (λ (x : Reading). x.header.kind) r.reads

  lengths_same : lengths_of (reading_of g).header ≡ lengths_of (reading_of f).header
  lengths_same = ap (λ (x : Reading). lengths_of x.header) r.reads

  bytes_same : voxel_bytes (reading_of g).header ≡ voxel_bytes (reading_of f).header
  bytes_same = ap (λ (x : Reading). voxel_bytes x.header) r.reads

  image_bytes_lem : (reading_of g).image.bytes ≡ (reading_of f).image.bytes
  image_bytes_lem = ap (λ (x : Reading). x.image.bytes) r.reads

  pair_offset : kind ≡ Pair → new ≡ old
  pair_offset k = ap (λ (x : Reading). x.image.offset) r.reads ∙ ap (λ (x : Kind). anew_in x (end_for xs) old) k

  module _ (image index : List ℕ) where
    abbrev decides : Verdict
    decides = verdict (image_rows (reading_of f).header (length image) index)

    rows_same : verdict (image_rows (reading_of g).header (length image) index) ≡ decides
    rows_same =
        let cut : image_cut (reading_of g).header.kind (length image) (image_of (shape_of_record (reading_of g).header))
        ≡ image_cut kind (length image) (image_of (shape_of_record (reading_of f).header)) =
        (λ i. image_cut (kind_same i) (length image) (record_image g r.accepted i))
        ∙ cut_same kind (length image) (reading_of f).image (reading_of g).image pair_offset image_bytes_lem
        ∙ sym (ap (image_cut kind (length image)) (record_image f a)) in
        λ i. verdict (row ImageCut (cut i) 0 ∷ row IndexOutside (not (within (lengths_same i) index)) 0 ∷ [])

    -- the voxel's place in each file, by where the image begins
    abbrev behind : ℕ
    behind = voxel_bytes (reading_of f).header * voxel_number (lengths_of (reading_of f).header) index

    abbrev extent_at : ℕ → Extent
    extent_at offset = record { place = offset + behind; length = voxel_bytes (reading_of f).header }

    located_old : located_of f image index ≡ decided decides (Ok (extent_at old)) Err
    located_old = accepted_located f image index a ∙ (λ i. decided decides (Ok (extent_at (record_image f a i).offset)) Err)

    located_new : located_of g image index ≡ decided decides (Ok (extent_at new)) Err
    located_new =
        accepted_located g image index r.accepted
        ∙ (λ i.
        let e : Extent =
        record { place = (record_image g r.accepted i).offset + bytes_same i * voxel_number (lengths_same i) index; length = bytes_same i } in
        decided (rows_same i) (Ok e) Err)

    -- the same answer in a pair
    pub pair_located : kind ≡ Pair → located_of g image index ≡ located_of f image index
    pair_located k = located_new ∙ ap (λ (n : ℕ). decided decides (Ok (extent_at n)) Err) (pair_offset k) ∙ sym located_old

    pub voxel_same : SameVoxel f g image index
    voxel_same = by decides located_old located_new
      where
        by : (v : Verdict) → located_of f image index ≡ decided v (Ok (extent_at old)) Err
            → located_of g image index ≡ decided v (Ok (extent_at new)) Err → SameVoxel f g image index
        by (Ok tt) before after =
            let b = voxel_bytes_are f image index (extent_at old) before in
            let c = voxel_bytes_are g image index (extent_at new) after in
            let s : take (voxel_bytes (reading_of f).header) (drop (new + behind) (holder (reading_of g).header.kind g image))
            ≡ take (voxel_bytes (reading_of f).header) (drop (old + behind) (holder kind f image)) =
            ap (λ (k : Kind). take (voxel_bytes (reading_of f).header) (drop (new + behind) (holder k g image))) kind_same
            ∙ part_same kind f g image old new (voxel_bytes (reading_of f).header) behind (λ k. (r.single k).behind) pair_offset in
            found (extent_at old) (extent_at new)
            (record {
              before = before;
              after = after;
              length_same = refl;
              bytes_same = c ∙ s ∙ sym b;
              bytes_before = b;
              bytes_after = c;
              moved = omega arith;
            })
        by (Err q) before after = refused q before after

-- Demand 3, in its order. The edit is of the file in the first len bytes of l; it answers `new` and leaves the buffer b.
pub record DemandThree (l : List ℕ) (len : ℕ) (change : Change) (code : ℤ) (p : List ℕ) (new : NewFile) (b : List ℕ) : Type 0 where
  -- "Take every accepted file in a buffer"
  pub inside : len ≤ length l
  pub accepted_old : IsAccepted (take len l)
  -- "The whole buffer afterwards equals the fresh file and, past its end, what the exact rules say, to the last byte."
  pub whole : b ≡ settled l len (fresh_of (take len l) change code p)
  -- "The length answered is the fresh file's,
  pub answered : new.length ≡ length (fresh_of (take len l) change code p)
  pub new_inside : new.length ≤ length l
  pub holds : take new.length b ≡ fresh_of (take len l) change code p
  -- and the new file is accepted."
  pub accepted : IsAccepted (take new.length b)
  -- "the same header fields, the extension list with that one edit, and the same bytes behind it, with the voxel offset worked out anew
  -- in a single file"
  pub reads : reading_of (take new.length b) ≡ read_after (reading_of (take len l)) (edited_list (take len l) change code p)
  pub list : extension_list (take new.length b) ≡ edited_list (take len l) change code p
  pub single : (reading_of (take len l)).header.kind ≡ Single → Moved (take len l) (take new.length b)
  pub pair : (reading_of (take len l)).header.kind ≡ Pair → take 348 (take new.length b) ≡ take 348 (take len l)
  -- "An edit writes the first byte as 1 or 0 by the resulting list, and keeps the three" (02-change-requests.md, P2)
  pub extender : extender_of (take new.length b) ≡ extender_for (take len l) (edited_list (take len l) change code p)
  -- "Ask for any voxel before and after, with the same seven indexes and, for a pair, the same image file, whatever these are."
  pub voxels : (image index : List ℕ) → SameVoxel (take len l) (take new.length b) image index
  -- "The voxel's place is the same in a pair"
  pub pair_voxels : (reading_of (take len l)).header.kind ≡ Pair → (image index : List ℕ)
      → located_of (take new.length b) image index ≡ located_of (take len l) image index

-- every append, replacement or removal "that the table doesn't refuse", a code being any that fits 32 bits
pub demand_three : (l : List ℕ) (len : ℕ) (change : Change) (code : ℤ) (p : List ℕ) (new : NewFile) → SFits w32 code
    → edit_answer (outcome_of l len change code p) ≡ Ok new
    → DemandThree l len change code p new (buffer_after l len (outcome_of l len change code p))
demand_three l len change code p new fits e =
    let d = edit_carried l len change code p new fits e in
    let r = d.renewed in
    let f = take len l in
    let g = take new.length (buffer_after l len (outcome_of l len change code p)) in
    let xs = edited_list f change code p in
    record {
      inside = d.inside;
      accepted_old = d.accepted;
      whole = d.whole;
      answered = d.answered;
      new_inside = d.new_inside;
      holds = d.holds;
      accepted = r.accepted;
      reads = r.reads;
      list = r.list;
      single = r.single;
      pair = r.pair;
      extender = r.extender;
      voxels = voxel_same f g xs d.accepted r;
      pair_voxels = λ k image index. pair_located f g xs d.accepted r image index k;
    }

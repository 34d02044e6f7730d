-- The theorems on turned files (02-change-requests.md, P10), over the definitions that the promise of `turn` cites. What a buffer holds is
-- bytes, and a turn that is spoken of was not refused: `IsBytes` and `Turns` say so.
use Rattle.refusal.specs.Table.{no_refusal}
use Prim.Native.Nat.{ℕ, ◌+◌, ◌≤◌}
use mathlib.Core.Path.{◌≡◌, sym, ap, ◌∙◌}
use mathlib.Core.Bool.{true}
use mathlib.Core.List.{List, [], ◌∷◌}
use native.Mathlib.Omega.{arith}
use lib.IntN.{pos}
use lib.ListN.{length, get_or, take, drop}
use Rattle.header.specs.declared.Header.{Header}
use Rattle.encode.proofs.Back.{Writable}
use Rattle.rules.specs.Rules.{completed}
use Rattle.layout.specs.File.{end_of}
use Rattle.reader.specs.declared.Reading.{Reading}
use Rattle.reader.specs.Reading.{reading_of}
use Rattle.reader.proofs.File.{accepted_file, accepted_list, accepted_reads}
use Rattle.voxel.specs.Voxel.{voxel_bytes}
use Rattle.reorient.specs.declared.Turn.{Turn}
use Rattle.reorient.specs.Reorient.{is_permutation, composed, inverse}
use Rattle.reorient.proofs.Orders.{permuted_twice}
use Rattle.reorient.proofs.Images.{permuted_back}
use Rattle.reorient.proofs.Seven.{twice_seven, back_seven}
use Rattle.reorient_header.specs.After.{entries_after, header_after}
use Rattle.reorient_file.specs.Files.{file_after}
use Rattle.turn_laws.specs.Turns.{Turns, IsBytes, image_bytes_in, SameVolume}
use Rattle.turn_laws.proofs.Reading.{bytes_writable, new_part}
use Rattle.turn_laws.proofs.Made.{was_accepted, was_allowed, file_is, new_record, offset, held_in, turned_image, rest}
use Rattle.turn_laws.proofs.Volumes.{ns, ht, seven, room, image_after_lem, image_before_lem, dims_twice, pixdims_twice, image_twice}

writable : {file image : List ℕ} {t : Turn} {newFile newImage : List ℕ} → IsBytes file → Turns file image t newFile newImage
    → Writable (reading_of file).header
writable {file} all w = bytes_writable file (was_accepted w) all

-- The turned file is accepted: the kind, the byte order, the extensions and all other fields are the old ones but for those that the turn
-- changes, and so are the image's offset and bytes; its sizes are those of the new dims.
pub turned_reads : {file image : List ℕ} {t : Turn} {newFile newImage : List ℕ} → IsBytes file → Turns file image t newFile newImage
    → reading_of newFile ≡ record { verdict = no_refusal; header = completed (header_after t (reading_of file).header); image = (reading_of file).image }
turned_reads all w = new_record w (writable all w)

-- its image bytes are the old ones, each voxel's those of the voxel it came from
pub turned_image_lem : {file image : List ℕ} {t : Turn} {newFile newImage : List ℕ} → IsBytes file → (w : Turns file image t newFile newImage)
    → image_bytes_in newFile newImage ≡ turned_image w
turned_image_lem all w = image_after_lem w (writable all w)

-- "All else in the file .. is copied": behind the header up to the end of the region of the extensions every byte is the old one
pub turned_region : {file image : List ℕ} {t : Turn} {newFile newImage : List ℕ} → Turns file image t newFile newImage
    → (from n : ℕ) → 348 ≤ from → from + n ≤ end_of file → take n (drop from newFile) ≡ take n (drop from file)
turned_region {file} {image} {t} w from n h l =
    let a = was_accepted w in
    ap (λ (s : List ℕ). take n (drop from s)) (file_is w)
    ∙ ap (λ (r : Reading). take n (drop from (file_after t r.header file))) (accepted_reads file a)
    ∙ new_part file (accepted_list file a) (accepted_file file a).file t (was_allowed w).permutation from n h l

-- ---- Turns after one another

-- a field with an entry for each axis behind its first
entries_composed : {A : Type 0} (d : A) (t u : Turn) (xs : List A) → is_permutation u ≡ true
    → entries_after d u (entries_after d t xs) ≡ entries_after d (composed t u) xs
unfolding entries_after
entries_composed {A} d t u xs hu = ap (λ (l : List A). get_or xs 0 d ∷ l) (permuted_twice d (drop 1 xs) t u hu)

-- "One turn followed by another gives the same dims, pixdims and image bytes as the composed turn .. where no turn named is refused."
pub turned_twice : {file image : List ℕ} {t u : Turn} {file1 image1 file2 image2 file3 image3 : List ℕ} → IsBytes file
    → Turns file image t file1 image1 → Turns file1 image1 u file2 image2 → Turns file image (composed t u) file3 image3
    → SameVolume file3 image3 file2 image2
unfolding header_after
turned_twice {file} {image} {t} {u} all w v c =
    let old = (reading_of file).header in
    let wr = writable all w in
    let once = ap (λ (r : Reading). r.header) (new_record c wr) in
    record {
      dims = dims_twice w v wr ∙ entries_composed (pos 0) t u old.dim (ht v) ∙ sym (ap (λ (h : Header). h.dim) once);
      pixdims =
          pixdims_twice w v wr ∙ entries_composed 0 t u old.scale.pixdim (ht v) ∙ sym (ap (λ (h : Header). h.scale.pixdim) once);
      bytes =
          image_twice w v wr
          ∙ twice_seven (ns w) (seven w) t (ht w) (voxel_bytes old) (drop (offset w) (held_in w)) (room w) u (rest w) (ht v)
          ∙ sym (image_after_lem c wr);
    }

entries_back : {A : Type 0} (d : A) (t : Turn) (xs : List A) → is_permutation t ≡ true → 4 ≤ length xs
    → entries_after d (inverse t) (entries_after d t xs) ≡ xs
unfolding entries_after
entries_back d t [] h l = let no : ⊥ = omega arith in absurd no
entries_back d t (a ∷ []) h l = let no : ⊥ = omega arith in absurd no
entries_back d t (a ∷ (x ∷ [])) h l = let no : ⊥ = omega arith in absurd no
entries_back d t (a ∷ (x ∷ (y ∷ []))) h l = let no : ⊥ = omega arith in absurd no
entries_back {A} d t (a ∷ (x ∷ (y ∷ (z ∷ r)))) h l = ap (λ (m : List A). a ∷ m) (permuted_back d x y z r t h)

-- "and a turn then its inverse restore them, where no turn named is refused"
pub turned_back : {file image : List ℕ} {t : Turn} {file1 image1 file2 image2 : List ℕ} → IsBytes file
    → Turns file image t file1 image1 → Turns file1 image1 (inverse t) file2 image2 → SameVolume file image file2 image2
turned_back {file} {image} {t} all w v =
    let old = (reading_of file).header in
    let wr = writable all w in
    record {
      dims = dims_twice w v wr ∙ entries_back (pos 0) t old.dim (ht w) (omega (arith, wr.dim.count));
      pixdims = pixdims_twice w v wr ∙ entries_back 0 t old.scale.pixdim (ht w) (omega (arith, wr.pixdim.count));
      bytes =
          image_twice w v wr
          ∙ back_seven (ns w) (seven w) t (ht w) (voxel_bytes old) (drop (offset w) (held_in w)) (room w) (rest w)
          ∙ sym (image_before_lem w);
    }

-- What the functions ask: the parts of the holder one after another, and the bounds of a record whose image can be turned.
use Prim.Native.Nat.{ℕ, ◌+◌, ◌-◌, ◌*◌, ◌≤◌}
use mathlib.Core.Path.{◌≡◌, sym, ap, ◌∙◌}
use mathlib.Core.Bool.{true}
use mathlib.Core.List.{List, [], ◌++◌, append_assoc}
use native.Mathlib.Nat.{zero-add}
use native.Mathlib.Omega.{arith}
use borrow.Author.Tests.{ltb-false}
use lib.ListN.{length, take, drop, length-append, length-drop}
use lib.Seq.{length-take-le, take_all, drop_at, drop-drop, drop-append-le}
use Rattle.buffer.specs.Put.{put}
use Rattle.buffer.proofs.Laws.{put_nil, length-put, put_right}
use Rattle.grid.specs.Grid.{voxels}
use Rattle.grid.proofs.Axes.{image_seven}
use Rattle.grid.proofs.Bounds.{seven_length}
use Rattle.header.specs.declared.Header.{Header}
use Rattle.header.specs.declared.Kind.TheVariants.{Single, Pair}
use Rattle.encode.specs.Encode.{encode}
use Rattle.encode.proofs.Widths.{length-encode}
use Rattle.rules.specs.Rules.{axis_count}
use Rattle.voxel.specs.Voxel.{lengths_of, voxel_bytes}
use Rattle.reorient.specs.declared.Turn.{Turn}
use Rattle.reorient.specs.Reorient.{is_permutation, reoriented}
use Rattle.reorient.proofs.Seven.{length_seven}
use Rattle.reorient_header.specs.After.{header_after}
use Rattle.reorient_file.specs.Files.{image_in, holder_after, with_header, own_after, image_by, file_after, image_after, Sized, Room}

-- the image's bytes are those of its voxels
pub image_voxels : (h : Header) → (image_in h).bytes ≡ voxel_bytes h * voxels (lengths_of h)
image_voxels h = image_seven h.dim (axis_count h.dim) (voxel_bytes h)

whole : (s e : List ℕ) (from end : ℕ) → from + length e ≡ end → (take from s ++ e) ++ drop end s ≡ put s from e
unfolding put
whole s e from end n = rw (← n) (append_assoc (take from s) e (drop (from + length e) s))

-- the front of s, e, and the rest of s, written one after another; k and m are how long the first and the last are
pub parts_put : (l l1 l2 l3 s e : List ℕ) (from end k m : ℕ) → from + length e ≡ end → end ≤ length s → k ≡ from → m ≡ length s - end
    → l1 ≡ put l 0 (take k s) → l2 ≡ put l1 from e → l3 ≡ put l2 end (take m (drop end s)) → l3 ≡ put l 0 (put s from e)
parts_put l l1 l2 l3 s e from end k m n h ek em e1 e2 e3 =
    let front : length (take from s) ≡ from = length-take-le from s (omega arith) in
    let one : l1 ≡ put l 0 (take from s) = rw ek at e1 in
    let two : l2 ≡ put l 0 (take from s ++ e) = e2 ∙ put_right l 0 (take from s) e l1 from one (omega arith) (omega arith) in
    let both : length (take from s ++ e) ≡ end = rw (length-append, front) n in
    let last : take m (drop end s) ≡ drop end s = take_all m (drop end s) (rw length-drop (omega arith)) in
    (rw last at e3)
    ∙ put_right l 0 (take from s ++ e) (drop end s) l2 end two (omega arith) (omega arith)
    ∙ ap (λ (x : List ℕ). put l 0 x) (whole s e from end n)

put_front : (l e : List ℕ) → put l 0 e ≡ e ++ drop (length e) l
unfolding put
put_front l e = rw zero-add

-- a header in front of what was written
pub header_put : (h : Header) (l s : List ℕ) → 348 ≤ length s → with_header h (put l 0 s) ≡ put l 0 (with_header h s)
unfolding with_header
header_put h l s long =
    let n = length-encode h in
    let same : length (encode h ++ drop 348 s) ≡ length s = rw (length-append, length-drop, n) (omega arith) in
    let rest : List ℕ = drop (length s) l in
    ap (λ (x : List ℕ). encode h ++ drop 348 x) (put_front l s)
    ∙ ap (λ (x : List ℕ). encode h ++ x) (drop-append-le 348 s rest long)
    ∙ sym (append_assoc (encode h) (drop 348 s) rest)
    ∙ ap (λ (k : ℕ). (encode h ++ drop 348 s) ++ drop k l) (sym same)
    ∙ sym (put_front l (encode h ++ drop 348 s))

-- the holder is as long as it was
pub length-holder : (t : Turn) (h : Header) (s : List ℕ) → is_permutation t ≡ true → Sized h
    → (image_in h).offset + (image_in h).bytes ≤ length s
    → length (holder_after t h s) ≡ length s
unfolding holder_after
length-holder t h s ht z room =
    let from = (image_in h).offset in
    let size : voxel_bytes h * voxels (lengths_of h) ≤ length (drop from s) = rw length-drop (omega (arith, image_voxels h)) in
    let n = length_seven (lengths_of h) (seven_length h.dim (axis_count h.dim) z.axes) t ht (voxel_bytes h) (drop from s) size in
    length-put s from (reoriented (voxel_bytes h) (lengths_of h) t (drop from s)) (omega (arith, n, image_voxels h))

module _ (h : Header) (file image : List ℕ) (out out_image : ℕ) (r : Room h file image out out_image) where
  pub room_single : h.kind ≡ Single → (image_in h).offset + (image_in h).bytes ≤ length file
  room_single k = rw k at r.whole

  pub room_pair : h.kind ≡ Pair → (image_in h).offset + (image_in h).bytes ≤ length image
  room_pair k = rw k at r.whole

  pub fits_pair : h.kind ≡ Pair → length image ≤ out_image
  fits_pair k = ltb-false out_image (length image) (rw k at r.fits_image)

  module _ (t : Turn) (l l1 l2 m : List ℕ) where
    pub files_single : h.kind ≡ Single → is_permutation t ≡ true → Sized h
        → l1 ≡ put l 0 (holder_after t h file) → l2 ≡ with_header (header_after t h) l1
        → (l2 ≡ put l 0 (file_after t h file)) × (m ≡ put m 0 (image_after t h image))
    unfolding file_after image_after
    files_single k ht z e1 e2 =
        let n = length-holder t h file ht z (room_single k) in
        let own : holder_after t h file ≡ own_after h.kind t h file = rw k in
        let none : [] ≡ image_by h.kind t h image = rw k in (
          e2
              ∙ ap (with_header (header_after t h)) e1
              ∙ header_put (header_after t h) l (holder_after t h file) (omega (arith, n, r.long))
              ∙ ap (λ (s : List ℕ). put l 0 (with_header (header_after t h) s)) own,
          sym (put_nil m 0) ∙ ap (λ (s : List ℕ). put m 0 s) none,
        )

    pub files_pair : (m1 : List ℕ) → h.kind ≡ Pair → l1 ≡ put l 0 file → l2 ≡ with_header (header_after t h) l1
        → m1 ≡ put m 0 (holder_after t h image)
        → (l2 ≡ put l 0 (file_after t h file)) × (m1 ≡ put m 0 (image_after t h image))
    unfolding file_after image_after
    files_pair m1 k e1 e2 e3 =
        let own : file ≡ own_after h.kind t h file = rw k in
        let by : holder_after t h image ≡ image_by h.kind t h image = rw k in (
          e2
              ∙ ap (with_header (header_after t h)) e1
              ∙ header_put (header_after t h) l file r.long
              ∙ ap (λ (s : List ℕ). put l 0 (with_header (header_after t h) s)) own,
          e3 ∙ ap (λ (s : List ℕ). put m 0 s) by,
        )

-- behind the header the file is as it was
pub behind_header : (h : Header) (s : List ℕ) (from : ℕ) → 348 ≤ from → drop from (with_header h s) ≡ drop from s
unfolding with_header
behind_header h s from l =
    let e : 348 + (from - 348) ≡ from = omega arith in
    let at = drop_at (encode h) (drop 348 s) 348 (length-encode h) in
    ap (λ (i : ℕ). drop i (encode h ++ drop 348 s)) (sym e)
    ∙ sym (drop-drop (from - 348) 348 (encode h ++ drop 348 s))
    ∙ ap (drop (from - 348)) at
    ∙ drop-drop (from - 348) 348 s
    ∙ ap (λ (i : ℕ). drop i s) e

-- The header of a fresh file: every byte of the old one but the four of a single file's vox_offset, and so every field of the old record
-- but that one.
use Prim.Native.Nat.{ℕ, ◌+◌, ◌*◌, ◌≤◌, ◌<◌}
use mathlib.Core.Path.{◌≡◌, refl, sym, ap, ◌∙◌}
use mathlib.Core.Bool.{Bool, true, false, ◌&&◌, ◌||◌, and-eq-true_iff}
use mathlib.Core.List.{List, ◌++◌, append_assoc}
use native.Mathlib.Omega.{arith}
use borrow.Author.Tests.{leb-true}
use lib.Dec.{leb}
use lib.ListN.{length, get_or, take, get_or-append}
use lib.Seq.{length-take-le, get_or-take, take_at}
use mir.Syntax.{w16}
use mir.Val.{to_z}
use Rattle.field.specs.declared.Order.{Order}
use Rattle.field.specs.declared.Order.TheVariants.{Little}
use Rattle.field.specs.Numbers.{bytes_at, number_of, bytes_of, u16_at, u32_at, i16_at, joined}
use Rattle.field.proofs.Inverse.{word_at}
use Rattle.field.proofs.Stores.{length-bytes_of}
use Rattle.field.proofs.Tabulate.{tabulate_same}
use Rattle.offset.specs.Offset.{offset_bits}
use Rattle.offset.proofs.Back.{bits_fit}
use Rattle.extension.specs.declared.Span.{Span}
use Rattle.extension.proofs.Regions.{u32_same}
use Rattle.header.specs.declared.Kind.{Kind}
use Rattle.header.specs.declared.Kind.TheVariants.{Single, Pair}
use Rattle.header.specs.Fields.{header_of, with_offset}
use Rattle.header.proofs.Agree.{word_places, half_places, text_places, each_among, Agrees, header_agrees}
use Rattle.layout.specs.File.{holds_in, order_of, has_magic, kind_of}
use Rattle.buffer.proofs.Laws.{get_d_put_before, get_d_put_after}
use Rattle.buffer.specs.Put.{put}
use Rattle.edit_plan.specs.Fresh.{tail_of, extender_for, end_for, head_for, fresh_file}
use Rattle.edit_plan.proofs.Planning.{length_top}
use Rattle.edit.specs.After.{anew_in}

-- the w bytes from `at` are bytes of the header, and none of them is vox_offset's
abbrev pub apart : ℕ → ℕ → Bool
apart at w = leb (at + w) 108 || (leb 112 at && leb (at + w) 348)

data Apart (at w : ℕ) : Type 0 where
  before : at + w ≤ 108 → Apart at w
  after : 112 ≤ at → at + w ≤ 348 → Apart at w

apart_is : (at w : ℕ) → apart at w ≡ true → Apart at w
apart_is at w e = by (leb (at + w) 108) refl e
  where
    by : (t : Bool) → leb (at + w) 108 ≡ t → (t || (leb 112 at && leb (at + w) 348)) ≡ true → Apart at w
    by true h e = before (leb-true (at + w) 108 h)
    by false h e =
        let p = (and-eq-true_iff (leb 112 at) (leb (at + w) 348)).0 e in
        after (leb-true 112 at p.0) (leb-true (at + w) 348 p.1)

-- so are some of them
part_apart : (at w i v : ℕ) → i + v ≤ w → Apart at w → Apart (at + i) v
part_apart at w i v h (before b) = before (omega arith)
part_apart at w i v h (after a b) = after (omega arith) (omega arith)

apart_below : (at : ℕ) → Apart at 1 → at < 348
apart_below at (before b) = omega arith
apart_below at (after a b) = omega arith

head_byte : (kind : Kind) (order : Order) (end : ℕ) (h : List ℕ) (i : ℕ) → 348 ≤ length h → Apart i 1
    → get_or (head_for kind order end h) i 0 ≡ get_or h i 0
head_byte Single order end h i l (before b) = get_d_put_before h 108 (bytes_of order 4 (offset_bits end)) i (omega arith) (omega arith)
head_byte Single order end h i l (after a b) =
    let n = length-bytes_of order 4 (offset_bits end) in
    get_d_put_after h 108 (bytes_of order 4 (offset_bits end)) i (omega arith) (omega arith)
head_byte Pair order end h i l a = refl

module _ (f : List ℕ) (xs : List (List ℕ)) (long : 348 ≤ length f) where
  abbrev g : List ℕ
  g = fresh_file f xs

  -- the header of the fresh file
  abbrev head : List ℕ
  head = head_for (kind_of f) (order_of f) (end_for xs) (take 348 f)

  same_byte : (i : ℕ) → Apart i 1 → get_or g i 0 ≡ get_or f i 0
  unfolding fresh_file
  same_byte i a =
      let b = apart_below i a in
      let l = length_top (kind_of f) (order_of f) (end_for xs) f long in
      let t = length-take-le 348 f long in
      get_or-append head (extender_for f xs ++ (joined xs ++ tail_of f)) 0 i (omega arith)
      ∙ head_byte (kind_of f) (order_of f) (end_for xs) (take 348 f) i (omega arith) a
      ∙ get_or-take 348 f i 0 b

  -- any part of the header that vox_offset is no part of
  part_same : (at w : ℕ) → Apart at w → bytes_at at w g ≡ bytes_at at w f
  part_same at w a =
      tabulate_same (λ i. get_or g (at + i) 0) (λ i. get_or f (at + i) 0) w (λ i h. same_byte (at + i) (part_apart at w i 1 (omega arith) a))

  pub same_bytes : (at w : ℕ) → apart at w ≡ true → bytes_at at w g ≡ bytes_at at w f
  same_bytes at w a = part_same at w (apart_is at w a)

  same_u32 : (order : Order) (at : ℕ) → Apart at 4 → u32_at order g at ≡ u32_at order f at
  unfolding u32_at
  same_u32 order at a = ap (number_of order) (part_same at 4 a)

  same_i16 : (order : Order) (at : ℕ) → Apart at 2 → i16_at order g at ≡ i16_at order f at
  unfolding u16_at
  same_i16 order at a = ap (λ (b : List ℕ). to_z w16 (number_of order b)) (part_same at 2 a)

  -- so its fields agree with the old ones, in either order
  pub agrees : (order : Order) → Agrees order order f g
  agrees order =
      record {
        words =
            λ at n h.
            let a = apart_is at (n * 4) (each_among (λ i k. apart i (k * 4)) at n word_places refl h) in
            tabulate_same (λ i. u32_at order g (at + i * 4)) (λ i. u32_at order f (at + i * 4)) n
            (λ i b. same_u32 order (at + i * 4) (part_apart at (n * 4) (i * 4) 4 (omega arith) a));
        halves =
            λ at n h.
            let a = apart_is at (n * 2) (each_among (λ i k. apart i (k * 2)) at n half_places refl h) in
            tabulate_same (λ i. i16_at order g (at + i * 2)) (λ i. i16_at order f (at + i * 2)) n
            (λ i b. same_i16 order (at + i * 2) (part_apart at (n * 2) (i * 2) 2 (omega arith) a));
        texts = λ at n h. same_bytes at n (each_among apart at n text_places refl h);
      }

  pub same_holds : (order : Order) → holds_in order g ≡ holds_in order f
  unfolding holds_in
  same_holds order = rw (same_i16 order 40 (before (omega arith)))

  pub same_order : order_of g ≡ order_of f
  unfolding order_of
  same_order = rw (same_holds Little)

  pub same_magic : (kind : Kind) → has_magic kind g ≡ has_magic kind f
  unfolding has_magic
  same_magic kind = rw (same_bytes 344 4 refl)

  pub same_kind : kind_of g ≡ kind_of f
  unfolding kind_of
  same_kind = rw (same_magic Single)

  -- ---- vox_offset

  single_offset : kind_of f ≡ Single → u32_at (order_of f) g 108 ≡ offset_bits (end_for xs)
  unfolding fresh_file put
  single_offset k =
      let t = length-take-le 348 f long in
      let h : length (take 108 (take 348 f)) ≡ 108 = length-take-le 108 (take 348 f) (omega arith) in
      rw (k, append_assoc, append_assoc) (word_at (order_of f) (take 108 (take 348 f)) _ (offset_bits (end_for xs)) 108 h (bits_fit (end_for xs)))

  pub pair_head : kind_of f ≡ Pair → take 348 g ≡ take 348 f
  unfolding fresh_file
  pair_head k = rw k (take_at (take 348 f) (extender_for f xs ++ (joined xs ++ tail_of f)) 348 (length-take-le 348 f long))

  pair_offset : kind_of f ≡ Pair → (order : Order) → u32_at order g 108 ≡ u32_at order f 108
  pair_offset k order =
      u32_same order g f 108 108
      (λ i b. sym (get_or-take 348 g (108 + i) 0 (omega arith)) ∙ rw (pair_head k) (get_or-take 348 f (108 + i) 0 (omega arith)))

  offset_is : u32_at (order_of f) g 108 ≡ anew_in (kind_of f) (offset_bits (end_for xs)) (u32_at (order_of f) f 108)
  offset_is = by (kind_of f) refl
    where
      by : (k : Kind) → kind_of f ≡ k → u32_at (order_of f) g 108 ≡ anew_in k (offset_bits (end_for xs)) (u32_at (order_of f) f 108)
      by Single k = single_offset k
      by Pair k = pair_offset k (order_of f)

  -- ---- the record

  pub header_is : (count : ℕ) (spans : List Span)
      → header_of (order_of g) (kind_of g) count spans g
      ≡ with_offset (anew_in (kind_of f) (offset_bits (end_for xs)) (u32_at (order_of f) f 108)) (header_of (order_of f) (kind_of f) count spans f)
  unfolding header_of
  header_is count spans =
      let o = order_of f in
      (λ i. header_of (same_order i) (same_kind i) count spans g)
      ∙ header_agrees o o f g (agrees o) (kind_of f) count spans
      ∙ (λ i. with_offset (offset_is i) (header_of o (kind_of f) count spans f))

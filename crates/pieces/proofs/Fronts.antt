-- The first 352 bytes say all that rules 1 to 12 ask of a file but its length, and all of its record.
use Prim.Native.Nat.{ℕ, ◌+◌, ◌-◌, ◌<◌, ◌≤◌, min}
use mathlib.Core.Path.{◌≡◌, refl, sym, ap, ◌∙◌}
use mathlib.Core.Bool.{Bool, true, false}
use mathlib.Core.List.{List, [], ◌++◌}
use native.Mathlib.Omega.{arith}
use borrow.Author.Tests.{ltb-true, ltb-false}
use lib.Dec.{ltb}
use lib.ListN.{length, get_or, take, replicate, length-append, length-take, get_or-append, get_or-eq_default}
use borrow.Rule.Slice.PartMut.{put_mid}
use lib.Seq.{drop-drop, get_or-take, get_or-append-add, ext_get_or}
use Rattle.field.specs.declared.Order.{Order}
use Rattle.field.specs.Numbers.{u16_at, u32_at}
use Rattle.field.proofs.Tabulate.{length-tabulate, tabulate_get, tabulate_same}
use Rattle.buffer.specs.Put.{put}
use Rattle.buffer.proofs.Laws.{put_nil, length-put, get_d_put_before, get_d_put_in, get_d_put_after}
use Rattle.extension.specs.declared.Span.{Span}
use Rattle.header.specs.declared.Kind.{Kind}
use Rattle.header.specs.Fields.{header_of}
use Rattle.layout.specs.File.{holds_in, order_of, has_magic, kind_of, shape_in, has_extensions, checked_in}
use Rattle.pieces.specs.Pieces.{front_length, front_with, end_in}
use Rattle.pieces.specs.Kept.{front_of}

module _ (s : List ℕ) where
  pub order_front : order_of (front_of s) ≡ order_of s
  unfolding front_of order_of holds_in u16_at
  order_front = refl

  pub extensions_front : has_extensions (front_of s) ≡ has_extensions s
  unfolding front_of has_extensions
  extensions_front = refl

  pub end_front : (order : Order) → end_in order (front_of s) ≡ end_in order s
  unfolding front_of end_in has_extensions kind_of has_magic u32_at
  end_front order = refl

  pub checked_front : (len : ℕ) → checked_in (front_of s) len ≡ checked_in s len
  unfolding front_of checked_in holds_in order_of has_magic kind_of shape_in u16_at u32_at
  checked_front len = refl

  pub header_front : (order : Order) (kind : Kind) (count : ℕ) (spans : List Span)
      → header_of order kind count spans (front_of s) ≡ header_of order kind count spans s
  unfolding front_of header_of u16_at u32_at
  header_front order kind count spans = refl

pub no_front : replicate front_length 0 ≡ front_of []
unfolding front_of
no_front = refl

-- once they have come, a piece leaves them
pub front_kept : (b piece : List ℕ) → front_length ≤ length b → front_of b ≡ front_of (b ++ piece)
unfolding front_of
front_kept b piece h =
    tabulate_same (λ i. get_or b (0 + i) 0) (λ i. get_or (b ++ piece) (0 + i) 0) front_length
    (λ i below. sym (get_or-append b piece 0 (0 + i) (omega arith)))

-- and with a piece they are those of the longer file, byte by byte
front_at : (s : List ℕ) (i : ℕ) → i < front_length → get_or (front_of s) i 0 ≡ get_or s i 0
unfolding front_of
front_at s i h =
    let z : 0 + i ≡ i = omega arith in
    tabulate_get (λ j. get_or s (0 + j) 0) front_length i 0 h ∙ ap (λ j. get_or s j 0) z

front_length_lem : (s : List ℕ) → length (front_of s) ≡ front_length
unfolding front_of
front_length_lem s = length-tabulate (λ j. get_or s (0 + j) 0) front_length

module _ (b piece : List ℕ) (some : length b < front_length) where
  abbrev brought : List ℕ
  brought = take (front_length - length b) piece

  few : length brought ≡ min (front_length - length b) (length piece)
  few = length-take (front_length - length b) piece

  room : length b ≤ length (front_of b)
  room = omega (arith, front_length_lem b)

  byte_with : (i : ℕ) → i < front_length → (t u : Bool) → ltb i (length b) ≡ t → ltb i (length b + length brought) ≡ u
      → get_or (put (front_of b) (length b) brought) i 0 ≡ get_or (b ++ piece) i 0
  byte_with i h true u e d =
      let l = ltb-true i (length b) e in
      get_d_put_before (front_of b) (length b) brought i l room ∙ front_at b i h ∙ sym (get_or-append b piece 0 i l)
  byte_with i h false true e d =
      let l = ltb-false i (length b) e in
      let m = ltb-true i (length b + length brought) d in
      let j = i - length b in
      let p : length b + j ≡ i = omega arith in
      rw (← p)
      (get_d_put_in (front_of b) (length b) brought j (omega arith) room
      ∙ get_or-take (front_length - length b) piece j 0 (omega arith)
      ∙ sym (get_or-append-add b piece j 0))
  byte_with i h false false e d =
      let l = ltb-false i (length b) e in
      let m = ltb-false i (length b + length brought) d in
      get_d_put_after (front_of b) (length b) brought i m room
      ∙ front_at b i h
      ∙ get_or-eq_default b 0 l
      ∙ sym (get_or-eq_default (b ++ piece) 0 (omega (arith, few, length-append b piece)))

  with_length : length (put (front_of b) (length b) brought) ≡ front_length
  with_length = length-put (front_of b) (length b) brought (omega (arith, few, front_length_lem b)) ∙ front_length_lem b

  front_more : front_with (front_of b) (length b) piece ≡ front_of (b ++ piece)
  unfolding front_with
  front_more =
      ext_get_or 0 (put (front_of b) (length b) brought) (front_of (b ++ piece)) (with_length ∙ sym (front_length_lem (b ++ piece)))
      (λ i h.
      let below : i < front_length = omega (arith, with_length) in
      byte_with i below (ltb i (length b)) (ltb i (length b + length brought)) refl refl ∙ sym (front_at (b ++ piece) i below))

-- after the first 352 bytes nothing is stored
pub front_stays : (front : List ℕ) (n : ℕ) (piece : List ℕ) → front_length ≤ n → front_with front n piece ≡ front
unfolding front_with
front_stays front n piece h = let z : front_length - n ≡ 0 = omega arith in rw z (put_nil front n)

pub front_with_lem : (b piece : List ℕ) → front_with (front_of b) (length b) piece ≡ front_of (b ++ piece)
front_with_lem b piece = by (ltb (length b) front_length) refl
  where
    by : (t : Bool) → ltb (length b) front_length ≡ t → front_with (front_of b) (length b) piece ≡ front_of (b ++ piece)
    by true e = front_more b piece (ltb-true (length b) front_length e)
    by false e =
        let h = ltb-false (length b) front_length e in
        front_stays (front_of b) (length b) piece h ∙ front_kept b piece h

-- a copy to a part of a list is a write
pub put_copied : (l : List ℕ) (at k : ℕ) (e : List ℕ) → length e ≡ k → put_mid at k l e ≡ put l at e
unfolding put
put_copied l at k e h = rw (drop-drop, h)

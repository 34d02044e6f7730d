-- What a list of spans that a walk gives says of the file: the spans stand one after the other and fill the region (`walk_fills`),
-- for a whole file from 352 up to the region's end (`extensions_fill`); and each span's size and code are the numbers that the
-- file has there (`walk_reads`).
use Prim.Native.Nat.{ℕ, zero, suc, ◌+◌, ◌≤◌, ◌<◌}
use mathlib.Core.Path.{◌≡◌, refl, sym, ap, ◌∙◌}
use mathlib.Core.List.{List, [], ◌++◌}
use native.Mathlib.Omega.{arith}
use native.Mathlib.Nat.{add-zero}
use lib.IntN.{pos, nat_abs}
use lib.ListN.{length, take, get_or, length-append}
use mir.Syntax.{w32}
use mir.Val.{to_z}
use Rattle.field.specs.declared.Order.{Order}
use Rattle.field.specs.Numbers.{i32_at, joined}
use Rattle.extension.specs.declared.Span.{Span}
use Rattle.extension.specs.Walk.{extension_limit, first_place, span_at, walk, listed, rest_of, extensions_in}
use Rattle.extension.specs.Listing.{no_span}
use Rattle.extension.specs.Fills.{Proper, Fills, full, next}
use Rattle.extension.specs.Pieces.{pieces, Complete, AllComplete, none, one, spans_from}
use Rattle.extension.proofs.Signs.{not_negative}
use Rattle.extension.proofs.Regions.{length_rest, get_d_rest, u32_same}
use Rattle.extension.proofs.Pieces.{complete_small, Opened, opened, spans_from_at, length-spans_from, complete_at, joined_at}

whole_proper : {order : Order} {x : List ℕ} (at : ℕ) → Complete order x → Proper (span_at order at x)
whole_proper {order} {x} at w =
    let n : nat_abs (i32_at order x 0) ≡ length x = ap nat_abs w.size in
    record {
      size = w.size ∙ sym (ap pos n);
      least = rw n w.least;
      units = rw n w.units;
      small = rw n (complete_small w);
      code = not_negative (i32_at order x 4) w.code;
    }

fills_spans : {order : Order} {xs : List (List ℕ)} (at : ℕ) → AllComplete order xs → Fills at (at + length (joined xs)) (spans_from order at xs)
unfolding spans_from
fills_spans at none = full (sym (add-zero at))
fills_spans {order} at (one {x} {xs} w ws) =
    let n : nat_abs (i32_at order x 0) ≡ length x = ap nat_abs w.size in
    let e : at + length (x ++ joined xs) ≡ at + length x + length (joined xs) = omega (arith, length-append x (joined xs)) in
    let a = at + length x in
    let later : Fills (at + nat_abs (i32_at order x 0)) (at + length (x ++ joined xs)) (spans_from order a xs) = rw (n, e) (fills_spans a ws) in
    next refl (whole_proper at w) later

pub walk_fills : (order : Order) (left at : ℕ) (rest : List ℕ) (xs : List Span) → walk order left at rest ≡ listed xs → Fills at (at + length rest) xs
walk_fills order left at rest xs e =
    let o = opened order left at rest xs e in
    rw (o.region, o.spans) at (fills_spans at o.complete)

fills_order : {at end : ℕ} {xs : List Span} → Fills at end xs → at ≤ end
fills_order (full e) = omega arith
fills_order (next s p f) = omega (arith, fills_order f)

-- a span that lies between two places
pub record Inside (at end : ℕ) (x : Span) : Type 0 where
  pub proper : Proper x
  pub from : at ≤ x.start
  pub upto : x.start + nat_abs x.size ≤ end

-- so each of the spans lies in the region
pub fills_at : {at end : ℕ} {xs : List Span} → Fills at end xs → (k : ℕ) (z : Span) → k < length xs → Inside at end (get_or xs k z)
fills_at (full e) k z h = absurd (omega arith)
fills_at (next s p f) zero z h = record { proper = p; from = omega arith; upto = omega (arith, fills_order f) }
fills_at (next s p f) (suc k) z h = let i = fills_at f k z (omega arith) in record { proper = i.proper; from = omega arith; upto = i.upto }

-- the extensions of a file fill the bytes from 352 up to the region's end
pub extensions_fill : (order : Order) (end : ℕ) (file : List ℕ) (xs : List Span) → end ≤ length file → extensions_in order end file ≡ listed xs
    → Fills first_place end xs
unfolding extensions_in
extensions_fill order end file xs h e =
    let rest = rest_of file end first_place in
    let l = length_rest file end first_place in
    let f = walk_fills order extension_limit first_place rest xs e in
    let i = fills_at f 0 no_span ((opened order extension_limit first_place rest xs e).some refl) in
    let same : first_place + length rest ≡ end = omega arith in
    rw same at f

-- the k-th of the spans that a walk over a file's region lists
module _ (order : Order) (left at end : ℕ) (file : List ℕ) (xs : List Span) (walked : walk order left at (rest_of file end at) ≡ listed xs)
    (k : ℕ) (z : Span) (below : k < length xs) where
  abbrev rest : List ℕ
  rest = rest_of file end at

  abbrev piece : List ℕ
  piece = get_or (pieces xs rest) k []

  abbrev before : ℕ
  before = length (joined (take k (pieces xs rest)))

  opening : Opened order left at rest xs
  opening = opened order left at rest xs walked

  counted : k < length (pieces xs rest)
  counted = omega (arith, length-spans_from order at (pieces xs rest), ap length opening.spans)

  span_is : get_or xs k z ≡ span_at order (at + before) piece
  span_is = rw opening.spans at (spans_from_at order at (pieces xs rest) k z counted)

  complete_is : Complete order piece
  complete_is = complete_at opening.complete k counted

  inside : before + length piece ≤ length rest
  inside =
      let i = rw span_is at (fills_at (walk_fills order left at rest xs walked) k z below) in
      let n : nat_abs (i32_at order piece 0) ≡ length piece = ap nat_abs complete_is.size in
      omega arith

  number_is : (j : ℕ) → j + 4 ≤ 16 → i32_at order piece j ≡ i32_at order file (at + before + j)
  number_is j h =
      ap (to_z w32)
      (u32_same order piece file j (at + before + j)
      (λ i b.
      let w = complete_is in
      let e : at + before + j + i ≡ at + (before + (j + i)) = omega arith in
      let r = joined_at (pieces xs rest) k (j + i) counted (omega arith) in
      rw e (sym (rw opening.region at r) ∙ get_d_rest file end at (before + (j + i)) (omega (arith, inside)))))

  -- each span's size and code are what the file has there
  pub walk_reads : ((get_or xs k z).size ≡ i32_at order file (get_or xs k z).start) × ((get_or xs k z).code ≡ i32_at order file ((get_or xs k z).start + 4))
  walk_reads = rw span_is (rw add-zero at (number_is 0 (omega arith)), number_is 4 (omega arith))

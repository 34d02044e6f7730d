-- The answer of what is kept of b is the reader's on b (`answer_kept`).
use Rattle.refusal.specs.Table.{no_refusal}
use Rattle.std.specs.Prelude.{Ok, Err, Some, None, Result, Option}
use Prim.Native.Nat.{ℕ, ◌≤◌, min}
use mathlib.Core.Path.{◌≡◌, refl, sym, ap, ◌∙◌}
use mathlib.Core.Bool.{Bool, true, false, cond}
use mathlib.Core.List.{List, []}
use native.Mathlib.Omega.{arith}
use borrow.Author.Tests.{ltb-false}
use lib.Dec.{ltb}
use lib.ListN.{length}
use lib.Seq.{take_all, take-length}
use Rattle.refusal.specs.declared.Refusal.{Refusal}
use Rattle.refusal.proofs.Rows.{accepted_clear}
use Rattle.field.specs.declared.Order.{Order}
use Rattle.field.specs.Numbers.{u32_at}
use Rattle.offset.specs.Offset.{whole_of, offset_of, offset_limit}
use Rattle.offset.proofs.Answer.{whole_answer, whole_in_case}
use Rattle.extension.specs.declared.Span.{Span}
use Rattle.extension.specs.declared.Walker.{Walker}
use Rattle.extension.specs.Walk.{extension_limit, first_place, step_of, listed, stopped, extensions_in}
use Rattle.extension.specs.Listing.{spans_of, listing_of}
use Rattle.header.specs.declared.Kind.{Kind}
use Rattle.header.specs.declared.Kind.TheVariants.{Single, Pair}
use Rattle.header.specs.Fields.{header_of}
use Rattle.rules.specs.Rules.{offset_outside, image_of, completed, region_end}
use Rattle.rules.proofs.Passed.{neither}
use Rattle.layout.specs.declared.Layout.{Layout}
use Rattle.layout.specs.File.{order_of, kind_of, shape_in, shape_of, has_extensions, file_rows, layout_of, checked_in, checked_of}
use Rattle.layout.proofs.Checking.{checked_fits}
use Rattle.reader.specs.declared.Reading.{Reading}
use Rattle.reader.specs.Reading.{extensions_of, refused_with, accepted_with, reading_of}
use Rattle.reader.proofs.Answers.{reads_broken, reads_refused, reads_accepted}
use Rattle.reader.proofs.File.{Rules, clear_rules}
use Rattle.piece_walk.specs.Marks.{marks_of}
use Rattle.piece_walk.specs.Walking.{step_by, walker_of}
use Rattle.piece_walk.specs.Whole.{whole_from, place_after, walk_of}
use Rattle.piece_walk.proofs.Standing.{step_same, few_whole, standing_spans, standing_listed, standing_stopped, standing_still}
use Rattle.pieces.specs.declared.Pieces.{Pieces}
use Rattle.pieces.specs.Pieces.{total_limit, end_by, end_in}
use Rattle.piece_reader.specs.Answer.{ended_by, spans_in, listed_by, answer_by, answer_of}
use Rattle.pieces.specs.Kept.{front_of, kept_of}
use Rattle.pieces.proofs.Fronts.{order_front, extensions_front, end_front, checked_front, header_front}

-- a region that ends with the file may as well end anywhere after it
to_the_end : (order : Order) (b : List ℕ) (n : ℕ) → length b ≤ n → extensions_in order (length b) b ≡ extensions_in order n b
unfolding extensions_in
to_the_end order b n h = rw (take-length b, take_all n b h)

module _ (b : List ℕ) (l : Layout) (fits : checked_of b ≡ Ok l) (room : length b ≤ total_limit) where
  rules : Rules b
  rules = clear_rules b (accepted_clear (file_rows b) (checked_fits b (length b) l fits).0)

  layout_is : layout_of b ≡ l
  layout_is = (checked_fits b (length b) l fits).1

  -- what the reader answers, by what the walk over its extensions comes to
  reads_list : (xs : List Span) → extensions_of l b ≡ listed xs → accepted_with b l (length xs) (spans_of xs) ≡ reading_of b
  unfolding listing_of
  reads_list xs e = reads_accepted b l fits (listing_of (listed xs)) (ap listing_of (sym e)) refl

  reads_halt : (r : Refusal) → extensions_of l b ≡ stopped r → refused_with r ≡ reading_of b
  unfolding listing_of
  reads_halt r e = reads_refused b l fits (listing_of (stopped r)) (ap listing_of (sym e)) r refl

  accepted_front : (n : ℕ) (spans : List Span) → accepted_with (front_of b) l n spans ≡ accepted_with b l n spans
  accepted_front n spans = λ i. record { verdict = no_refusal; header = completed (header_front b l.order l.kind n spans i); image = l.image }

  abbrev order : Order
  order = order_of (front_of b)

  abbrev end : ℕ
  end = end_in order (front_of b)

  abbrev bits : ℕ
  bits = u32_at (order_of b) b 108

  -- the walk's end is the region's, as far as the file goes
  region_by : (kind : Kind) → offset_outside kind (whole_of bits) (length b) ≡ false
      → extensions_in (order_of b) (region_end kind (image_of (shape_of b)) (length b)) b ≡ extensions_in (order_of b) (end_by kind (offset_of bits)) b
  unfolding shape_in
  region_by Single out =
      let n = ltb-false offset_limit (whole_of bits) (neither (ltb (whole_of bits) first_place) (ltb offset_limit (whole_of bits)) out).1 in
      rw (whole_answer bits (whole_of bits) rules.fields.whole refl n, whole_in_case (whole_of bits))
  region_by Pair out = to_the_end (order_of b) b total_limit room

  -- so the reader's walk is the one over what is kept
  end_is : has_extensions b ≡ true → end ≡ end_by (kind_of b) (offset_of bits)
  unfolding end_in
  end_is has = end_front b order ∙ rw (has, order_front b)

  walk_is : has_extensions b ≡ true → extensions_of l b ≡ extensions_in order end b
  unfolding shape_in
  walk_is has =
      sym (ap (λ (m : Layout). extensions_of m b) layout_is)
      ∙ rw has (region_by (kind_of b) rules.fields.inside)
      ∙ (λ i. extensions_in (sym (order_front b) i) (sym (end_is has) i) b)

  abbrev xs : List Span
  xs = whole_from order end b extension_limit first_place

  abbrev w : Walker
  w = record { order = order; end = end; at = place_after first_place xs; count = length xs }

  abbrev all : Reading
  all = accepted_with (front_of b) l (min (length xs) extension_limit) (spans_in (marks_of xs) (min (length xs) extension_limit))

  all_is : all ≡ accepted_with b l (length xs) (spans_of xs)
  all_is =
      let n : min (length xs) extension_limit ≡ length xs = omega (arith, few_whole order end b) in
      accepted_front (min (length xs) extension_limit) (spans_in (marks_of xs) (min (length xs) extension_limit))
      ∙ (λ i. accepted_with b l (n i) (spans_in (marks_of xs) (n i)))
      ∙ (λ i. accepted_with b l (length xs) (spans_of (standing_spans order end b i)))

  by_step : has_extensions b ≡ true → (u : Result (Option (Span × Walker)) Refusal) → step_of b w ≡ u → ended_by u all ≡ reading_of b
  by_step has (Err r) e = reads_halt r (walk_is has ∙ standing_stopped order end b r e)
  by_step has (Ok None) e = all_is ∙ reads_list xs (walk_is has ∙ standing_listed order end b e)
  by_step has (Ok (Some (x, next))) e = absurd (standing_still order end b x next e)

  by_extender : (t : Bool) → has_extensions b ≡ t
      → cond t (ended_by (step_by w (walk_of order end b).coming (length b)) all) (accepted_with (front_of b) l 0 (spans_of [])) ≡ reading_of b
  unfolding walk_of
  by_extender true e = rw (step_same w b) (by_step e (step_of b w) refl)
  by_extender false e = accepted_front 0 (spans_of []) ∙ reads_list [] (rw e)

  order_is : l.order ≡ order
  order_is = sym (ap (λ (m : Layout). m.order) layout_is) ∙ sym (order_front b)

  list_kept : listed_by (front_of b) l (length b) (walk_of order end b) ≡ reading_of b
  unfolding listed_by walk_of
  list_kept =
      let g = walk_of order end b in
      rw (extensions_front b)
      ((λ i.
      cond (has_extensions b) (ended_by (step_by (walker_of (order_is i) (end_in (order_is i) (front_of b)) g) g.coming (length b)) all)
      (accepted_with (front_of b) l 0 (spans_of [])))
      ∙ by_extender (has_extensions b) refl)

pub answer_kept : (b : List ℕ) → length b ≤ total_limit → answer_of (kept_of b) ≡ reading_of b
unfolding answer_of kept_of
answer_kept b room = rw (checked_front b (length b)) (by (checked_of b) refl)
  where
    by : (t : Result Layout Refusal) → checked_of b ≡ t
        → answer_by t (front_of b) (length b) (walk_of (order_of (front_of b)) (end_in (order_of (front_of b)) (front_of b)) b) ≡ reading_of b
    by (Err r) e = reads_broken b r e
    by (Ok l) e = list_kept b l e room

-- of any state: the answer's count is within the limit
module _ (s : Pieces) (l : Layout) where
  abbrev whole_list : Reading
  whole_list = accepted_with s.front l (min s.walk.count extension_limit) (spans_in s.walk.marks (min s.walk.count extension_limit))

  few_by : (u : Result (Option (Span × Walker)) Refusal) → (ended_by u whole_list).header.count ≤ extension_limit
  unfolding header_of
  few_by (Err r) = omega arith
  few_by (Ok None) = omega arith
  few_by (Ok (Some (x, next))) = omega arith

  few_listed : (listed_by s.front l s.taken s.walk).header.count ≤ extension_limit
  unfolding listed_by header_of
  few_listed = by (has_extensions s.front)
    where
      step : Result (Option (Span × Walker)) Refusal
      step = step_by (walker_of l.order (end_in l.order s.front) s.walk) s.walk.coming s.taken

      by : (t : Bool) → (cond t (ended_by step whole_list) (accepted_with s.front l 0 (spans_of []))).header.count ≤ extension_limit
      by true = few_by step
      by false = omega arith

pub count_few : (s : Pieces) → (answer_of s).header.count ≤ extension_limit
unfolding answer_of header_of
count_few s = by (checked_in s.front s.taken)
  where
    by : (k : Result Layout Refusal) → (answer_by k s.front s.taken s.walk).header.count ≤ extension_limit
    by (Err r) = omega arith
    by (Ok l) = few_listed s l

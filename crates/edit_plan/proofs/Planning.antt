-- Rules 18 to 22 by the numbers that the code compares, and what they leave known of an edit.
use Prim.Native.Nat.{ℕ, ◌+◌, ◌-◌, ◌≤◌, ◌<◌, min, max}
use mathlib.Core.Path.{◌≡◌, refl, sym, ap, ◌∙◌}
use mathlib.Core.Bool.{Bool, true, false, ◌||◌}
use mathlib.Core.List.{List, [], append-nil}
use native.Mathlib.Nat.{sub_self}
use native.Mathlib.Omega.{arith}
use borrow.Author.Tests.{ltb-true, ltb-false, lt-ltb, le-ltb, leb-true, leb-false, not-false}
use lib.Dec.{leb, ltb}
use lib.IntN.{ℤ}
use lib.ListN.{length, take, get_or, length-append}
use lib.Seq.{length-take-le, take-length}
use mir.Syntax.{w32}
use mir.Val.{of_z}
use Rattle.field.specs.declared.Order.{Order}
use Rattle.field.specs.Numbers.{bytes_of, joined}
use Rattle.field.proofs.Stores.{length-bytes_of}
use Rattle.offset.specs.Offset.{offset_limit, offset_bits}
use Rattle.extension.specs.declared.Span.{Span}
use Rattle.extension.specs.Walk.{extension_limit, first_place, span_at}
use Rattle.extension.specs.Listing.{no_span}
use Rattle.extension.proofs.Pieces.{spans_from_at, complete_at}
use Rattle.header.specs.declared.Kind.{Kind}
use Rattle.header.specs.declared.Kind.TheVariants.{Single, Pair}
use Rattle.layout.specs.File.{order_of, kind_of, end_of}
use Rattle.reader.proofs.File.{AcceptedFile}
use Rattle.buffer.proofs.Laws.{length-put}
use Rattle.change.specs.declared.Change.{Change}
use Rattle.change.specs.declared.Change.TheVariants.{Append, Replace, Remove}
use Rattle.change.specs.Change.{missing_in, enters_bytes, too_many, named_by, slot_at, slot_of, new_size, size_cap}
use Rattle.edit_plan.specs.Fresh.{extension_list, tail_of, out_from, out_to, brought_in, edited_list, extender_for, end_for, head_for}
use Rattle.edit_plan.specs.Fresh.{fresh_file, fresh_of}
use Rattle.edit_plan.specs.Refusals.{enters_private, too_much}
use Rattle.edit_plan.specs.Planned.{bytes_before, bytes_out}
use Rattle.edit_plan.proofs.Exchanging.{before_all, before_later, before_next, length-exchange, bytes_exchange}
use Rattle.edit_plan.proofs.Sizing.{length-stored}
use Rattle.edit_plan.proofs.Cutting.{list_complete, list_spans, length_list, none_listed, Cut, cut}

-- how many extensions a file has
abbrev pub count_of : List ℕ → ℕ
count_of f = length (extension_list f)

-- where the region ends, with room for an extender, and the file
abbrev pub region_to : List ℕ → ℕ
region_to f = max (end_of f) first_place

-- ---- the length of a fresh file

length_head : (kind : Kind) (order : Order) (end : ℕ) (h : List ℕ) → 112 ≤ length h
    → length (head_for kind order end h) ≡ length h
length_head Single order end h l =
    let b = length-bytes_of order 4 (offset_bits end) in
    length-put h 108 (bytes_of order 4 (offset_bits end)) (omega arith)
length_head Pair order end h l = refl

pub length_extender : (f : List ℕ) (xs : List (List ℕ)) → length (extender_for f xs) ≡ 4
length_extender f xs = refl

pub length_top : (kind : Kind) (order : Order) (end : ℕ) (f : List ℕ) → 348 ≤ length f
    → length (head_for kind order end (take 348 f)) ≡ 348
length_top kind order end f l =
    let t = length-take-le 348 f l in
    length_head kind order end (take 348 f) (omega arith) ∙ t

pub length-fresh : (f : List ℕ) (xs : List (List ℕ)) → 348 ≤ length f → length (fresh_file f xs) ≡ end_for xs + length (tail_of f)
unfolding fresh_file
length-fresh f xs l =
    let x = length_extender f xs in
    simp (length-append, length_top (kind_of f) (order_of f) (end_for xs) f l) (omega arith)

-- ---- where extensions go out

-- an edit's two places in a list of n
pub places : (change : Change) (n : ℕ) → missing_in change n ≡ false → (out_from change n ≤ out_to change n) × (out_to change n ≤ n)
places Append n e = (omega arith, omega arith)
places (Replace k) n e = let h = ltb-true k n (not-false (ltb k n) e) in (omega arith, omega arith)
places (Remove k) n e = let h = ltb-true k n (not-false (ltb k n) e) in (omega arith, omega arith)

-- what comes in
pub length_new : (order : Order) (change : Change) (code : ℤ) (p : List ℕ)
    → length (joined (brought_in order change code p)) ≡ new_size change (length p)
length_new order Append code p = rw (append-nil, length-stored order code p)
length_new order (Replace k) code p = rw (append-nil, length-stored order code p)
length_new order (Remove k) code p = refl

-- a number that rule 18 passes
present : (k n : ℕ) → missing_in (Replace k) n ≡ false → k < n
present k n m = ltb-true k n (not-false (ltb k n) m)

module _ (f : List ℕ) (ss : List Span) (a : AcceptedFile f ss) where
  -- the span of a numbered extension, by the bytes before it
  span_slot : (k : ℕ) → k < count_of f
      → slot_at (get_or ss k no_span) ≡ record { at = first_place + bytes_before f k; old = bytes_before f (k + 1) - bytes_before f k }
  span_slot k h =
      let x : Span = span_at (order_of f) (first_place + bytes_before f k) (get_or (extension_list f) k []) in
      let s : get_or ss k no_span ≡ x = rw (list_spans f ss a) at (spans_from_at (order_of f) first_place (extension_list f) k no_span h) in
      let w = complete_at (list_complete f ss a) k h in
      let n = before_next (extension_list f) k h in
      let old : of_z w32 x.size ≡ bytes_before f (k + 1) - bytes_before f k = rw w.size (omega arith) in
      (λ i. record { at = (s i).start; old = of_z w32 (s i).size }) ∙ (λ i. record { at = x.start; old = old i })

  pub slot_is : (change : Change) (end : ℕ) → missing_in change (count_of f) ≡ false → end ≡ first_place + length (joined (extension_list f))
      → slot_of change (get_or ss (named_by change) no_span) end ≡ record { at = first_place + bytes_before f (out_from change (count_of f)); old = bytes_out f change }
  slot_is Append end m e =
      let at : end ≡ first_place + bytes_before f (count_of f) = rw take-length e in
      let old : 0 ≡ bytes_out f Append = sym (sub_self (bytes_before f (count_of f))) in
      λ i. record { at = at i; old = old i }
  slot_is (Replace k) end m e = span_slot k (present k (count_of f) m)
  slot_is (Remove k) end m e = span_slot k (present k (count_of f) m)

-- ---- rule 20

above_max : (e : ℕ) → ltb first_place (max e first_place) ≡ ltb first_place e
above_max e = by (ltb first_place e) refl
  where
    by : (t : Bool) → ltb first_place e ≡ t → ltb first_place (max e first_place) ≡ ltb first_place e
    by true h = let l = ltb-true first_place e h in lt-ltb first_place (max e first_place) (omega arith) ∙ sym h
    by false h = let l = ltb-false first_place e h in le-ltb first_place (max e first_place) (omega arith) ∙ sym h

module _ (f : List ℕ) (ss : List Span) (a : AcceptedFile f ss) where
  pub enters_is : (change : Change) → enters_bytes change (length ss) (region_to f) ≡ enters_private change f
  enters_is Append = rw (none_listed f ss a, above_max (end_of f))
  enters_is (Replace k) = refl
  enters_is (Remove k) = refl

  -- where there are extensions, they fill the region
  cut_present : 0 < count_of f → Cut f
  cut_present h = cut f ss a (λ z. let n : length ss ≡ 0 = ap length (a.none z) in absurd (omega (arith, length_list f ss a)))

  -- past rules 18 and 20 nothing stands between 352 and the region's end but extensions
  pub cut_by : (change : Change) → missing_in change (count_of f) ≡ false → enters_private change f ≡ false → Cut f
  cut_by Append m e = cut f ss a (λ z. ltb-false first_place (end_of f) (rw z at e))
  cut_by (Replace k) m e = let h = present k (count_of f) m in cut_present (omega arith)
  cut_by (Remove k) m e = let h = present k (count_of f) m in cut_present (omega arith)

-- ---- the sizes, and rule 21

module _ (f : List ℕ) (change : Change) (m : missing_in change (count_of f) ≡ false) (c : Cut f) where
  abbrev from : ℕ
  from = out_from change (count_of f)

  abbrev to : ℕ
  to = out_to change (count_of f)

  pub out_inside : first_place + bytes_before f from + bytes_out f change ≤ region_to f
  out_inside =
      let a = before_later from to (extension_list f) (places change (count_of f) m).0 in
      let b = before_all to (extension_list f) in
      let e = c.base in
      omega arith

  module _ (code : ℤ) (p : List ℕ) where
    abbrev xs : List (List ℕ)
    xs = edited_list f change code p

    abbrev ys : List (List ℕ)
    ys = brought_in (order_of f) change code p

    pub end_new : end_for xs ≡ region_to f - bytes_out f change + new_size change (length p)
    unfolding edited_list
    end_new =
        let x = bytes_exchange (extension_list f) ys from to (places change (count_of f) m).0 in
        let b = before_all to (extension_list f) in
        omega (arith, x, b, c.base, length_new (order_of f) change code p)

    pub whole_new : 348 ≤ length f
        → length (fresh_of f change code p) ≡ max (length f) first_place - bytes_out f change + new_size change (length p)
    whole_new l =
        let o = out_inside in
        omega (arith, length-fresh f xs l, end_new, c.base, c.whole, o)

    pub count_new : length xs ≡ count_of f - (to - from) + length ys
    unfolding edited_list
    count_new =
        let h = places change (count_of f) m in
        length-exchange (extension_list f) ys from to h.0 h.1

-- 65 extensions
one_over : (n k : ℕ) → k ≡ n + 1 → ltb extension_limit k ≡ leb extension_limit n
one_over n k e = by (leb extension_limit n) refl
  where
    by : (t : Bool) → leb extension_limit n ≡ t → ltb extension_limit k ≡ leb extension_limit n
    by true h = let l = leb-true extension_limit n h in lt-ltb extension_limit k (omega arith) ∙ sym h
    by false h = let l = leb-false extension_limit n h in le-ltb extension_limit k (omega arith) ∙ sym h

many_is : (order : Order) (change : Change) (code : ℤ) (p : List ℕ) (n : ℕ) → n ≤ extension_limit → missing_in change n ≡ false
    → ltb extension_limit (n - (out_to change n - out_from change n) + length (brought_in order change code p)) ≡ too_many change n
many_is order Append code p n h m = one_over n (n - (n - n) + 1) (omega arith)
many_is order (Replace k) code p n h m = let l = present k n m in le-ltb extension_limit (n - (k + 1 - k) + 1) (omega arith)
many_is order (Remove k) code p n h m = le-ltb extension_limit (n - (k + 1 - k) + 0) (omega arith)

-- sizes above the limit are not told apart, and need not be
limit_is : (a b : ℕ) → first_place ≤ a → ltb offset_limit (a + min b size_cap) ≡ ltb offset_limit (a + b)
limit_is a b h = by (ltb offset_limit (a + b)) refl
  where
    by : (t : Bool) → ltb offset_limit (a + b) ≡ t → ltb offset_limit (a + min b size_cap) ≡ ltb offset_limit (a + b)
    by true e = let l = ltb-true offset_limit (a + b) e in lt-ltb offset_limit (a + min b size_cap) (omega arith) ∙ sym e
    by false e = let l = ltb-false offset_limit (a + b) e in le-ltb offset_limit (a + min b size_cap) (omega arith) ∙ sym e

pub much_is : (f : List ℕ) (change : Change) (m : missing_in change (count_of f) ≡ false) (c : Cut f) (code : ℤ) (p : List ℕ)
    → count_of f ≤ extension_limit
    → (too_many change (count_of f) || ltb offset_limit (region_to f - bytes_out f change + min (new_size change (length p)) size_cap))
    ≡ too_much (edited_list f change code p)
much_is f change m c code p few =
    let o = out_inside f change m c in
    let a : ltb extension_limit (length (edited_list f change code p)) ≡ too_many change (count_of f) =
    rw (count_new f change m c code p) (many_is (order_of f) change code p (count_of f) few m) in
    rw (a, limit_is (region_to f - bytes_out f change) (new_size change (length p)) (omega arith), end_new f change m c code p)

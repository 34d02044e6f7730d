-- The reader's theorems, over the definitions that its promise cites (docs/PROMISES.md names each); `accepted_exactly` and what an
-- accepted file is like stand in proofs/File.antt.
use Rattle.refusal.specs.declared.Rule.TheVariants.{FileCut}
use Rattle.std.specs.Prelude.{Ok, Err}
use Prim.Native.Nat.{ℕ, ◌+◌, ◌*◌, ◌≤◌}
use mathlib.Core.Path.{◌≡◌, refl, ap, sym, ◌∙◌}
use mathlib.Core.Bool.{Bool, true, false, not, cond, ◌&&◌, and-false, and-eq-true_iff, false≢true}
use mathlib.Core.List.{List, [], ◌∷◌, ◌++◌}
use mathlib.Core.Logic.{◌↔◌}
use native.Mathlib.Omega.{arith}
use borrow.Author.Tests.{leb-true, lt-leb, ne_eqb}
use lib.Dec.{leb, eqb}
use lib.ListN.{length, get_or}
use Rattle.field.specs.declared.Order.TheVariants.{Little, Big}
use Rattle.field.specs.Numbers.{u16_at, joined}
use Rattle.refusal.specs.declared.Refusal.{Refusal}
use Rattle.refusal.specs.Table.{row, verdict, decided, Verdict, number_of}
use Rattle.refusal.proofs.Rows.{Clear, between, between_wider, verdict_number, refused_never}
use Rattle.extension.specs.Walk.{extension_limit, first_place, Walked, listed, stopped, extensions_in}
use Rattle.extension.specs.Pieces.{pieces, AllComplete, spans_from}
use Rattle.extension.specs.Fills.{Fills}
use Rattle.extension.proofs.Numbers.{extensions_number}
use Rattle.extension.proofs.Pieces.{walk_join, length-spans_from}
use Rattle.extension.proofs.Walks.{stopped_never}
use Rattle.rules.specs.Rules.{field_rows, image_of, cut_short, region_end}
use Rattle.rules.proofs.Seven.{seven_bits}
use Rattle.layout.specs.File.{holds_in, order_of, kind_of, shape_of, head_rows, has_extensions, cut_extender, file_rows, layout_of, end_of}
use Rattle.reader.specs.Reading.{extensions_of, judgement, reading_by, reading_of, IsAccepted}
use Rattle.reader.proofs.File.{region_of, Lists, accepted_exactly, accepted_file, accepted_list}

-- "Never both: a value 1..7 reads at least 256 in the other order."
small_pair : (a b : ℕ) → (leb 1 (a + 256 * (b + 256 * 0)) && leb (a + 256 * (b + 256 * 0)) 7) ≡ true
    → (leb 1 (b + 256 * (a + 256 * 0)) && leb (b + 256 * (a + 256 * 0)) 7) ≡ false
small_pair a b e =
    let p = (and-eq-true_iff (leb 1 (a + 256 * (b + 256 * 0))) (leb (a + 256 * (b + 256 * 0)) 7)).0 e in
    let low : 1 ≤ a + 256 * (b + 256 * 0) = leb-true _ _ p.0 in
    let high : a + 256 * (b + 256 * 0) ≤ 7 = leb-true _ _ p.1 in
    rw (lt-leb (b + 256 * (a + 256 * 0)) 7 (omega arith)) (and-false (leb 1 (b + 256 * (a + 256 * 0))))

pub never_both : (s : List ℕ) → holds_in Little s ≡ true → holds_in Big s ≡ false
unfolding holds_in u16_at
never_both s e = sym (seven_bits (u16_at Big s 40)) ∙ small_pair (get_or s 40 0) (get_or s 41 0) (seven_bits (u16_at Little s 40) ∙ e)

-- "With 1,0,0,0 they begin at 352 and must fill the region exactly"; since P2 with any first byte but zero
pub accepted_fills : (s : List ℕ) (a : IsAccepted s) → has_extensions s ≡ true → Fills first_place (end_of s) (accepted_list s a)
accepted_fills s a h = let f = (accepted_file s a).file in f.fills (f.some h)

-- ---- Accepted, with no word of the walk

-- a region that is 1 to 64 whole extensions, joined
pub record Joined (s : List ℕ) : Type 0 where
  pub list : List (List ℕ)
  pub complete : AllComplete (order_of s) list
  pub some : 1 ≤ length list
  pub few : length list ≤ extension_limit
  pub filled : joined list ≡ region_of s

module _ (s : List ℕ) where
  lists_joined : IsAccepted s → has_extensions s ≡ true → Joined s
  lists_joined a h =
      let x = accepted_file s a in
      let f = x.file in
      let ps = pieces x.list (region_of s) in
      let n : length ps ≡ length x.list = sym (length-spans_from (order_of s) first_place ps) ∙ rw f.spans in
      record {
        list = ps;
        complete = f.complete;
        some = omega (arith, f.some h);
        few = omega (arith, f.few);
        filled = f.region h;
      }

  joined_lists : (has_extensions s ≡ true → Joined s) → Lists s
  unfolding extensions_in end_of
  joined_lists g = by (has_extensions s) refl
    where
      by : (t : Bool) → has_extensions s ≡ t → Lists s
      by false e = record { list = []; walked = rw e }
      by true e =
          let x = g e in
          record {
            list = spans_from (order_of s) first_place x.list;
            walked =
                rw (e, ← x.filled) (walk_join (order_of s) extension_limit first_place x.complete x.few (omega arith) (λ _. x.some));
          }

  -- exactly when no row of 1..12 holds and, with extensions, the region is such
  pub accepted_joined : IsAccepted s ↔ (Clear (file_rows s) × (has_extensions s ≡ true → Joined s))
  accepted_joined = (
    λ a. (((accepted_exactly s).0 a).0, lists_joined a),
    λ p. (accepted_exactly s).1 (p.0, joined_lists p.1),
  )

  -- ---- "Reading gives 1..15 only."

  list_number : (t : Bool) (r : Refusal)
      → cond t (extensions_in (order_of s) (region_end (kind_of s) (image_of (shape_of s)) (length s)) s) (listed []) ≡ stopped r
      → between 13 15 (number_of r.rule) ≡ true
  list_number true r e = extensions_number (order_of s) (region_end (kind_of s) (image_of (shape_of s)) (length s)) s r e
  list_number false r e = stopped_never (sym e)

  -- a kind of number that the walk's refusals have and those of rules 1 to 12
  module _ (p : ℕ → Bool) (walk : (n : ℕ) → between 13 15 n ≡ true → p n ≡ true)
      (rows : (q : Refusal) → verdict (file_rows s) ≡ Err q → p (number_of q.rule) ≡ true) where
    judged_number : (v : Verdict) (r : Refusal) → verdict (file_rows s) ≡ v → decided v (extensions_of (layout_of s) s) stopped ≡ stopped r
        → p (number_of r.rule) ≡ true
    judged_number (Ok tt) r h e = walk (number_of r.rule) (list_number (has_extensions s) r e)
    judged_number (Err q) r h e = let z : q ≡ r = cc in rw (← z) (rows q h)

    number_by : (r : Refusal) → (reading_of s).verdict ≡ Err r → p (number_of r.rule) ≡ true
    unfolding reading_of judgement
    number_by r e = by (judgement s) refl e
      where
        by : (w : Walked) → judgement s ≡ w → (reading_by s w).verdict ≡ Err r → p (number_of r.rule) ≡ true
        by (listed xs) h d = refused_never (sym d)
        by (stopped q) h d = let z : q ≡ r = cc in rw (← z) (judged_number (verdict (file_rows s)) q refl h)

  pub reading_number : (r : Refusal) → (reading_of s).verdict ≡ Err r → between 1 15 (number_of r.rule) ≡ true
  reading_number r e =
      number_by (between 1 15) (λ n. between_wider 13 15 1 15 n refl)
      (λ q h. between_wider 1 12 1 15 (number_of q.rule) refl (verdict_number (between 1 12) (file_rows s) q refl h)) r e

  -- "12 remains only for lengths 349..351" (02-change-requests.md, P2): of a pair, so a single file never gets it
  other_rows : cut_extender (kind_of s) (length s) ≡ false → (q : Refusal) → verdict (file_rows s) ≡ Err q
      → not (eqb (number_of q.rule) 12) ≡ true
  unfolding verdict
  other_rows c q e =
      let eleven = row FileCut (cut_short (kind_of s) (length s) (image_of (shape_of s))) 108 in
      let others = head_rows s (length s) ++ (field_rows (shape_of s) (length s) ++ (eleven ∷ [])) in
      verdict_number (λ n. not (eqb n 12)) others q refl (rw c at e)

  pub reading_twelve : (r : Refusal) → (reading_of s).verdict ≡ Err r → number_of r.rule ≡ 12 → cut_extender (kind_of s) (length s) ≡ true
  reading_twelve r e n = by (cut_extender (kind_of s) (length s)) refl
    where
      walk : (m : ℕ) → between 13 15 m ≡ true → not (eqb m 12) ≡ true
      walk m h = let k = leb-true 13 m ((and-eq-true_iff (leb 13 m) (leb m 15)).0 h).0 in rw (ne_eqb m 12 (λ z. absurd (omega arith)))

      by : (t : Bool) → cut_extender (kind_of s) (length s) ≡ t → cut_extender (kind_of s) (length s) ≡ true
      by true c = c
      by false c = let z = number_by (λ m. not (eqb m 12)) walk (other_rows c) r e in absurd (false≢true (rw n at z))

-- What a call answers of a file, "1..15 first": its refusals have these numbers, and those that it gives by itself.
module _ {ℓ} {A : Type ℓ} {a : A} {f : Refusal → A} (p : ℕ → Bool) (s : List ℕ) (r : Refusal) where
  pub answered_number : ((n : ℕ) → between 1 15 n ≡ true → p n ≡ true) → ((q : Refusal) → f q ≡ f r → q ≡ r)
      → (IsAccepted s → a ≡ f r → p (number_of r.rule) ≡ true) → decided (reading_of s).verdict a f ≡ f r → p (number_of r.rule) ≡ true
  answered_number wider same own e = by (reading_of s).verdict refl e
    where
      by : (v : Verdict) → (reading_of s).verdict ≡ v → decided v a f ≡ f r → p (number_of r.rule) ≡ true
      by (Ok tt) h d = own h d
      by (Err q) h d = wider (number_of r.rule) (reading_number s r (h ∙ ap Err (same q d)))

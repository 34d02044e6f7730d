-- A file that was accepted under the base's rules is accepted with the same record, and every edit of it gives the same bytes as before.
-- A file that the base refused by another number than 12 is refused as before.
use Rattle.refusal.specs.declared.Rule.TheVariants.{FileCut, ExtenderCut, NoSuchExtension, NegativeCodeOffered, PrivateBytes, ListTooLong, ShortBuffer, LengthAboveBuffer}
use Rattle.std.specs.Prelude.{Ok, Err}
use Prim.Native.Nat.{ℕ}
use mathlib.Core.Path.{◌≡◌, refl, sym, ap, ◌∙◌}
use mathlib.Core.Bool.{Bool, true, false, not, cond, ◌&&◌, ◌||◌, or-false, or-true, true≢false}
use mathlib.Core.List.{List, [], ◌∷◌, ◌++◌}
use lib.Dec.{ltb}
use lib.IntN.{ℤ}
use lib.ListN.{length, take, drop}
use Rattle.field.specs.Numbers.{joined}
use Rattle.refusal.specs.declared.Refusal.{Refusal}
use Rattle.refusal.specs.Table.{Row, row, verdict, decided, then, Verdict, number_of, no_refusal}
use Rattle.refusal.proofs.Rows.{Clear, none, one, accepted_clear, clear_split, verdict-append, refused_never}
use Rattle.extension.specs.Walk.{first_place, Walked, listed, stopped, extensions_in, rest_of}
use Rattle.extension.specs.Pieces.{pieces}
use Rattle.rules.specs.Rules.{field_rows, image_of, cut_short}
use borrow.Author.Tests.{not-false}
use Rattle.rules.proofs.Passed.{neither}
use Rattle.number.specs.Same.{same_numbers}
use Rattle.number.proofs.Same.{same_is}
use Rattle.layout.specs.File.{order_of, kind_of, head_rows, shape_of, extender_of, says_some, has_extensions, reserved_of}
use Rattle.layout.specs.File.{base_none, base_some, cut_extender, file_rows, end_of}
use Rattle.reader.specs.declared.Reading.{Reading}
use Rattle.reader.specs.Reading.{judgement, reading_by, reading_of}
use Rattle.change.specs.declared.Change.{Change}
use Rattle.change.specs.declared.Change.TheVariants.{Append, Replace, Remove}
use Rattle.change.specs.Change.{missing_in, offers_negative}
use Rattle.edit_plan.specs.Fresh.{spans_in, extension_list, tail_of, exchange, out_from, out_to, brought_in, edited_list}
use Rattle.edit_plan.specs.Fresh.{first_byte_for, extender_for, end_for, head_for, fresh_file, fresh_of}
use Rattle.edit_plan.specs.Refusals.{enters_private, too_much, change_verdict}
use Rattle.edit.specs.Outcome.{fresh, refused, outcome_of}
use Rattle.base_extender.specs.Base.{base_extender, base_rows, base_walk, base_judgement, base_reading, base_list, base_edited}
use Rattle.base_extender.specs.Base.{base_extender_for, base_file, base_fresh, base_private, base_verdict, base_outcome}

-- ---- A file whose extender the base's test passes, accepted or not

-- its four bytes are 0,0,0,0 or 1,0,0,0: what both rules say of it, and what an edit writes
record Passes (f : List ℕ) : Type 0 where
  says : base_some f ≡ has_extensions f
  writes : (xs : List (List ℕ)) → extender_for f xs ≡ base_extender_for xs

passes_by : (f : List ℕ) (first : ℕ) → extender_of f ≡ first ∷ 0 ∷ 0 ∷ 0 ∷ []
    → same_numbers (first ∷ 0 ∷ 0 ∷ 0 ∷ []) (1 ∷ 0 ∷ 0 ∷ 0 ∷ []) ≡ says_some (first ∷ 0 ∷ 0 ∷ 0 ∷ []) → Passes f
unfolding has_extensions
passes_by f first e s =
    let r : reserved_of f ≡ 0 ∷ 0 ∷ 0 ∷ [] = ap (drop 1) e in
    record {
      says = ap (λ (x : List ℕ). same_numbers x (1 ∷ 0 ∷ 0 ∷ 0 ∷ [])) e ∙ s ∙ sym (ap says_some e);
      writes = λ xs. ap (λ (x : List ℕ). first_byte_for xs ∷ x) r ∙ by xs;
    }
  where
    by : (xs : List (List ℕ)) → first_byte_for xs ∷ 0 ∷ 0 ∷ 0 ∷ [] ≡ base_extender_for xs
    by [] = refl
    by (x ∷ xs) = refl

passes : (f : List ℕ) → base_extender f ≡ true → Passes f
passes f e = by (base_none f) refl e
  where
    by : (t : Bool) → base_none f ≡ t → (t || base_some f) ≡ true → Passes f
    by true n s = passes_by f 0 (same_is (extender_of f) (0 ∷ 0 ∷ 0 ∷ 0 ∷ []) n) refl
    by false n s = passes_by f 1 (same_is (extender_of f) (1 ∷ 0 ∷ 0 ∷ 0 ∷ []) s) refl

module _ (f : List ℕ) (e : base_extender f ≡ true) where
  rows_same : base_rows f ≡ file_rows f
  rows_same =
      let cut = cut_extender (kind_of f) (length f) in
      let twelve : (cut || not (base_extender f)) ≡ cut = ap (λ (t : Bool). cut || not t) e ∙ or-false cut in
      let eleven = row FileCut (cut_short (kind_of f) (length f) (image_of (shape_of f))) 108 in
      λ i. head_rows f (length f) ++ (field_rows (shape_of f) (length f) ++ (eleven ∷ row ExtenderCut (twelve i) 348 ∷ []))

  judged_same : base_judgement f ≡ judgement f
  unfolding judgement end_of
  judged_same = λ i. decided (verdict (rows_same i)) (cond ((passes f e).says i) (extensions_in (order_of f) (end_of f) f) (listed [])) stopped

  reads_same : base_reading f ≡ reading_of f
  unfolding base_reading reading_of
  reads_same = ap (reading_by f) judged_same

  list_same : base_list f ≡ extension_list f
  unfolding extension_list
  list_same = ap (λ (w : Walked). pieces (spans_in w) (rest_of f (end_of f) first_place)) judged_same

  module _ (change : Change) (code : ℤ) (p : List ℕ) where
    edited_same : base_edited f change code p ≡ edited_list f change code p
    unfolding edited_list
    edited_same =
        let new = brought_in (order_of f) change code p in
        ap (λ (xs : List (List ℕ)). exchange xs (out_from change (length xs)) (out_to change (length xs)) new) list_same

    fresh_same : base_fresh f change code p ≡ fresh_of f change code p
    unfolding fresh_file
    fresh_same =
        let zs = edited_list f change code p in
        let head = head_for (kind_of f) (order_of f) (end_for zs) (take 348 f) in
        ap (base_file f) edited_same ∙ ap (λ (x : List ℕ). head ++ (x ++ (joined zs ++ tail_of f))) (sym ((passes f e).writes zs))

    private_same : base_private change f ≡ enters_private change f
    private_same = by change
      where
        by : (c : Change) → base_private c f ≡ enters_private c f
        by Append = ap (λ (t : Bool). not t && ltb first_place (end_of f)) (passes f e).says
        by (Replace k) = refl
        by (Remove k) = refl

    verdict_same : (room : ℕ) → base_verdict f room change code p ≡ change_verdict f room change code p
    unfolding change_verdict
    verdict_same room =
        λ i. then (reads_same i).verdict
        (verdict
        (row NoSuchExtension (missing_in change (length (list_same i))) 0
        ∷ row NegativeCodeOffered (offers_negative change code) 0
        ∷ row PrivateBytes (private_same i) 0
        ∷ row ListTooLong (too_much (edited_same i)) 0
        ∷ row ShortBuffer (ltb room (length (fresh_same i))) 0
        ∷ []))

-- ---- What the base's verdict tells of the extender

-- rule 12's row, of a table that is clear
twelve_clear : (f : List ℕ) → Clear (base_rows f) → base_extender f ≡ true
twelve_clear f c =
    let a = clear_split (head_rows f (length f)) c in
    last (clear_split (field_rows (shape_of f) (length f)) a.1).1
  where
    last : {r : Row} → Clear (r ∷ row ExtenderCut (cut_extender (kind_of f) (length f) || not (base_extender f)) 348 ∷ []) → base_extender f ≡ true
    last (one r11 (one r12 none)) = not-false (base_extender f) (neither (cut_extender (kind_of f) (length f)) (not (base_extender f)) r12).1

accepted_extender : (f : List ℕ) → (base_reading f).verdict ≡ no_refusal → base_extender f ≡ true
unfolding base_reading
accepted_extender f a = by (verdict (base_rows f)) refl a
  where
    by : (v : Verdict) → verdict (base_rows f) ≡ v → (reading_by f (decided v (base_walk f) stopped)).verdict ≡ no_refusal → base_extender f ≡ true
    by (Ok tt) q d = twelve_clear f (accepted_clear (base_rows f) q)
    by (Err r) q d = refused_never d

-- ---- The theorems

-- "a file that was accepted under the base rules is accepted with the same record"
pub base_reads : (f : List ℕ) → (base_reading f).verdict ≡ no_refusal → reading_of f ≡ base_reading f
base_reads f a = sym (reads_same f (accepted_extender f a))

-- "and every edit of it gives the same bytes as before": the same outcome, which is a fresh file or a refusal
pub base_edits : (l : List ℕ) (len : ℕ) (change : Change) (code : ℤ) (p : List ℕ) → (base_reading (take len l)).verdict ≡ no_refusal
    → outcome_of l len change code p ≡ base_outcome l len change code p
unfolding outcome_of base_outcome
base_edits l len change code p a =
    let f = take len l in
    let e = accepted_extender f a in
    λ i. decided (then (verdict (row LengthAboveBuffer (ltb (length l) len) 0 ∷ [])) (sym (verdict_same f e change code p (length l)) i))
    (fresh (sym (fresh_same f e change code p) i)) refused

-- ---- What else stays

-- tables that begin alike refuse alike
then_alike : (a v w : Verdict) (r : Refusal) → (v ≡ Err r → w ≡ Err r) → then a v ≡ Err r → then a w ≡ Err r
then_alike (Ok tt) v w r h e = h e
then_alike (Err q) v w r h e = e

begin_alike : (rs qs ps : List Row) (r : Refusal) → (verdict qs ≡ Err r → verdict ps ≡ Err r) → verdict (rs ++ qs) ≡ Err r
    → verdict (rs ++ ps) ≡ Err r
begin_alike rs qs ps r h e =
    verdict-append rs ps ∙ then_alike (verdict rs) (verdict qs) (verdict ps) r h (sym (verdict-append rs qs) ∙ e)

module _ (f : List ℕ) (r : Refusal) (other : number_of r.rule ≡ 12 → ⊥) where
  -- rule 12's row by a test
  abbrev twelve : Bool → List Row
  twelve test = row ExtenderCut test 348 ∷ []

  abbrev cut : Bool
  cut = cut_extender (kind_of f) (length f)

  abbrev eleven : List Row
  eleven = row FileCut (cut_short (kind_of f) (length f) (image_of (shape_of f))) 108 ∷ []

  abbrev fields : List Row
  fields = field_rows (shape_of f) (length f)

  never_twelve : verdict (twelve true) ≡ Err r → verdict (twelve cut) ≡ Err r
  unfolding verdict
  never_twelve e = let n : number_of r.rule ≡ 12 = cc in absurd (other n)

  -- where the base's 12 holds, another number stood before it
  rows_keep : base_extender f ≡ false → verdict (base_rows f) ≡ Err r → verdict (file_rows f) ≡ Err r
  rows_keep e d =
      let t : (cut || not (base_extender f)) ≡ true = ap (λ (b : Bool). cut || not b) e ∙ or-true cut in
      let h : verdict (head_rows f (length f) ++ (fields ++ (eleven ++ twelve true))) ≡ Err r =
      sym (ap (λ (b : Bool). verdict (head_rows f (length f) ++ (fields ++ (eleven ++ twelve b)))) t) ∙ d in
      begin_alike (head_rows f (length f)) (fields ++ (eleven ++ twelve true)) (fields ++ (eleven ++ twelve cut)) r
      (begin_alike fields (eleven ++ twelve true) (eleven ++ twelve cut) r (begin_alike eleven (twelve true) (twelve cut) r never_twelve)) h

  refused_rows : base_extender f ≡ false → (base_reading f).verdict ≡ Err r → verdict (base_rows f) ≡ Err r
  unfolding base_reading
  refused_rows e d = by (verdict (base_rows f)) refl d
    where
      by : (v : Verdict) → verdict (base_rows f) ≡ v → (reading_by f (decided v (base_walk f) stopped)).verdict ≡ Err r
          → verdict (base_rows f) ≡ Err r
      by (Ok tt) q g = absurd (true≢false (sym (twelve_clear f (accepted_clear (base_rows f) q)) ∙ e))
      by (Err p) q g = q ∙ g

  -- a file that the base refused by another number than 12 is refused as before
  pub base_refuses : (base_reading f).verdict ≡ Err r → (reading_of f).verdict ≡ Err r
  unfolding reading_of judgement
  base_refuses d = by (base_extender f) refl
    where
      by : (t : Bool) → base_extender f ≡ t → (reading_of f).verdict ≡ Err r
      by true e = ap (λ (x : Reading). x.verdict) (sym (reads_same f e)) ∙ d
      by false e = rw (rows_keep e (refused_rows e d))

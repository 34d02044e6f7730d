-- The numbers of an edit's refusals. 01-scope.md: "24 comes first; only an edit gives it"; "an edit looks at no image file, so it never
-- gives 16". An append gives 24, 1 to 15 and 19 to 22; a replacement 24, 1 to 15, 18, 19, 21 and 22; a removal 24, 1 to 15 and 18.
use Rattle.refusal.specs.declared.Rule.TheVariants.{NoSuchExtension, NegativeCodeOffered, PrivateBytes, ListTooLong, ShortBuffer, LengthAboveBuffer}
use Rattle.std.specs.Prelude.{Err}
use Prim.Native.Nat.{ℕ, ◌≤◌}
use mathlib.Core.Path.{◌≡◌, refl, sym, ◌∙◌}
use mathlib.Core.Bool.{Bool, true, false, not, ◌||◌, false≢true}
use mathlib.Core.List.{List, [], ◌∷◌}
use native.Mathlib.Omega.{arith}
use borrow.Author.Tests.{eqb-true, ltb-true, ltb-false, not-false}
use lib.Dec.{eqb, ltb}
use lib.IntN.{ℤ}
use lib.ListN.{length, take, length-take}
use Rattle.refusal.specs.declared.Refusal.{Refusal}
use Rattle.refusal.specs.Table.{Verdict, row, refusal, verdict, number_of}
use Rattle.refusal.proofs.Rows.{between, verdict_number, decided-refused, refused_never}
use Rattle.reader.specs.Reading.{IsAccepted}
use Rattle.reader.proofs.Theorems.{answered_number}
use Rattle.change.specs.declared.Change.{Change}
use Rattle.change.specs.declared.Change.TheVariants.{Append, Replace, Remove}
use Rattle.change.specs.Change.{missing_in, offers_negative}
use Rattle.edit_plan.specs.Fresh.{edited_list, fresh_of}
use Rattle.edit_plan.specs.Refusals.{enters_private, too_much, change_rows, change_verdict}
use Rattle.edit_plan.proofs.Planning.{count_of}
use Rattle.edit.specs.Outcome.{refused, outcome_of}
use Rattle.edit.proofs.Outcomes.{outcome_24, outcome_is}
use Rattle.edit.proofs.Theorems.{fresh_never, removal_clear}

-- reading's numbers, 24, and an edit's own
abbrev pub edit_number : (ℕ → Bool) → ℕ → Bool
edit_number own n = between 1 15 n || eqb n 24 || own n

abbrev pub replace_own : ℕ → Bool
replace_own n = between 18 19 n || between 21 22 n

abbrev pub remove_own : ℕ → Bool
remove_own n = eqb n 18

last_true : (a b c : Bool) → c ≡ true → (a || b || c) ≡ true
last_true true b c e = refl
last_true false true c e = refl
last_true false false c e = e

verdict_same : (q r : Refusal) → ◌≡◌ {A = Verdict} (Err q) (Err r) → q ≡ r
verdict_same q r e = cc

module _ (l : List ℕ) (len : ℕ) (change : Change) (code : ℤ) (p : List ℕ) (r : Refusal) (own : ℕ → Bool) where
  edit_number_lem : (len ≤ length l → IsAccepted (take len l) → verdict (change_rows (take len l) (length l) change code p) ≡ Err r
      → own (number_of r.rule) ≡ true) → outcome_of l len change code p ≡ refused r → edit_number own (number_of r.rule) ≡ true
  unfolding change_verdict
  edit_number_lem given e = by (ltb (length l) len) refl
    where
      by : (t : Bool) → ltb (length l) len ≡ t → edit_number own (number_of r.rule) ≡ true
      by true h =
          let q : refusal LengthAboveBuffer 0 ≡ r = cc (sym (outcome_24 l len change code p (ltb-true (length l) len h)) ∙ e) in
          rw (← q)
      by false h =
          let inside = ltb-false (length l) len h in
          let v = change_verdict (take len l) (length l) change code p in
          let d = decided-refused v (λ x. fresh_never (sym x)) (sym (outcome_is l len change code p inside) ∙ e) in
          let s : v ≡ Err r = cc (d.1, d.2) in
          answered_number (edit_number own) (take len l) r (λ n b. rw b) (λ q. verdict_same q r)
          (λ a w. last_true (between 1 15 (number_of r.rule)) (eqb (number_of r.rule) 24) (own (number_of r.rule)) (given inside a w)) s

never_16 : (own : ℕ → Bool) (n : ℕ) → own 16 ≡ false → edit_number own n ≡ true → eqb n 16 ≡ false
never_16 own n o e = by (eqb n 16) refl
  where
    by : (t : Bool) → eqb n 16 ≡ t → eqb n 16 ≡ false
    by false h = h
    by true h = absurd (false≢true (sym o ∙ rw (eqb-true n 16 h) at e))

module _ (l : List ℕ) (len : ℕ) (code : ℤ) (p : List ℕ) (r : Refusal) where
  -- rows that an edit never gives are no rows of its table
  pub append-number : outcome_of l len Append code p ≡ refused r → edit_number (between 19 22) (number_of r.rule) ≡ true
  unfolding verdict
  append-number e = edit_number_lem l len Append code p r (between 19 22) own e
    where
      own : len ≤ length l → IsAccepted (take len l) → verdict (change_rows (take len l) (length l) Append code p) ≡ Err r
          → between 19 22 (number_of r.rule) ≡ true
      own h a v =
          let f = take len l in
          let rows = row NegativeCodeOffered (offers_negative Append code) 0
          ∷ row PrivateBytes (enters_private Append f) 0
          ∷ row ListTooLong (too_much (edited_list f Append code p)) 0
          ∷ row ShortBuffer (ltb (length l) (length (fresh_of f Append code p))) 0
          ∷ [] in
          verdict_number (between 19 22) rows r refl v

  pub replace_number : (k : ℕ) → outcome_of l len (Replace k) code p ≡ refused r → edit_number replace_own (number_of r.rule) ≡ true
  unfolding verdict
  replace_number k e = edit_number_lem l len (Replace k) code p r replace_own own e
    where
      own : len ≤ length l → IsAccepted (take len l) → verdict (change_rows (take len l) (length l) (Replace k) code p) ≡ Err r
          → replace_own (number_of r.rule) ≡ true
      own h a v =
          let f = take len l in
          let rows = row NoSuchExtension (missing_in (Replace k) (count_of f)) 0
          ∷ row NegativeCodeOffered (offers_negative (Replace k) code) 0
          ∷ row ListTooLong (too_much (edited_list f (Replace k) code p)) 0
          ∷ row ShortBuffer (ltb (length l) (length (fresh_of f (Replace k) code p))) 0
          ∷ [] in
          verdict_number replace_own rows r refl v

  pub remove_number : (k : ℕ) → outcome_of l len (Remove k) code p ≡ refused r → edit_number remove_own (number_of r.rule) ≡ true
  unfolding verdict
  remove_number k e = edit_number_lem l len (Remove k) code p r remove_own own e
    where
      own : len ≤ length l → IsAccepted (take len l) → verdict (change_rows (take len l) (length l) (Remove k) code p) ≡ Err r
          → remove_own (number_of r.rule) ≡ true
      own h a v = by (not (ltb k (count_of (take len l)))) refl
        where
          by : (t : Bool) → not (ltb k (count_of (take len l))) ≡ t → remove_own (number_of r.rule) ≡ true
          by true m = let q : refusal NoSuchExtension 0 ≡ r = verdict_same (refusal NoSuchExtension 0) r (rw m at v) in rw (← q)
          by false m =
              let b = ltb-true k (count_of (take len l)) (not-false (ltb k (count_of (take len l))) m) in
              refused_never (sym v ∙ removal_clear (take len l) (length l) k code p a (rw length-take (omega arith)) b)

  -- "it never gives 16"
  pub edit_never_16 : (change : Change) → outcome_of l len change code p ≡ refused r → eqb (number_of r.rule) 16 ≡ false
  edit_never_16 Append e = never_16 (between 19 22) (number_of r.rule) refl (append-number e)
  edit_never_16 (Replace k) e = never_16 replace_own (number_of r.rule) refl (replace_number k e)
  edit_never_16 (Remove k) e = never_16 remove_own (number_of r.rule) refl (remove_number k e)

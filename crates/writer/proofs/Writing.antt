-- What writing decides: the record's rules, its sizes and its aligned fact, then the buffer's length; 26 exactly when; and that the spans
-- play no part in it, nor those facts in the bytes.
use Rattle.refusal.specs.declared.Rule.TheVariants.{ShortBuffer, WrongRecord}
use Rattle.std.specs.Prelude.{Ok, Err}
use Prim.Native.Nat.{ℕ, ◌<◌, ◌≤◌}
use mathlib.Core.Path.{◌≡◌, refl, sym, ◌∙◌}
use mathlib.Core.Logic.{◌↔◌}
use mathlib.Core.Bool.{Bool, true, false, not, true≢false, false≢true}
use mathlib.Core.List.{List, [], ◌∷◌}
use native.Mathlib.Omega.{arith}
use borrow.Author.Tests.{lt-ltb, le-ltb, not-false}
use lib.Dec.{ltb, eqb}
use lib.ListN.{length}
use lib.Seq.{sets}
use Rattle.refusal.specs.declared.Refusal.{Refusal}
use Rattle.refusal.specs.Table.{Row, row, refusal, verdict, then, Verdict, no_refusal}
use Rattle.refusal.proofs.Rows.{Clear, accepted_clear, clear_accepted, verdict-append, verdict_number}
use Rattle.field.proofs.Stores.{sets_front}
use Rattle.extension.specs.declared.Span.{Span}
use Rattle.offset.specs.Offset.{aligned_of}
use Rattle.grid.specs.declared.Sizes.{Sizes}
use Rattle.header.specs.declared.Header.{Header}
use Rattle.header.specs.Fields.{with_spans, with_facts}
use Rattle.encode.specs.Encode.{encode}
use Rattle.encode.proofs.Widths.{length-encode}
use Rattle.rules.specs.declared.Image.{Image}
use Rattle.rules.specs.Rules.{sizes_of, wrong_sizes, wrong_fact, wrong_facts, record_rows, record_judged}
use Rattle.rules.proofs.Passed.{record_passed_is, record_failed_is, neither}
use Rattle.rules.proofs.Sizes.{sizes_same, sizes_self, fact_same, fact_self}
use Rattle.writer.specs.Write.{write_answer, written}

-- an answer and a content, as a call promises them
abbrev pub Writes : Header → List ℕ → Verdict → List ℕ → Type 0
Writes h l answer content = (answer ≡ write_answer h (length l)) × (content ≡ written h l)

-- the rows after the record's own
abbrev own_rows : Header → ℕ → List Row
own_rows h len = row WrongRecord (wrong_facts h) 0 ∷ row ShortBuffer (ltb len 348) 0 ∷ []

answer_parts : (h : Header) (len : ℕ) → write_answer h len ≡ then (verdict (record_rows h)) (verdict (own_rows h len))
unfolding write_answer
answer_parts h len = verdict-append (record_rows h) (own_rows h len)

module _ (h : Header) (l : List ℕ) where
  in_parts : write_answer h (length l) ≡ then (verdict (record_rows h)) (verdict (own_rows h (length l)))
  in_parts = answer_parts h (length l)

  kept : (r : Refusal) → write_answer h (length l) ≡ Err r → Writes h l (Err r) l
  unfolding written
  kept r e = (sym e, rw e)

  pub writes_failed : (r : Refusal) → record_judged h ≡ Err r → Writes h l (Err r) l
  writes_failed r e = kept r (in_parts ∙ rw (record_failed_is h r e))

  module _ (i : Image) (aligned : Bool) (e : record_judged h ≡ Ok (i, aligned)) where
    pub writes_26 : wrong_facts h ≡ true → Writes h l (Err (refusal WrongRecord 0)) l
    unfolding verdict
    writes_26 wrong = kept (refusal WrongRecord 0) (in_parts ∙ rw ((record_passed_is h i aligned e).0, wrong))

    module _ (right : wrong_facts h ≡ false) where
      pub writes_22 : length l < 348 → Writes h l (Err (refusal ShortBuffer 0)) l
      unfolding verdict
      writes_22 short = kept (refusal ShortBuffer 0) (in_parts ∙ rw ((record_passed_is h i aligned e).0, right, lt-ltb (length l) 348 short))

      pub writes_all : 348 ≤ length l → Writes h l no_refusal (sets l 0 (encode h))
      unfolding verdict written
      writes_all long =
          let a : write_answer h (length l) ≡ no_refusal = in_parts ∙ rw ((record_passed_is h i aligned e).0, right, le-ltb (length l) 348 long) in
          let n = length-encode h in
          let fits : length (encode h) ≤ length l = omega arith in
          (sym a, rw a (rw n at (sets_front (encode h) l fits)))

-- ---- P4: "the writer gives 26, after 10 and before 22, exactly when a stored size is wrong"; P6: "the writer's 26 is also given for a record
-- where this fact is wrong"

-- the record's sizes are those that its own dims and datatype give, and its aligned fact is what its own offset's reading says
abbrev pub Right : Header → Type 0
Right h = (h.sizes ≡ sizes_of h.dim h.intent.datatype) × (h.aligned ≡ aligned_of h.scale.vox_offset)

pub right_passes : (h : Header) → Right h → wrong_facts h ≡ false
right_passes h r = rw (r.0, r.1, sizes_self, fact_self)

passes_right : (h : Header) → wrong_facts h ≡ false → Right h
passes_right h e =
    let n = neither (wrong_sizes h) (wrong_fact h) e in (
      sizes_same h.sizes (sizes_of h.dim h.intent.datatype) (not-false _ n.0),
      fact_same h.aligned (aligned_of h.scale.vox_offset) (not-false _ n.1),
    )

wrong_is : (h : Header) → (wrong_facts h ≡ true) ↔ (Right h → ⊥)
wrong_is h = by (wrong_facts h) refl
  where
    by : (t : Bool) → wrong_facts h ≡ t → (wrong_facts h ≡ true) ↔ (Right h → ⊥)
    by true e = (λ _ right. true≢false (sym e ∙ right_passes h right), λ _. e)
    by false e = (λ d. absurd (true≢false (sym d ∙ e)), λ wrong. absurd (wrong (passes_right h e)))

module _ (h : Header) (len : ℕ) where
  gives_26 : Clear (record_rows h) → wrong_facts h ≡ true → write_answer h len ≡ Err (refusal WrongRecord 0)
  unfolding verdict
  gives_26 c wrong = answer_parts h len ∙ rw (clear_accepted c, wrong)

  -- the record's own rules have other numbers, and so has 22
  only_26 : write_answer h len ≡ Err (refusal WrongRecord 0) → Clear (record_rows h) × (wrong_facts h ≡ true)
  unfolding verdict
  only_26 e = by (verdict (record_rows h)) (wrong_facts h) refl refl (sym (answer_parts h len) ∙ e)
    where
      other : ℕ → Bool
      other n = not (eqb n 26)

      by : (v : Verdict) (t : Bool) → verdict (record_rows h) ≡ v → wrong_facts h ≡ t
          → then v (verdict (row WrongRecord t 0 ∷ row ShortBuffer (ltb len 348) 0 ∷ [])) ≡ Err (refusal WrongRecord 0) → Clear (record_rows h) × (wrong_facts h ≡ true)
      by (Err q) t a w d =
          let z : q ≡ refusal WrongRecord 0 = cc in
          absurd (false≢true (rw z at (verdict_number other (record_rows h) q refl a)))
      by (Ok tt) true a w d = (accepted_clear (record_rows h) a, w)
      by (Ok tt) false a w d = absurd (false≢true (verdict_number other (row ShortBuffer (ltb len 348) 0 ∷ []) (refusal WrongRecord 0) refl d))

  pub write_26 : (write_answer h len ≡ Err (refusal WrongRecord 0)) ↔ (Clear (record_rows h) × (Right h → ⊥))
  write_26 = (
    λ e. let p = only_26 e in (p.0, (wrong_is h).0 p.1),
    λ p. gives_26 p.0 ((wrong_is h).1 p.1),
  )

-- ---- What plays no part

-- "doesn't read the spans": records that differ in their count and spans alone are written alike
pub spans_unread : (h : Header) (count : ℕ) (spans : List Span) (l : List ℕ)
    → (write_answer (with_spans count spans h) (length l) ≡ write_answer h (length l)) × (written (with_spans count spans h) l ≡ written h l)
unfolding write_answer written encode
spans_unread h count spans l = (refl, refl)

-- P4: "The 348 written bytes are unchanged": those of two records that differ in their sizes and aligned fact alone are the same
pub facts_unwritten : (h : Header) (y z : Sizes) (a b : Bool) → encode (with_facts y a h) ≡ encode (with_facts z b h)
unfolding encode
facts_unwritten h y z a b = refl

-- `offset_of` by its cases: each answer from what holds of the bits, and back. Assumes nothing.
use Rattle.refusal.specs.declared.Rule.TheVariants.{OffsetNotWhole, OffsetOutside}
use Rattle.std.specs.Prelude.{Ok, Err, Result}
use Rattle.offset.specs.declared.Offset.TheVariants.{Aligned, Unaligned}
use Rattle.std.proofs.Common.{◌≡◌, ℕ, ◌%◌, ◌<◌, ◌≤◌, Bool, true, false, cond, not, ltb, [], ◌∷◌, refl, ap, subst, ltb-true, le-ltb, lt-ltb, eq-eqb, ne_eqb}
use Rattle.refusal.specs.declared.Refusal.{Refusal}
use Rattle.refusal.specs.Table.{row, refusal, verdict, decided}
use Rattle.offset.specs.declared.Offset.{Offset}
use Rattle.offset.specs.Offset.{offset_limit, is_whole, whole_of, multiple_of16, whole_case, offset_of, whole_in, says_aligned, aligned_of}

-- ---- from the bits to the answer

pub whole_answer : (bits n : ℕ) → is_whole bits ≡ true → whole_of bits ≡ n → n ≤ offset_limit → offset_of bits ≡ whole_case n
unfolding offset_of verdict
whole_answer bits n w v l = simp (w, v, le-ltb offset_limit n l)

pub large_answer : (bits : ℕ) → is_whole bits ≡ true → offset_limit < whole_of bits → offset_of bits ≡ Err (refusal OffsetOutside 108)
unfolding offset_of verdict
large_answer bits w l = simp (w, lt-ltb offset_limit (whole_of bits) l)

pub not_whole_answer : (bits : ℕ) → is_whole bits ≡ false → offset_of bits ≡ Err (refusal OffsetNotWhole 108)
unfolding offset_of verdict
not_whole_answer bits w = simp w

pub aligned_case : (n : ℕ) → n % 16 ≡ 0 → whole_case n ≡ Ok (Aligned n)
aligned_case n e = rw (eq-eqb (n % 16) 0 e)

pub unaligned_case : (n : ℕ) → (n % 16 ≡ 0 → ⊥) → whole_case n ≡ Ok (Unaligned n)
unaligned_case n e = rw (ne_eqb (n % 16) 0 e)

pub whole_in_case : (n : ℕ) → whole_in (whole_case n) ≡ n
whole_in_case n = by (multiple_of16 n)
  where
    by : (t : Bool) → whole_in (cond t (Ok (Aligned n)) (Ok (Unaligned n))) ≡ n
    by true = refl
    by false = refl

-- ---- from the answer to the bits

-- what an answer says of the tests and the number that it was chosen by
abbrev Says : Result Offset Refusal → Bool → Bool → ℕ → Bool → Type 0
Says (Ok (Aligned n)) p q v a = (p ≡ true) × (v ≡ n) × (a ≡ true)
Says (Ok (Unaligned n)) p q v a = (p ≡ true) × (v ≡ n) × (a ≡ false)
Says (Err r) true q v a = (q ≡ true) × (r ≡ refusal OffsetOutside 108)
Says (Err r) false q v a = r ≡ refusal OffsetNotWhole 108

says : (bits : ℕ) (o : Result Offset Refusal) → offset_of bits ≡ o → Says o (is_whole bits) (ltb offset_limit (whole_of bits)) (whole_of bits) (multiple_of16 (whole_of bits))
unfolding offset_of verdict
says bits o e =
    let p : Bool = is_whole bits in
    let v : ℕ = whole_of bits in
    let q : Bool = ltb offset_limit v in
    subst (λ (x : Result Offset Refusal). Says x p q v (multiple_of16 v)) e (go p q v (multiple_of16 v))
  where
    go : (p q : Bool) (v : ℕ) (a : Bool)
        → Says (decided (verdict (row OffsetNotWhole (not p) 108 ∷ row OffsetOutside q 108 ∷ [])) (cond a (Ok (Aligned v)) (Ok (Unaligned v))) Err) p q v a
    go true true v a = (refl, refl)
    go true false v true = (refl, refl, refl)
    go true false v false = (refl, refl, refl)
    go false q v a = refl

-- what is known of bits that are read as the whole number n
pub record Reads (bits n : ℕ) (aligned : Bool) : Type 0 where
  pub whole : is_whole bits ≡ true
  pub value : whole_of bits ≡ n
  pub fact : aligned_of bits ≡ aligned

pub aligned_reads : (bits n : ℕ) → offset_of bits ≡ Ok (Aligned n) → Reads bits n true
unfolding aligned_of
aligned_reads bits n e = let s = says bits (Ok (Aligned n)) e in record { whole = s.0; value = s.1; fact = ap says_aligned e }

pub unaligned_reads : (bits n : ℕ) → offset_of bits ≡ Ok (Unaligned n) → Reads bits n false
unfolding aligned_of
unaligned_reads bits n e = let s = says bits (Ok (Unaligned n)) e in record { whole = s.0; value = s.1; fact = ap says_aligned e }

-- a whole number
pub known_reads : (bits : ℕ) (o : Offset) → offset_of bits ≡ Ok o → Reads bits (whole_in (Ok o)) (says_aligned (Ok o))
known_reads bits (Aligned n) e = aligned_reads bits n e
known_reads bits (Unaligned n) e = unaligned_reads bits n e

-- an answer that is no refusal
pub whole_reads : (bits : ℕ) (o : Result Offset Refusal) → offset_of bits ≡ o → ((r : Refusal) → o ≡ Err r → ⊥) → Reads bits (whole_in o) (says_aligned o)
whole_reads bits (Ok o) e never = known_reads bits o e
whole_reads bits (Err r) e never = absurd (never r refl)

-- bits that are refused are, by 8 or by 9
pub refused_by {ℓ} : {A : Type ℓ} (bits : ℕ) (r : Refusal) → offset_of bits ≡ Err r
    → (is_whole bits ≡ false → r ≡ refusal OffsetNotWhole 108 → A)
    → (is_whole bits ≡ true → offset_limit < whole_of bits → r ≡ refusal OffsetOutside 108 → A) → A
refused_by {A = A} bits r e eight nine = by (is_whole bits) refl (says bits (Err r) e)
  where
    by : (p : Bool) → is_whole bits ≡ p → Says (Err r) p (ltb offset_limit (whole_of bits)) (whole_of bits) (multiple_of16 (whole_of bits)) → A
    by true w s = nine w (ltb-true offset_limit (whole_of bits) s.0) s.1
    by false w s = eight w s

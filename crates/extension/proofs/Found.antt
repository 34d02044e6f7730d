-- What `found_by` comes to at each outcome of its tests, and what holds where `found` finds an extension or the end.
use Rattle.refusal.specs.declared.Rule.TheVariants.{WrongSize, NegativeCode, TooManyExtensions}
use Prim.Native.Nat.{ℕ, ◌+◌, ◌<◌, ◌≤◌}
use mathlib.Core.Path.{◌≡◌, refl}
use mathlib.Core.Bool.{Bool, true, false, cond, not}
use mathlib.Core.List.{List, [], ◌∷◌}
use native.Mathlib.Omega.{arith}
use borrow.Author.Tests.{eq-eqb, ne_eqb, eqb-true, eqb-false, le-leb, lt-leb, leb-false, not-false}
use lib.Dec.{leb, eqb}
use lib.IntN.{ℤ, pos}
use lib.ListN.{length}
use lib.Signed.{lt_z}
use Rattle.field.specs.declared.Order.{Order}
use Rattle.field.specs.Numbers.{i32_at}
use Rattle.refusal.specs.Table.{row, refusal, verdict, decided}
use Rattle.extension.specs.declared.Span.{Span}
use Rattle.extension.specs.Walk.{extension_limit, size_rule, span, Found, extension, ended, refused, found_by, found}
use Rattle.extension.proofs.Signs.{Ruled, ruled, rule_short}

module _ (before at n : ℕ) (size code : ℤ) where
  pub found_none : n ≡ 0 → before ≡ 0 → found_by before at n size code ≡ refused (refusal WrongSize at)
  found_none e f = rw (eq-eqb n 0 e, eq-eqb before 0 f)

  pub found_ended : n ≡ 0 → (before ≡ 0 → ⊥) → found_by before at n size code ≡ ended
  found_ended e f = rw (eq-eqb n 0 e, ne_eqb before 0 f)

  module _ (some : 0 < n) where
    pub found_limit : extension_limit ≤ before → found_by before at n size code ≡ refused (refusal TooManyExtensions at)
    unfolding verdict
    found_limit h = rw (ne_eqb n 0 (omega arith), le-leb extension_limit before h)

    module _ (more : before < extension_limit) where
      pub found_size : size_rule size n ≡ false → found_by before at n size code ≡ refused (refusal WrongSize at)
      unfolding verdict
      found_size s = rw (ne_eqb n 0 (omega arith), lt-leb extension_limit before more, s)

      pub found_code : size_rule size n ≡ true → lt_z code (pos 0) ≡ true → found_by before at n size code ≡ refused (refusal NegativeCode (at + 4))
      unfolding verdict
      found_code s c = rw (ne_eqb n 0 (omega arith), lt-leb extension_limit before more, s, c)

      pub found_extension : size_rule size n ≡ true → lt_z code (pos 0) ≡ false → found_by before at n size code ≡ extension (span at size code)
      unfolding verdict
      found_extension s c = rw (ne_eqb n 0 (omega arith), lt-leb extension_limit before more, s, c)

-- `found_by` with any answers to its five tests
abbrev outcome : Bool → Bool → Bool → Bool → Bool → ℕ → Span → Found
outcome t₁ t₂ t₃ t₄ t₅ p y =
    cond t₁ (cond t₂ (refused (refusal WrongSize p)) ended)
    (decided (verdict (row TooManyExtensions t₃ p ∷ row WrongSize t₄ p ∷ row NegativeCode t₅ (p + 4) ∷ [])) (extension y) refused)

-- where the size rule is broken, nothing hangs on the code
short_by : (t₁ t₂ t₃ t₅ s₅ : Bool) (p : ℕ) (y z : Span) → outcome t₁ t₂ t₃ true t₅ p y ≡ outcome t₁ t₂ t₃ true s₅ p z
unfolding verdict
short_by true t₂ t₃ t₅ s₅ p y z = refl
short_by false t₂ true t₅ s₅ p y z = refl
short_by false t₂ false t₅ s₅ p y z = refl

-- and fewer than 16 bytes break it with any size
pub found_short : (before at n : ℕ) (size code size' code' : ℤ) → n < 16 → found_by before at n size code ≡ found_by before at n size' code'
found_short before at n size code size' code' h =
    rw (rule_short size n h, rule_short size' n h)
    (short_by (eqb n 0) (eqb before 0) (leb extension_limit before) (lt_z code (pos 0)) (lt_z code' (pos 0)) at (span at size code) (span at size' code'))

-- the one way through the tests to an extension
tests : (t₁ t₂ t₃ t₄ t₅ : Bool) (p : ℕ) (y x : Span) → outcome t₁ t₂ t₃ t₄ t₅ p y ≡ extension x
    → (t₃ ≡ false) × (t₄ ≡ false) × (t₅ ≡ false) × (y ≡ x)
unfolding verdict
tests false t₂ false false false p y x e = (refl, refl, refl, (cc))
tests true true t₃ t₄ t₅ p y x e = (cc, (cc), (cc), (cc))
tests true false t₃ t₄ t₅ p y x e = (cc, (cc), (cc), (cc))
tests false t₂ true t₄ t₅ p y x e = (cc, (cc), (cc), (cc))
tests false t₂ false true t₅ p y x e = (cc, (cc), (cc), (cc))
tests false t₂ false false true p y x e = (cc, (cc), (cc), (cc))

-- the one way to the end
end_tests : (t₁ t₂ t₃ t₄ t₅ : Bool) (p : ℕ) (y : Span) → outcome t₁ t₂ t₃ t₄ t₅ p y ≡ ended → (t₁ ≡ true) × (t₂ ≡ false)
unfolding verdict
end_tests true false t₃ t₄ t₅ p y e = (refl, refl)
end_tests true true t₃ t₄ t₅ p y e = (cc, (cc))
end_tests false t₂ true t₄ t₅ p y e = (cc, (cc))
end_tests false t₂ false true t₅ p y e = (cc, (cc))
end_tests false t₂ false false true p y e = (cc, (cc))
end_tests false t₂ false false false p y e = (cc, (cc))

-- what holds where an extension is found
pub record TakenBy (before at n : ℕ) (s c : ℤ) (x : Span) : Type 0 where
  pub more : before < extension_limit
  pub span : x ≡ span at s c
  pub size : Ruled x.size n
  pub code : lt_z x.code (pos 0) ≡ false

module _ (before at n : ℕ) (size code : ℤ) where
  pub taken_by : (x : Span) → found_by before at n size code ≡ extension x → TakenBy before at n size code x
  taken_by x e =
      let t = tests (eqb n 0) (eqb before 0) (leb extension_limit before) (not (size_rule size n)) (lt_z code (pos 0)) at (span at size code) x e in
      let r = ruled size n (not-false (size_rule size n) t.1) in
      rw (← t.3) record { more = leb-false extension_limit before t.0; span = refl; size = r; code = t.2 }

  ended_by_lem : found_by before at n size code ≡ ended → (n ≡ 0) × (before ≡ 0 → ⊥)
  ended_by_lem e =
      let t = end_tests (eqb n 0) (eqb before 0) (leb extension_limit before) (not (size_rule size n)) (lt_z code (pos 0)) at (span at size code) e in
      (eqb-true n 0 t.0, eqb-false before 0 t.1)

-- the same of a region's bytes
module _ (order : Order) (before at : ℕ) (rest : List ℕ) where
  abbrev pub Taken : Span → Type 0
  Taken x = TakenBy before at (length rest) (i32_at order rest 0) (i32_at order rest 4) x

  pub taken : (x : Span) → found order before at rest ≡ extension x → Taken x
  unfolding found
  taken x e = taken_by before at (length rest) (i32_at order rest 0) (i32_at order rest 4) x e

  pub at_end : found order before at rest ≡ ended → (length rest ≡ 0) × (before ≡ 0 → ⊥)
  unfolding found
  at_end e = ended_by_lem before at (length rest) (i32_at order rest 0) (i32_at order rest 4) e

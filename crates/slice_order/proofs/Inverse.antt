-- The o of a rank: for each rank below n there is exactly one o below n that has it, by ALT, by ALT2 and so by any code. n is any number, even
-- or odd.
use mathlib.Core.Path.{◌≡◌, refl, sym, ◌∙◌}
use mathlib.Core.Bool.{Bool, true, false, cond}
use Prim.Native.Nat.{ℕ, zero, suc, ◌+◌, ◌-◌, ◌*◌, ◌/◌, ◌%◌, ◌≤◌, ◌<◌}
use native.Mathlib.Omega.{arith}
use lib.Dec.{leb, ltb, eqb}
use borrow.Author.Tests.{eq-eqb, ne_eqb, eqb-true, eqb-false, ltb-true, ltb-false}
use Rattle.slices.specs.Ranks.{alt_rank, alt2_rank, parity_rank, rank_of}
use Rattle.slice_order.specs.EachOnce.{ExactlyOne}

-- ---- the o of a rank, by the parity of the o that come first
pub among_firsts : (first n r : ℕ) → first < 2 → r < (n + 1 - first) / 2 → let o = 2 * r + first in (o < n) × (parity_rank first n o ≡ r)
unfolding alt_rank alt2_rank
among_firsts zero n r l h = (omega arith, rw (eq-eqb ((2 * r + 0) % 2) 0 (omega arith)) (omega arith))
among_firsts (suc zero) n r l h = (omega arith, rw (eq-eqb ((2 * r + 1) % 2) 1 (omega arith)) (omega arith))
among_firsts (suc (suc k)) n r l h = absurd (omega arith)

pub behind_firsts : (first n r : ℕ) → first < 2 → r < n → (n + 1 - first) / 2 ≤ r
    → let o = 2 * (r - (n + 1 - first) / 2) + 1 - first in (o < n) × (parity_rank first n o ≡ r)
unfolding alt_rank alt2_rank
behind_firsts zero n r l h k =
    (omega arith, rw (ne_eqb ((2 * (r - (n + 1 - 0) / 2) + 1 - 0) % 2) 0 (λ q. omega arith)) (omega arith))
behind_firsts (suc zero) n r l h k =
    (omega arith, rw (ne_eqb ((2 * (r - (n + 1 - 1) / 2) + 1 - 1) % 2) 1 (λ q. omega arith)) (omega arith))
behind_firsts (suc (suc j)) n r l h k = absurd (omega arith)

-- ---- no two o have the same rank
alt_same : (n o p : ℕ) → o < n → p < n → alt_rank n o ≡ alt_rank n p → o ≡ p
unfolding alt_rank
alt_same n o p h k = go (eqb (o % 2) 0) (eqb (p % 2) 0) refl refl
  where
    go : (a b : Bool) → eqb (o % 2) 0 ≡ a → eqb (p % 2) 0 ≡ b
        → cond a (o / 2) ((n + 1) / 2 + (o - 1) / 2) ≡ cond b (p / 2) ((n + 1) / 2 + (p - 1) / 2) → o ≡ p
    go true true a b e = omega (arith, eqb-true (o % 2) 0 a, eqb-true (p % 2) 0 b)
    go true false a b e = omega (arith, eqb-true (o % 2) 0 a, eqb-false (p % 2) 0 b)
    go false true a b e = omega (arith, eqb-false (o % 2) 0 a, eqb-true (p % 2) 0 b)
    go false false a b e = omega (arith, eqb-false (o % 2) 0 a, eqb-false (p % 2) 0 b)

alt2_same : (n o p : ℕ) → o < n → p < n → alt2_rank n o ≡ alt2_rank n p → o ≡ p
unfolding alt2_rank
alt2_same n o p h k = go (eqb (o % 2) 1) (eqb (p % 2) 1) refl refl
  where
    go : (a b : Bool) → eqb (o % 2) 1 ≡ a → eqb (p % 2) 1 ≡ b
        → cond a ((o - 1) / 2) (n / 2 + o / 2) ≡ cond b ((p - 1) / 2) (n / 2 + p / 2) → o ≡ p
    go true true a b e = omega (arith, eqb-true (o % 2) 1 a, eqb-true (p % 2) 1 b)
    go true false a b e = omega (arith, eqb-true (o % 2) 1 a, eqb-false (p % 2) 1 b)
    go false true a b e = omega (arith, eqb-false (o % 2) 1 a, eqb-true (p % 2) 1 b)
    go false false a b e = omega (arith, eqb-false (o % 2) 1 a, eqb-false (p % 2) 1 b)

parity_same : (first n o p : ℕ) → first < 2 → o < n → p < n → parity_rank first n o ≡ parity_rank first n p → o ≡ p
parity_same zero n o p l = alt_same n o p
parity_same (suc zero) n o p l = alt2_same n o p
parity_same (suc (suc k)) n o p l = absurd (omega arith)

-- ---- any code
-- an o that has the rank is the only one, where no two below n have the same rank
by_same : (n r : ℕ) (rank : ℕ → ℕ) → ((o p : ℕ) → o < n → p < n → rank o ≡ rank p → o ≡ p)
    → (o : ℕ) → (o < n) × (rank o ≡ r) → ExactlyOne (λ x. x < n) rank r
by_same n r rank same o p = record { one = o; among = p.0; has = p.1; only = λ x h e. same x o h p.0 (e ∙ sym p.1) }

module _ (n r : ℕ) (inside : r < n) where
  parity_one : (first : ℕ) → first < 2 → ExactlyOne (λ o. o < n) (parity_rank first n) r
  parity_one first l = go (ltb r ((n + 1 - first) / 2)) refl
    where
      go : (t : Bool) → ltb r ((n + 1 - first) / 2) ≡ t → ExactlyOne (λ o. o < n) (parity_rank first n) r
      go true e = by_same n r (parity_rank first n) (λ o p. parity_same first n o p l) _ (among_firsts first n r l (ltb-true _ _ e))
      go false e = by_same n r (parity_rank first n) (λ o p. parity_same first n o p l) _ (behind_firsts first n r l inside (ltb-false _ _ e))

  -- the six codes are one case analysis: SEQ, ALT and ALT2
  pub rule_one : (code : ℕ) → ExactlyOne (λ o. o < n) (rank_of code n) r
  unfolding rank_of
  rule_one code = go (leb code 2) (leb code 4)
    where
      go : (p q : Bool) → ExactlyOne (λ o. o < n) (λ o. cond p o (cond q (alt_rank n o) (alt2_rank n o))) r
      go true q = record { one = r; among = inside; has = refl; only = λ x h e. e }
      go false true = parity_one 0 (omega arith)
      go false false = parity_one 1 (omega arith)

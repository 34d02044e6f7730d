-- The mirror law, once over the three pairs of codes and over N: "a slice's rank under one is the rank under the other of the slice at
-- start + end - s" (02-change-requests.md, P8).
use mathlib.Core.Path.{◌≡◌, refl, sym, ap, ◌∙◌}
use mathlib.Core.Bool.{Bool, true, false, cond}
use mathlib.Core.List.{[], ◌∷◌, map}
use Prim.Native.Nat.{ℕ, ◌+◌, ◌-◌, ◌*◌, ◌/◌, ◌%◌, ◌≤◌}
use native.Mathlib.Omega.{arith}
use lib.Dec.{leb, eqb}
use borrow.Author.Tests.{eq-eqb, ne_eqb, eqb-true, eqb-false, leb-true, leb-false, le-leb, lt-leb}
use Rattle.slices.specs.Ranks.{count_of, order_in, alt_rank, alt2_rank, rank_of, rank_in}
use Rattle.slice_order.specs.EachOnce.{Between}
use Rattle.slice_order.specs.Slices.{mirror_code}

-- INC and DEC of SEQ, of ALT and of ALT2
pub pairs : map mirror_code (1 ∷ 2 ∷ 3 ∷ 4 ∷ 5 ∷ 6 ∷ []) ≡ 2 ∷ 1 ∷ 4 ∷ 3 ∷ 6 ∷ 5 ∷ []
pairs = refl

-- a test against an even number does not tell the codes of a pair apart
leb_pair : (a b k : ℕ) → (a + 1) / 2 ≡ (b + 1) / 2 → leb a (2 * k) ≡ leb b (2 * k)
leb_pair a b k e = go (leb a (2 * k)) refl
  where
    go : (t : Bool) → leb a (2 * k) ≡ t → t ≡ leb b (2 * k)
    go true q = let l = leb-true a (2 * k) q in sym (le-leb b (2 * k) (omega arith))
    go false q = let l = leb-false a (2 * k) q in sym (lt-leb b (2 * k) (omega arith))

-- so both have the same rule
rule_pair : (a b n o : ℕ) → (a + 1) / 2 ≡ (b + 1) / 2 → rank_of a n o ≡ rank_of b n o
unfolding rank_of
rule_pair a b n o e = λ i. cond (leb_pair a b 1 e i) o (cond (leb_pair a b 2 e i) (alt_rank n o) (alt2_rank n o))

pub mirror : (code start end s : ℕ) → 1 ≤ code → Between start end s
    → rank_in code start end s ≡ rank_in (mirror_code code) start end (start + end - s)
unfolding order_in
mirror code start end s c h = go (eqb (code % 2) 1) refl
  where
    go : (t : Bool) → eqb (code % 2) 1 ≡ t
        → rank_of code (count_of start end) (cond t (s - start) (end - s))
        ≡ rank_in (cond t (code + 1) (code - 1)) start end (start + end - s)
    go true e =
        let odd = eqb-true (code % 2) 1 e in
        let o : s - start ≡ end - (start + end - s) = omega (arith, h) in
        rw (ne_eqb ((code + 1) % 2) 1 (λ q. omega arith))
        (rule_pair code (code + 1) _ (s - start) (omega arith) ∙ ap (rank_of (code + 1) (count_of start end)) o)
    go false e =
        let even = eqb-false (code % 2) 1 e in
        let o : end - s ≡ start + end - s - start = omega (arith, h) in
        rw (eq-eqb ((code - 1) % 2) 1 (omega arith))
        (rule_pair code (code - 1) _ (end - s) (omega arith) ∙ ap (rank_of (code - 1) (count_of start end)) o)

-- Every acquired slice has its turn (02-change-requests.md, P8): "the rule's ranks of slices slice_start to slice_end are the numbers 0 to N-1,
-- each once", by any code and for any N, even or odd; and the slice that is found from a rank is the one that has it.
use mathlib.Core.Path.{◌≡◌, refl, sym, ap, ◌∙◌}
use mathlib.Core.Bool.{Bool, true, false, cond}
use Prim.Native.Nat.{ℕ, zero, suc, ◌+◌, ◌-◌, ◌%◌, ◌≤◌, ◌<◌}
use native.Mathlib.Omega.{arith}
use lib.Dec.{eqb}
use borrow.Author.Tests.{eqb-true, eqb-false}
use Rattle.slices.specs.Ranks.{count_of, order_in, rank_of, rank_in}
use Rattle.slices.proofs.RankLaws.{order_below, rank_below}
use Rattle.slice_order.specs.EachOnce.{ExactlyOne, EachOnce, Between}
use Rattle.slice_order.specs.Slices.{first_with, slice_with}
use Rattle.slice_order.proofs.Inverse.{rule_one}

-- the one slice that has a rank is the first that has it
first_with_lem : (rank : ℕ → ℕ) (r t : ℕ) → rank t ≡ r → (n s : ℕ) → s ≤ t → t < s + n
    → ((x : ℕ) → s ≤ x → x < s + n → rank x ≡ r → x ≡ t) → first_with rank r s n ≡ t
unfolding first_with
first_with_lem rank r t has zero s h k only = absurd (omega arith)
first_with_lem rank r t has (suc n) s h k only =
    go (eqb (rank s) r) (eqb s t) refl refl
    (λ l. first_with_lem rank r t has n (suc s) l (omega arith) (λ x a b e. only x (omega arith) (omega arith) e))
  where
    go : (p q : Bool) → eqb (rank s) r ≡ p → eqb s t ≡ q → (suc s ≤ t → first_with rank r (suc s) n ≡ t)
        → cond p s (first_with rank r (suc s) n) ≡ t
    go true q a b rest = only s (omega arith) (omega arith) (eqb-true _ _ a)
    go false true a b rest = absurd (eqb-false (rank s) r a (ap rank (eqb-true s t b) ∙ has))
    go false false a b rest = let l = eqb-false s t b in rest (omega arith)

module _ (code start end : ℕ) (ordered : start ≤ end) where
  -- each o below N is that of exactly one slice
  order_one : (o : ℕ) → o < count_of start end → ExactlyOne (Between start end) (order_in code start end) o
  unfolding order_in
  order_one o h = go (eqb (code % 2) 1)
    where
      go : (t : Bool) → ExactlyOne (Between start end) (λ s. cond t (s - start) (end - s)) o
      go true = record { one = start + o; among = (omega arith, omega arith); has = omega arith; only = λ x k e. omega (arith, k, e) }
      go false = record { one = end - o; among = (omega arith, omega arith); has = omega arith; only = λ x k e. omega (arith, k, e) }

  pub each_once : EachOnce (Between start end) (rank_in code start end) (count_of start end)
  each_once = record { below = λ s k. rank_below code start end s k.0 k.1; once = once }
    where
      once : (r : ℕ) → r < count_of start end → ExactlyOne (Between start end) (rank_in code start end) r
      once r h =
          let o = rule_one (count_of start end) r h code in
          let s = order_one o.one o.among in
          record {
            one = s.one;
            among = s.among;
            has = ap (rank_of code (count_of start end)) s.has ∙ o.has;
            only = λ x k e. s.only x k (o.only (order_in code start end x) (order_below code start end x k.0 k.1) e);
          }

  -- a slice that has the rank is the one that is found
  pub slice_found : (s r : ℕ) → Between start end s → rank_in code start end s ≡ r → slice_with code start end r ≡ s
  slice_found s r k e =
      let one = each_once.once r (rw (← e) (rank_below code start end s k.0 k.1)) in
      first_with_lem (rank_in code start end) r s e (count_of start end) start k.0 (omega (arith, k.1))
      (λ x a b q. one.only x (a, omega arith) q ∙ sym (one.only s k e))

  -- and of a rank below N the slice that is found has it
  pub rank_found : (r : ℕ) → r < count_of start end
      → let s = slice_with code start end r in Between start end s × (rank_in code start end s ≡ r)
  rank_found r h =
      let one = each_once.once r h in
      rw (slice_found one.one r one.among one.has) (one.among, one.has)

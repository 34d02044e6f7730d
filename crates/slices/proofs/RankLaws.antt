-- Every rank is below the number of slices, whatever the code. Assumes nothing.
use mathlib.Core.Path.{◌≡◌, refl}
use mathlib.Core.Bool.{Bool, true, false, cond}
use Prim.Native.Nat.{ℕ, ◌+◌, ◌-◌, ◌/◌, ◌%◌, ◌≤◌, ◌<◌}
use native.Mathlib.Omega.{arith}
use lib.Dec.{leb, eqb}
use borrow.Author.Tests.{eqb-false}
use Rattle.slices.specs.Ranks.{count_of, order_in, alt_rank, alt2_rank, rank_of, rank_in}

pub order_below : (code start end s : ℕ) → start ≤ s → s ≤ end → order_in code start end s < count_of start end
unfolding order_in
order_below code start end s h k = go (eqb (code % 2) 1)
  where
    go : (t : Bool) → cond t (s - start) (end - s) < count_of start end
    go true = omega arith
    go false = omega arith

alt_below : (n o : ℕ) → o < n → alt_rank n o < n
unfolding alt_rank
alt_below n o h = go (eqb (o % 2) 0) refl
  where
    go : (t : Bool) → eqb (o % 2) 0 ≡ t → cond t (o / 2) ((n + 1) / 2 + (o - 1) / 2) < n
    go true e = omega arith
    go false e = omega (arith, eqb-false (o % 2) 0 e)

alt2_below : (n o : ℕ) → o < n → alt2_rank n o < n
unfolding alt2_rank
alt2_below n o h = go (eqb (o % 2) 1) refl
  where
    go : (t : Bool) → eqb (o % 2) 1 ≡ t → cond t ((o - 1) / 2) (n / 2 + o / 2) < n
    go true e = omega arith
    go false e = omega (arith, eqb-false (o % 2) 1 e)

rule_below : (code n o : ℕ) → o < n → rank_of code n o < n
unfolding rank_of
rule_below code n o h = go (leb code 2) (leb code 4)
  where
    go : (p q : Bool) → cond p o (cond q (alt_rank n o) (alt2_rank n o)) < n
    go true q = h
    go false true = alt_below n o h
    go false false = alt2_below n o h

pub rank_below : (code start end s : ℕ) → start ≤ s → s ≤ end → rank_in code start end s < count_of start end
rank_below code start end s h k = rule_below code (count_of start end) (order_in code start end s) (order_below code start end s h k)

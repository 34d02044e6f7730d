-- P8 of the fields that state timing (02-change-requests.md): the ranks of slice_start to slice_end are the numbers 0 to N-1, each once; a slice
-- comes back from its rank and a rank from its slice, whether or not its time is infinite; and the mirror law. The crate slice_position has
-- the same of files.
use Rattle.refusal.specs.declared.Rule.TheVariants.{IndexOutside}
use Rattle.std.specs.Prelude.{Ok, Err, Some, None}
use Rattle.timing.specs.declared.Slice.TheVariants.{Timed}
use mathlib.Core.Path.{◌≡◌, refl, sym, ap, ◌∙◌}
use mathlib.Core.Bool.{Bool, true, false, cond, not, ◌||◌}
use Prim.Native.Nat.{ℕ, ◌+◌, ◌-◌, ◌≤◌, ◌<◌}
use native.Mathlib.Nat.{le_of_lt}
use native.Mathlib.Omega.{arith}
use borrow.Author.Tests.{leb-false, le-leb, lt-leb, le-ltb}
use lib.Dec.{leb, ltb, eqb}
use lib.Ieee.{Float}
use Rattle.refusal.specs.declared.Refusal.{Refusal}
use Rattle.refusal.specs.Table.{refusal, number_of}
use Rattle.slices.specs.Ranks.{rank_in}
use Rattle.slices.specs.Times.{time_of}
use Rattle.slice_order.specs.EachOnce.{EachOnce, Between}
use Rattle.slice_order.specs.Slices.{mirror_code}
use Rattle.slice_order.proofs.Theorems.{each_once, slice_found, rank_found}
use Rattle.slice_order.proofs.Mirror.{mirror}
use Rattle.timing.specs.declared.Acquisition.{Acquisition}
use Rattle.timing.specs.Slices.{is_stated, first_slice, last_slice, rank_at, slice_by, timed_by}
use Rattle.timing.proofs.Answers.{stated_has, slice_acquired}
use Rattle.timing.proofs.Theorems.{timed_is}
use Rattle.slice_rank.specs.Ranked.{acquired_count, slice_of_rank, ranked_by}

-- the slices slice_start to slice_end
abbrev pub Acquired : Acquisition → ℕ → Type 0
Acquired a = Between (first_slice a) (last_slice a)

-- ---- where timing is stated
module _ (a : Acquisition) (stated : is_stated a ≡ true) where
  ordered : first_slice a ≤ last_slice a
  ordered = le_of_lt (stated_has a stated).several

  -- at least two slices were acquired
  pub several_acquired : 2 ≤ acquired_count a
  several_acquired = omega (arith, (stated_has a stated).several)

  -- "the rule's ranks of slices slice_start to slice_end are the numbers 0 to N-1, each once"
  pub ranks_each_once : EachOnce (Acquired a) (rank_at a) (acquired_count a)
  ranks_each_once = each_once a.slice_code (first_slice a) (last_slice a) ordered

  -- a rank of N or more is refused, and one below is answered
  pub rank_outside : (r : ℕ) → acquired_count a ≤ r → ranked_by a r ≡ Err (refusal IndexOutside 0)
  unfolding ranked_by
  rank_outside r o = simp (stated, le-leb (acquired_count a) r o)

  pub rank_inside : (r : ℕ) → r < acquired_count a → ranked_by a r ≡ Ok (Some (slice_of_rank a r))
  unfolding ranked_by
  rank_inside r l = simp (stated, lt-leb (acquired_count a) r l)

  -- a slice comes back from its rank
  pub slice_again : (s : ℕ) → Acquired a s → ranked_by a (rank_at a s) ≡ Ok (Some s)
  slice_again s k =
      rank_inside (rank_at a s) (ranks_each_once.below s k)
      ∙ ap (λ (x : ℕ). Ok (Some x)) (slice_found a.slice_code (first_slice a) (last_slice a) ordered s (rank_at a s) k refl)

  -- "a slice's rank under one is the rank under the other of the slice at start + end - s"
  pub ranks_mirror : (b : Acquisition)
      → first_slice b ≡ first_slice a → last_slice b ≡ last_slice a → b.slice_code ≡ mirror_code a.slice_code
      → (s : ℕ) → Acquired a s → rank_at a s ≡ rank_at b (first_slice a + last_slice a - s)
  ranks_mirror b first last code s k =
      mirror a.slice_code (first_slice a) (last_slice a) s (stated_has a stated).coded k
      ∙ sym (λ i. rank_in (code i) (first i) (last i) (first_slice a + last_slice a - s))

pub rank_unstated : (a : Acquisition) (r : ℕ) → is_stated a ≡ false → ranked_by a r ≡ Ok None
unfolding ranked_by
rank_unstated a r e = rw e

-- ---- what an answered slice says: its rank is the rank that was asked
pub record IsRanked (a : Acquisition) (r s : ℕ) : Type 0 where
  pub stated : is_stated a ≡ true
  pub below : r < acquired_count a
  pub acquired : Acquired a s
  pub rank : rank_at a s ≡ r

module _ (a : Acquisition) (r s : ℕ) where
  pub ranked_is : ranked_by a r ≡ Ok (Some s) → IsRanked a r s
  unfolding ranked_by
  ranked_is = go (is_stated a) (leb (acquired_count a) r) refl refl
    where
      go : (p q : Bool) → is_stated a ≡ p → leb (acquired_count a) r ≡ q
          → cond (not p) (Ok None) (cond q (Err (refusal IndexOutside 0)) (Ok (Some (slice_of_rank a r)))) ≡ Ok (Some s) → IsRanked a r s
      go false q m n e = cc
      go true true m n e = cc
      go true false m n e =
          let l = leb-false (acquired_count a) r n in
          let p = rank_found a.slice_code (first_slice a) (last_slice a) (ordered a m) r l in
          let k : slice_of_rank a r ≡ s = cc in
          record { stated = m; below = l; acquired = rw k at p.0; rank = rw k at p.1 }

  -- ---- both calls agree
  -- the rank that `slice_by` answers of a slice leads back to it
  pub timed_ranked : (t : Float) → slice_by a s ≡ Ok (Timed r t) → ranked_by a r ≡ Ok (Some s)
  timed_ranked t e =
      let w = timed_is a s r t e in
      ap (ranked_by a) (sym w.rank) ∙ slice_again a w.stated s (w.first, w.last)

  -- of the slice of a rank `slice_by` answers that rank with its time, and unstated where that is infinite
  pub ranked_timed : ranked_by a r ≡ Ok (Some s) → slice_by a s ≡ Ok (timed_by r (time_of a.slice_duration r))
  ranked_timed e =
      let w = ranked_is e in
      let h = stated_has a w.stated in
      let outside : (ltb s (first_slice a) || ltb (last_slice a) s) ≡ false =
      rw (le-ltb s (first_slice a) w.acquired.0, le-ltb (last_slice a) s w.acquired.1) in
      sym (slice_acquired a s w.stated (omega (arith, w.acquired.1, h.inside)) outside)
      ∙ (λ i. Ok (timed_by (w.rank i) (time_of a.slice_duration (w.rank i))))

-- ---- the number of a refusal: 17 alone
pub ranked_number : (a : Acquisition) (r : ℕ) (q : Refusal) → ranked_by a r ≡ Err q → eqb (number_of q.rule) 17 ≡ true
unfolding ranked_by
ranked_number a r q = go (is_stated a) (leb (acquired_count a) r)
  where
    go : (s t : Bool) → cond (not s) (Ok None) (cond t (Err (refusal IndexOutside 0)) (Ok (Some (slice_of_rank a r)))) ≡ Err q
        → eqb (number_of q.rule) 17 ≡ true
    go false t e = cc
    go true true e = let same : refusal IndexOutside 0 ≡ q = cc in rw (← same)
    go true false e = cc

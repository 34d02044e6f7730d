-- What holds of every slice answer: a timed one has a rank below the number of acquired slices, and a time that is finite and is the
-- exact product rounded once; a slice outside start..end is padding; a refusal has the number that the paper gives. The crate
-- slice_position has the same of files.
use Rattle.refusal.specs.Table.{number_of}
use Rattle.std.specs.Prelude.{Ok, Err, Some, None, Result}
use Rattle.timing.specs.declared.Slice.TheVariants.{Unstated, Padding, Timed}
use mathlib.Core.Path.{◌≡◌, refl, sym, ap, ◌∙◌}
use mathlib.Core.Bool.{Bool, true, false, cond, not, ◌||◌, or-true, false≢true}
use mathlib.Core.Logic.{◌⊎◌, inl, inr}
use Prim.Native.Nat.{ℕ, ◌*◌, ◌≤◌, ◌<◌}
use native.Mathlib.Omega.{arith}
use borrow.Author.Tests.{not-false, lt-ltb}
use lib.Dec.{leb, ltb, eqb}
use lib.Ieee.{Float, binary32, of_bits, round}
use lib.Ieee.Positive.{num, den}
use lib.Ieee.Scale.{finite}
use Rattle.refusal.specs.declared.Refusal.{Refusal}
use Rattle.slices.specs.Ranks.{count_of}
use Rattle.slices.specs.Times.{time_by, time_of}
use Rattle.slices.proofs.RankLaws.{rank_below}
use Rattle.slices.proofs.TimeLaws.{time_rounded_once}
use Rattle.timing.specs.declared.Acquisition.{Acquisition}
use Rattle.timing.specs.declared.Slice.{Slice}
use Rattle.timing.specs.Slices.{is_stated, slice_count, first_slice, last_slice, rank_at, time_at, first_of, slice_by}
use Rattle.timing.proofs.Answers.{stated_has, acquired_within, slice_padding}

-- ---- the tests behind a timed answer
pub record IsTimed (a : Acquisition) (s r : ℕ) (t : Float) : Type 0 where
  pub stated : is_stated a ≡ true
  pub first : first_slice a ≤ s
  pub last : s ≤ last_slice a
  pub rank : rank_at a s ≡ r
  pub time : time_at a s ≡ t
  pub reached : finite (time_at a s) ≡ true

abbrev pub has_time : Result Slice Refusal → Bool
has_time (Ok (Timed r t)) = true
has_time (Err r) = false
has_time (Ok Unstated) = false
has_time (Ok Padding) = false

passed : (t : Bool) (x y z : Result Slice Refusal) → has_time x ≡ false → has_time z ≡ true → cond t x y ≡ z → (t ≡ false) × (y ≡ z)
passed true x y z n m e = absurd (false≢true (sym n ∙ ap has_time e ∙ m))
passed false x y z n m e = (refl, e)

finite_is : (x t : Float) → time_by x ≡ Some t → x ≡ t
finite_is x t = go (finite x)
  where
    go : (b : Bool) → cond b (Some x) None ≡ Some t → x ≡ t
    go true e = cc
    go false e = cc

-- "rank × slice_duration, rounded once": of the exact product, where num d / den d is the value of the duration d
abbrev pub RoundedOnce : Acquisition → ℕ → Float → Type 0
RoundedOnce a r t =
    let d = of_bits binary32 a.slice_duration in
    t ≡ round binary32 false (r * num d) (den d)

-- ---- the answers
module _ (a : Acquisition) (s : ℕ) where
  module _ (r : ℕ) (t : Float) (timed : slice_by a s ≡ Ok (Timed r t)) where
    pub timed_is : IsTimed a s r t
    unfolding slice_by first_of
    timed_is =
        let b = passed (not (is_stated a)) _ _ (Ok (Timed r t)) refl refl timed in
        let c = passed (leb (slice_count a) s) _ _ (Ok (Timed r t)) refl refl b.1 in
        let d = passed (ltb s (first_slice a) || ltb (last_slice a) s) _ _ (Ok (Timed r t)) refl refl c.1 in
        let f = passed (not (finite (time_at a s))) _ _ (Ok (Timed r t)) refl refl d.1 in
        let o = acquired_within s (first_slice a) (last_slice a) d.0 in
        let e : ◌≡◌ {A = Result Slice Refusal} (Ok (Timed (rank_at a s) (time_at a s))) (Ok (Timed r t)) = f.1 in
        record { stated = not-false _ b.0; first = o.0; last = o.1; rank = cc; time = cc; reached = not-false _ f.0 }

    pub rank_below_count : r < count_of (first_slice a) (last_slice a)
    rank_below_count =
        let w = timed_is in
        rw (← w.rank) (rank_below a.slice_code (first_slice a) (last_slice a) s w.first w.last)

    -- slice_end is a number of 16 bits
    pub time_rounded : last_slice a < 32768 → RoundedOnce a r t
    unfolding time_of
    time_rounded l =
        let w = timed_is in
        let d = a.slice_duration in
        let answer : time_by (time_at a s) ≡ Some t = rw w.reached (ap Some w.time) in
        let rank : time_of d (rank_at a s) ≡ time_of d r = ap (time_of d) w.rank in
        let rounded = time_rounded_once d r (omega (arith, rank_below_count)) (stated_has a w.stated).duration in
        sym (finite_is _ t (sym rounded ∙ sym rank ∙ answer))

  pub outside_padding : is_stated a ≡ true → s < slice_count a → (s < first_slice a) ⊎ (last_slice a < s) → slice_by a s ≡ Ok Padding
  outside_padding e l (inl o) = sym (slice_padding a s e l (rw (lt-ltb s (first_slice a) o)))
  outside_padding e l (inr o) = sym (slice_padding a s e l (rw (lt-ltb (last_slice a) s o) (or-true (ltb s (first_slice a)))))

-- ---- The numbers of the refusals

-- a number, where the answer is a refusal
abbrev numbered : (ℕ → Bool) → Result Slice Refusal → Bool
numbered p (Err r) = p (number_of r.rule)
numbered p (Ok Unstated) = true
numbered p (Ok Padding) = true
numbered p (Ok (Timed r t)) = true

either_numbered : (p : ℕ → Bool) (t : Bool) (x y : Result Slice Refusal) → numbered p x ≡ true → numbered p y ≡ true → numbered p (cond t x y) ≡ true
either_numbered p true x y a b = a
either_numbered p false x y a b = b

-- 17 alone
pub slice_by_number : (a : Acquisition) (s : ℕ) (r : Refusal) → slice_by a s ≡ Err r → eqb (number_of r.rule) 17 ≡ true
unfolding slice_by first_of
slice_by_number a s r e =
    sym (ap (numbered (λ n. eqb n 17)) e)
    ∙ either_numbered (λ n. eqb n 17) (not (is_stated a)) _ _ refl
    (either_numbered (λ n. eqb n 17) (leb (slice_count a) s) _ _ refl
    (either_numbered (λ n. eqb n 17) (ltb s (first_slice a) || ltb (last_slice a) s) _ _ refl
    (either_numbered (λ n. eqb n 17) (not (finite (time_at a s))) _ _ refl refl)))

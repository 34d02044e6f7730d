-- What holds where timing is stated, and one law for each answer: the tests that lead to it.
use Rattle.refusal.specs.declared.Rule.TheVariants.{IndexOutside}
use Rattle.std.specs.Prelude.{Ok, Err, Some, None, Result}
use Rattle.timing.specs.declared.Slice.TheVariants.{Unstated, Padding, Timed}
use mathlib.Core.Path.{◌≡◌, refl, sym}
use mathlib.Core.Bool.{Bool, true, false, not, cond, ◌&&◌, ◌||◌, and-eq-true_iff, false≢true}
use Prim.Native.Nat.{ℕ, ◌≤◌, ◌<◌}
use borrow.Author.Tests.{ltb-true, ltb-false, leb-true, le-leb, lt-leb}
use lib.Dec.{leb, ltb}
use lib.IntN.{ℤ, pos, negsuc}
use lib.Signed.{le_z, lt_z}
use lib.Ieee.{binary32, of_bits}
use lib.Ieee.Positive.{positive}
use lib.Ieee.Scale.{finite}
use Rattle.refusal.specs.Table.{refusal}
use Rattle.number.specs.Natural.{natural_of}
use Rattle.grid.specs.Axes.{dim_at}
use Rattle.rules.specs.Rules.{axis_count}
use Rattle.slices.specs.Times.{time_of}
use Rattle.refusal.specs.declared.Refusal.{Refusal}
use Rattle.timing.specs.declared.Slice.{Slice}
use Rattle.timing.specs.declared.Acquisition.{Acquisition}
use Rattle.timing.specs.Slices.{slice_axis, acquires, is_stated, slice_count, first_slice, last_slice, rank_at, time_at}
use Rattle.timing.specs.Slices.{first_of, slice_by, timed_by}

in_order_lem : (a b c : ℤ) → acquires a b c ≡ true → (natural_of a < natural_of b) × (natural_of b < natural_of c)
in_order_lem (negsuc a) b c e = absurd (false≢true e)
in_order_lem (pos a) b c e =
    let p = (and-eq-true_iff (le_z (pos 0) (pos a) && lt_z (pos a) b) (lt_z b c)).0 e in
    go b c ((and-eq-true_iff (le_z (pos 0) (pos a)) (lt_z (pos a) b)).0 p.0).1 p.1
  where
    go : (b c : ℤ) → lt_z (pos a) b ≡ true → lt_z b c ≡ true → (a < natural_of b) × (natural_of b < natural_of c)
    go (negsuc b) c p q = absurd (false≢true p)
    go (pos b) (negsuc c) p q = absurd (false≢true q)
    go (pos b) (pos c) p q = (ltb-true a b p, ltb-true b c q)

-- where timing is stated: the duration is positive, the code is not 0, and at least two slices were acquired
pub record Stated (a : Acquisition) : Type 0 where
  pub duration : positive (of_bits binary32 a.slice_duration) ≡ true
  pub coded : 1 ≤ a.slice_code
  pub several : first_slice a < last_slice a
  pub inside : last_slice a < slice_count a

pub stated_has : (a : Acquisition) → is_stated a ≡ true → Stated a
unfolding is_stated
stated_has a e =
    let d = slice_axis a in
    let axis = leb 1 d && leb d 3 && leb d (axis_count a.dim) in
    let duration = positive (of_bits binary32 a.slice_duration) in
    let code = leb 1 a.slice_code && leb a.slice_code 6 in
    let start = a.slice_start in
    let end = a.slice_end in
    let length = dim_at a.dim d in
    let three = (and-eq-true_iff (axis && duration && code) (acquires start end length)).0 e in
    let two = (and-eq-true_iff (axis && duration) code).0 three.0 in
    let o = in_order_lem start end length three.1 in
    record {
      duration = ((and-eq-true_iff axis duration).0 two.0).1;
      coded = leb-true _ _ ((and-eq-true_iff (leb 1 a.slice_code) (leb a.slice_code 6)).0 two.1).0;
      several = o.0;
      inside = o.1;
    }

-- a slice that is not padding
pub acquired_within : (s first last : ℕ) → (ltb s first || ltb last s) ≡ false → (first ≤ s) × (s ≤ last)
acquired_within s first last e = go (ltb s first) refl e
  where
    go : (t : Bool) → ltb s first ≡ t → (t || ltb last s) ≡ false → (first ≤ s) × (s ≤ last)
    go true p q = absurd (false≢true (sym q))
    go false p q = (ltb-false s first p, ltb-false last s q)

-- the answers
module _ (a : Acquisition) (s : ℕ) where
  pub slice_unstated : is_stated a ≡ false → (Ok Unstated) ≡ slice_by a s
  unfolding slice_by first_of
  slice_unstated e = rw e

  module _ (stated : is_stated a ≡ true) where
    pub slice_outside : slice_count a ≤ s → Err (refusal IndexOutside 0) ≡ slice_by a s
    unfolding slice_by first_of
    slice_outside o = simp (stated, le-leb (slice_count a) s o)

    module _ (inside : s < slice_count a) where
      pub slice_padding : (ltb s (first_slice a) || ltb (last_slice a) s) ≡ true → (Ok Padding) ≡ slice_by a s
      unfolding slice_by first_of
      slice_padding p = simp (stated, lt-leb (slice_count a) s inside, p)

      pub slice_acquired : (ltb s (first_slice a) || ltb (last_slice a) s) ≡ false
          → Ok (timed_by (rank_at a s) (time_of a.slice_duration (rank_at a s))) ≡ slice_by a s
      unfolding slice_by first_of time_of
      slice_acquired p = simp (stated, lt-leb (slice_count a) s inside, p) (go (finite (time_at a s)))
        where
          go : (t : Bool)
              → ◌≡◌ {A = Result Slice Refusal} (Ok (timed_by (rank_at a s) (cond t (Some (time_at a s)) None)))
              (cond (not t) (Ok Unstated) (Ok (Timed (rank_at a s) (time_at a s))))
          go true = refl
          go false = refl

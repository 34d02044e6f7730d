-- What holds of every slice answer of a file: what the crate timing shows of its record, with no hypothesis on the record left.
use Rattle.refusal.specs.Table.{number_of}
use Rattle.std.specs.Prelude.{Ok, Err}
use Rattle.timing.specs.declared.Slice.TheVariants.{Padding, Timed}
use mathlib.Core.Path.{◌≡◌, sym, ap, ◌∙◌}
use mathlib.Core.Bool.{Bool, true, ◌||◌, or-true, false≢true}
use mathlib.Core.List.{List, []}
use mathlib.Core.Logic.{◌⊎◌}
use Prim.Native.Nat.{ℕ, ◌<◌}
use lib.Dec.{eqb}
use lib.Ieee.{Float}
use lib.Ieee.Scale.{finite}
use Rattle.field.specs.declared.Order.TheVariants.{Little}
use Rattle.field.specs.Numbers.{u16_at}
use Rattle.refusal.specs.declared.Refusal.{Refusal}
use Rattle.refusal.proofs.Rows.{decided_accepted, between}
use Rattle.number.proofs.Naturals.{natural_half}
use Rattle.extension.specs.Walk.{Walked, listed, stopped}
use Rattle.header.specs.Fields.{header_of}
use Rattle.layout.specs.File.{order_of}
use Rattle.reader.specs.Reading.{judgement, reading_by, reading_of, IsAccepted}
use Rattle.reader.proofs.Theorems.{answered_number}
use Rattle.slices.specs.Ranks.{count_of}
use Rattle.timing.specs.Slices.{is_stated, slice_count, first_slice, last_slice, acquisition_of, slice_in}
use Rattle.timing.proofs.Theorems.{has_time, RoundedOnce, timed_is, rank_below_count, time_rounded, outside_padding}
use Rattle.timing.proofs.Theorems.{slice_by_number}
use Rattle.timing.specs.declared.Slice.{Slice}
use Rattle.slice_position.specs.Files.{slice_of}
use Rattle.slice_position.proofs.Shown.{refused_same}

-- slice_end is a number of 16 bits
last_half : (file : List ℕ) → last_slice (acquisition_of (reading_of file).header) < 32768
unfolding reading_of header_of
last_half file = go (judgement file)
  where
    go : (w : Walked) → last_slice (acquisition_of (reading_by file w).header) < 32768
    go (listed xs) = natural_half (u16_at (order_of file) file 120)
    go (stopped r) = natural_half (u16_at Little [] 120)

module _ (file : List ℕ) (s : ℕ) where
  module _ (r : ℕ) (t : Float) (timed : slice_of file s ≡ Ok (Timed r t)) where
    pub record_timed : IsAccepted file × (slice_in (reading_of file).header s ≡ Ok (Timed r t))
    unfolding slice_of
    record_timed = decided_accepted (reading_of file).verdict (λ q e. false≢true (ap has_time e)) timed

    pub file_rank_below : let a = acquisition_of (reading_of file).header in r < count_of (first_slice a) (last_slice a)
    file_rank_below = rank_below_count (acquisition_of (reading_of file).header) s r t record_timed.1

    pub file_time_finite : finite t ≡ true
    file_time_finite =
        let w = timed_is (acquisition_of (reading_of file).header) s r t record_timed.1 in
        sym (ap finite w.time) ∙ w.reached

    pub file_time_rounded : RoundedOnce (acquisition_of (reading_of file).header) r t
    file_time_rounded = time_rounded (acquisition_of (reading_of file).header) s r t record_timed.1 (last_half file)

  pub file_padding : let a = acquisition_of (reading_of file).header in
      IsAccepted file → is_stated a ≡ true → s < slice_count a → (s < first_slice a) ⊎ (last_slice a < s) → slice_of file s ≡ Ok Padding
  unfolding slice_of
  file_padding h e l o = rw h (outside_padding (acquisition_of (reading_of file).header) s e l o)

-- A refusal has a number of 1 to 15, or 17.
abbrev pub slice_number : ℕ → Bool
slice_number n = between 1 15 n || eqb n 17

pub slice_number_lem : (file : List ℕ) (s : ℕ) (r : Refusal) → slice_of file s ≡ Err r → slice_number (number_of r.rule) ≡ true
unfolding slice_of
slice_number_lem file s r e =
    answered_number slice_number file r (λ n h. rw h) (λ q. refused_same {A = Slice} q r)
    (λ a d. rw (slice_by_number (acquisition_of (reading_of file).header) s r d) (or-true (between 1 15 (number_of r.rule)))) e

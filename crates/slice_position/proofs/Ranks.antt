-- Every acquired slice has its turn (02-change-requests.md, P8), of files: what the crate slice_rank shows of the record, for the answers to
-- a file's bytes.
use Rattle.refusal.specs.declared.Rule.TheVariants.{IndexOutside}
use Rattle.std.specs.Prelude.{Ok, Err, Some, None, Result, Option}
use Rattle.timing.specs.declared.Slice.TheVariants.{Timed}
use mathlib.Core.Path.{◌≡◌, ap, ◌∙◌}
use mathlib.Core.Bool.{Bool, true, false, or-true, false≢true}
use mathlib.Core.List.{List}
use Prim.Native.Nat.{ℕ, ◌≤◌}
use lib.Ieee.{Float}
use Rattle.refusal.specs.declared.Refusal.{Refusal}
use Rattle.refusal.specs.Table.{refusal, number_of}
use Rattle.refusal.proofs.Rows.{decided_accepted, between}
use Rattle.reader.specs.Reading.{reading_of, IsAccepted}
use Rattle.reader.proofs.Theorems.{answered_number}
use Rattle.slices.specs.Times.{time_of}
use Rattle.slice_order.specs.EachOnce.{EachOnce}
use Rattle.timing.specs.declared.Acquisition.{Acquisition}
use Rattle.timing.specs.Slices.{is_stated, rank_at, timed_by, acquisition_of}
use Rattle.slice_rank.specs.Ranked.{acquired_count, ranked_in}
use Rattle.slice_rank.proofs.Theorems.{Acquired, ranks_each_once, rank_outside, slice_again, rank_unstated, IsRanked, ranked_is}
use Rattle.slice_rank.proofs.Theorems.{timed_ranked, ranked_timed, ranked_number}
use Rattle.slice_position.specs.Files.{slice_of, ranked_of}
use Rattle.slice_position.proofs.Shown.{refused_same}
use Rattle.slice_position.proofs.Slices.{slice_number, record_timed}

-- how a file's slices were acquired, by its record
abbrev acquisition : List ℕ → Acquisition
acquisition file = acquisition_of (reading_of file).header

module _ (file : List ℕ) where
  -- "whenever timing is stated, the rule's ranks of slices slice_start to slice_end are the numbers 0 to N-1, each once"
  pub file_each_once : is_stated (acquisition file) ≡ true
      → EachOnce (Acquired (acquisition file)) (rank_at (acquisition file)) (acquired_count (acquisition file))
  file_each_once = ranks_each_once (acquisition file)

  -- ---- the answers of an accepted file
  module _ (accepted : IsAccepted file) where
    by_record_lem : (r : ℕ) → ranked_of file r ≡ ranked_in (reading_of file).header r
    unfolding ranked_of
    by_record_lem r = rw accepted

    pub file_rank_unstated : (r : ℕ) → is_stated (acquisition file) ≡ false → ranked_of file r ≡ Ok None
    file_rank_unstated r e = by_record_lem r ∙ rank_unstated (acquisition file) r e

    module _ (stated : is_stated (acquisition file) ≡ true) where
      pub file_rank_outside : (r : ℕ) → acquired_count (acquisition file) ≤ r → ranked_of file r ≡ Err (refusal IndexOutside 0)
      file_rank_outside r o = by_record_lem r ∙ rank_outside (acquisition file) stated r o

      -- a slice comes back from its rank, whatever its time
      pub file_slice_again : (s : ℕ) → Acquired (acquisition file) s → ranked_of file (rank_at (acquisition file) s) ≡ Ok (Some s)
      file_slice_again s k = by_record_lem _ ∙ slice_again (acquisition file) stated s k

  -- ---- what an answered slice says
  abbrev is_slice : Result (Option ℕ) Refusal → Bool
  is_slice (Ok (Some s)) = true
  is_slice (Ok None) = false
  is_slice (Err r) = false

  module _ (r s : ℕ) (answered : ranked_of file r ≡ Ok (Some s)) where
    accepted_ranked : IsAccepted file × (ranked_in (reading_of file).header r ≡ Ok (Some s))
    unfolding ranked_of
    accepted_ranked = decided_accepted (reading_of file).verdict (λ q e. false≢true (ap is_slice e)) answered

    -- its rank is the rank that was asked
    pub file_ranked_is : IsRanked (acquisition file) r s
    file_ranked_is = ranked_is (acquisition file) r s accepted_ranked.1

    -- of it `slice_at` answers that rank with its time, and unstated where that is infinite
    pub file_ranked_timed : slice_of file s ≡ Ok (timed_by r (time_of (acquisition file).slice_duration r))
    unfolding slice_of
    file_ranked_timed = rw accepted_ranked.0 (ranked_timed (acquisition file) r s accepted_ranked.1)

  -- the rank that `slice_at` answers of a slice leads back to it
  pub file_timed_ranked : (r s : ℕ) (t : Float) → slice_of file s ≡ Ok (Timed r t) → ranked_of file r ≡ Ok (Some s)
  file_timed_ranked r s t e =
      let d = record_timed file s r t e in
      by_record_lem d.0 r ∙ timed_ranked (acquisition file) r s t d.1

-- A refusal has a number of 1 to 15, or 17.
pub rank_number : (file : List ℕ) (r : ℕ) (q : Refusal) → ranked_of file r ≡ Err q → slice_number (number_of q.rule) ≡ true
unfolding ranked_of
rank_number file r q e =
    answered_number slice_number file q (λ n h. rw h) (λ p. refused_same {A = (Option ℕ)} p q)
    (λ a d. rw (ranked_number (acquisition file) r q d) (or-true (between 1 15 (number_of q.rule)))) e

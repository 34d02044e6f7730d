-- The slice of a rank: 02-change-requests.md, P8, "A call finds the slice again from a rank: after reading, unstated is tried first, then 17 for a
-- rank of N or more. An infinite time doesn't matter to either." Reading is for the caller. Any fields have an answer.
use Rattle.refusal.specs.declared.Rule.TheVariants.{IndexOutside}
use Rattle.refusal.specs.declared.Refusal.{Refusal}
use Rattle.std.specs.Prelude.{ℕ, cond, not, leb, Ok, Err, Some, None, Result, Option}
use Rattle.refusal.specs.Table.{refusal}
use Rattle.header.specs.declared.Header.{Header}
use Rattle.slices.specs.Ranks.{count_of}
use Rattle.slice_order.specs.Slices.{slice_with}
use Rattle.timing.specs.declared.Acquisition.{Acquisition}
use Rattle.timing.specs.Slices.{is_stated, first_slice, last_slice, acquisition_of}

-- N, the number of acquired slices
abbrev pub acquired_count : Acquisition → ℕ
acquired_count a = count_of (first_slice a) (last_slice a)

-- the acquired slice that has the rank r
abbrev pub slice_of_rank : Acquisition → ℕ → ℕ
slice_of_rank a r = slice_with a.slice_code (first_slice a) (last_slice a) r

-- "unstated is tried first, then 17 for a rank of N or more". No time is asked: "An infinite time doesn't matter".
unfoldable pub ranked_by : Acquisition → ℕ → Result (Option ℕ) Refusal
ranked_by a r =
    cond (not (is_stated a)) (Ok None)
    (cond (leb (acquired_count a) r) (Err (refusal IndexOutside 0))
    (Ok (Some (slice_of_rank a r))))

-- the same by a record
abbrev pub ranked_in : Header → ℕ → Result (Option ℕ) Refusal
ranked_in h r = ranked_by (acquisition_of h) r

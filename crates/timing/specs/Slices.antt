-- Slice timing: 01-scope.md, "Slices and positions", first paragraph. Any fields have an answer, also those of a record that reading
-- would refuse.
use Rattle.refusal.specs.declared.Rule.TheVariants.{IndexOutside}
use Rattle.timing.specs.declared.Slice.TheVariants.{Unstated, Padding, Timed}
use Rattle.refusal.specs.declared.Refusal.{Refusal}
use Rattle.std.specs.Prelude.{ℕ, ◌/◌, ◌%◌, Bool, cond, not, ◌&&◌, ◌||◌, List, [], ◌∷◌, leb, ltb, ℤ, pos, Float, Ok, Err, Some, None, Result, Option}
use Rattle.std.specs.Int.Signed.{le_z, lt_z}
use Rattle.std.specs.Float.{binary32}
use Rattle.std.specs.Float.Ieee.{of_bits}
use Rattle.std.specs.Float.Ieee.Positive.{positive}
use Rattle.std.specs.Float.Ieee.Scale.{finite}
use Rattle.refusal.specs.Table.{refusal}
use Rattle.number.specs.Natural.{natural_of}
use Rattle.grid.specs.Axes.{dim_at}
use Rattle.header.specs.declared.Header.{Header}
use Rattle.rules.specs.Rules.{axis_count}
use Rattle.slices.specs.Ranks.{rank_in}
use Rattle.slices.specs.Times.{product}
use Rattle.timing.specs.declared.Acquisition.{Acquisition}
use Rattle.timing.specs.declared.Slice.{Slice}

-- "dim_info holds slice_dim in bits 4 and 5"
abbrev pub slice_dim : ℕ → ℕ
slice_dim info = info / 16 % 4

abbrev pub slice_axis : Acquisition → ℕ
slice_axis a = slice_dim a.dim_info

-- "0 <= slice_start < slice_end < dim[slice_dim]"
abbrev pub acquires : ℤ → ℤ → ℤ → Bool
acquires start end length = le_z (pos 0) start && lt_z start end && lt_z end length

-- "Timing is stated when slice_dim is in 1..3 and at most dim[0], slice_duration is finite and positive, slice_code is 1..6, and
-- 0 <= slice_start < slice_end < dim[slice_dim]."
unfoldable pub is_stated : Acquisition → Bool
is_stated a =
    (leb 1 (slice_axis a) && leb (slice_axis a) 3 && leb (slice_axis a) (axis_count a.dim))
    && positive (of_bits binary32 a.slice_duration)
    && (leb 1 a.slice_code && leb a.slice_code 6)
    && acquires a.slice_start a.slice_end (dim_at a.dim (slice_axis a))

-- the length of the slices' axis, and the first and the last slice that were acquired
abbrev pub slice_count : Acquisition → ℕ
slice_count a = natural_of (dim_at a.dim (slice_axis a))

abbrev pub first_slice : Acquisition → ℕ
first_slice a = natural_of a.slice_start

abbrev pub last_slice : Acquisition → ℕ
last_slice a = natural_of a.slice_end

-- a slice's rank, and its time: "rank × slice_duration, rounded once"
abbrev pub rank_at : Acquisition → ℕ → ℕ
rank_at a s = rank_in a.slice_code (first_slice a) (last_slice a) s

abbrev pub time_at : Acquisition → ℕ → Float
time_at a s = product (rank_at a s) (of_bits binary32 a.slice_duration)

-- a case of the answer: the test by which it is given, and what is then answered
pub record Case : Type 0 where
  pub test : Bool
  pub answer : Result Slice Refusal

abbrev pub case : Bool → Result Slice Refusal → Case
case test answer = record { test = test; answer = answer }

-- the first case whose test holds, and the last answer where none does
unfoldable pub first_of : List Case → Result Slice Refusal → Result Slice Refusal
first_of [] last = last
first_of (c ∷ cs) last = cond c.test c.answer (first_of cs last)

-- The cases, with this paper's number and values for each: "Unstated is tried first, then 17, then padding; last, an acquired slice whose
-- product is infinite is unstated." A product that is not finite is the infinity (`product_infinite` of the crate slices).
abbrev pub cases_of : Acquisition → ℕ → List Case
cases_of a s =
    case (not (is_stated a)) (Ok Unstated)
    ∷ case (leb (slice_count a) s) (Err (refusal IndexOutside 0))
    ∷ case (ltb s (first_slice a) || ltb (last_slice a) s) (Ok Padding)
    ∷ case (not (finite (time_at a s))) (Ok Unstated)
    ∷ []

-- "Each slice answer is unstated, padding, or a rank with its binary32 time"
unfoldable pub slice_by : Acquisition → ℕ → Result Slice Refusal
slice_by a s = first_of (cases_of a s) (Ok (Timed (rank_at a s) (time_at a s)))

-- the same by a record
abbrev pub acquisition_of : Header → Acquisition
acquisition_of h =
    record {
      dim = h.dim;
      dim_info = h.key.dim_info;
      slice_start = h.intent.slice_start;
      slice_end = h.scale.slice_end;
      slice_code = h.scale.slice_code;
      slice_duration = h.display.slice_duration;
    }

abbrev pub slice_in : Header → ℕ → Result Slice Refusal
slice_in h s = slice_by (acquisition_of h) s

-- the last two answers, by what the crate slices answers of the time
abbrev pub timed_by : ℕ → Option Float → Slice
timed_by rank (Some t) = Timed rank t
timed_by rank None = Unstated

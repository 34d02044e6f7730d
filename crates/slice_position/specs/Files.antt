-- What is asked of a file's bytes: reading's refusal, 1..15 first, and of an accepted file what the crates timing, slice_rank and position
-- answer by its record (01-scope.md, "Slices and positions"; 02-change-requests.md, P8).
use Rattle.affine.specs.declared.Position.{Position}
use Rattle.refusal.specs.declared.Refusal.{Refusal}
use Rattle.std.specs.Prelude.{ℕ, List, get_or, Ok, Err, Result, Option}
use Rattle.field.specs.declared.Order.{Order}
use Rattle.field.specs.Numbers.{u32_at, i16_at, u32s_at, i16s_at}
use Rattle.refusal.specs.Table.{decided}
use Rattle.reader.specs.Reading.{reading_of}
use Rattle.timing.specs.declared.Acquisition.{Acquisition}
use Rattle.timing.specs.declared.Slice.{Slice}
use Rattle.timing.specs.Slices.{acquisition_of, slice_in}
use Rattle.slice_rank.specs.Ranked.{ranked_in}
use Rattle.position.specs.declared.Sform.{Sform}
use Rattle.position.specs.Positions.{sform_of, position_in}

-- "Slices and positions are asked of the file's bytes alone: 1..15 first, then as said below."
unfoldable pub slice_of : List ℕ → ℕ → Result Slice Refusal
slice_of file s = decided (reading_of file).verdict (slice_in (reading_of file).header s) Err

-- "A call finds the slice again from a rank: after reading, unstated is tried first, then 17 for a rank of N or more." (P8)
unfoldable pub ranked_of : List ℕ → ℕ → Result (Option ℕ) Refusal
ranked_of file r = decided (reading_of file).verdict (ranked_in (reading_of file).header r) Err

unfoldable pub position_at : List ℕ → ℕ → ℕ → ℕ → Result Position Refusal
position_at file i j k = decided (reading_of file).verdict (position_in (reading_of file).header i j k) Err

-- ---- The fields that slices and positions ask for, where a file has them

unfoldable pub acquisition_in : Order → List ℕ → Acquisition
acquisition_in order s =
    record {
      dim = i16s_at order s 40 8;
      dim_info = get_or s 39 0;
      slice_start = i16_at order s 74;
      slice_end = i16_at order s 120;
      slice_code = get_or s 122 0;
      slice_duration = u32_at order s 132;
    }

unfoldable pub sform_in : Order → List ℕ → Sform
sform_in order s =
    record {
      dim = i16s_at order s 40 8;
      sform_code = i16_at order s 254;
      srow_x = u32s_at order s 280 4;
      srow_y = u32s_at order s 296 4;
      srow_z = u32s_at order s 312 4;
    }

-- these fields after reading's refusal
unfoldable pub acquisition_at : List ℕ → Result Acquisition Refusal
acquisition_at file = decided (reading_of file).verdict (Ok (acquisition_of (reading_of file).header)) Err

unfoldable pub sform_at : List ℕ → Result Sform Refusal
sform_at file = decided (reading_of file).verdict (Ok (sform_of (reading_of file).header)) Err

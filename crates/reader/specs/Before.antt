-- The verdict of reading before P6 of 02-change-requests.md, by the offset's reading of that time. "No file is newly refused": the law
-- `verdict_kept` says that reading's verdict is this one on all bytes.
use Rattle.std.specs.Prelude.{ℕ, Bool, true, false, cond, List, [], ◌++◌, length, Err}
use Rattle.refusal.specs.Table.{Row, verdict, decided, Verdict, no_refusal}
use Rattle.offset.specs.Before.{Before, whole, not_whole, too_large, offset_before}
use Rattle.extension.specs.Walk.{Walked, listed, stopped, extensions_in}
use Rattle.header.specs.declared.Kind.{Kind}
use Rattle.rules.specs.declared.Shape.{Shape}
use Rattle.rules.specs.declared.Image.{Image}
use Rattle.rules.specs.Rules.{offset_outside, bytes_of_image, rows_by_offset, region_end}
use Rattle.layout.specs.File.{order_of, kind_of, shape_of, head_rows, end_rows, has_extensions}

-- the tests of rules 8 and 9
abbrev pub broken_before : Before → Bool
broken_before (whole n) = false
broken_before not_whole = true
broken_before too_large = false

abbrev pub outside_before : Kind → Before → ℕ → Bool
outside_before kind (whole n) len = offset_outside kind n len
outside_before kind not_whole len = false
outside_before kind too_large len = true

-- where the image was. Of an offset that these refuse it was not asked.
abbrev pub whole_before : Before → ℕ
whole_before (whole n) = n
whole_before not_whole = 0
whole_before too_large = 0

abbrev pub image_before : Shape → Image
image_before f = record { offset = whole_before (offset_before f.vox_offset); bytes = bytes_of_image f }

-- rules 5 to 10
abbrev pub field_rows_before : Shape → ℕ → List Row
field_rows_before f len =
    rows_by_offset f (broken_before (offset_before f.vox_offset)) (outside_before f.kind (offset_before f.vox_offset) len)

-- rules 1 to 12
abbrev pub rows_before : List ℕ → List Row
rows_before s =
    head_rows s (length s)
    ++ (field_rows_before (shape_of s) (length s) ++ end_rows (kind_of s) (image_before (shape_of s)) (length s))

-- and 13 to 15
abbrev pub extensions_before : List ℕ → Walked
extensions_before s =
    cond (has_extensions s) (extensions_in (order_of s) (region_end (kind_of s) (image_before (shape_of s)) (length s)) s) (listed [])

unfoldable pub judgement_before : List ℕ → Walked
judgement_before s = decided (verdict (rows_before s)) (extensions_before s) stopped

abbrev pub verdict_by : Walked → Verdict
verdict_by (listed xs) = no_refusal
verdict_by (stopped r) = Err r

abbrev pub verdict_before : List ℕ → Verdict
verdict_before s = verdict_by (judgement_before s)

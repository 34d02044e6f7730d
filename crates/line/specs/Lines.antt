-- A line of voxels of a file, and of a record that was read before with the file's bytes (02-change-requests.md, P7): "The time-course window
-- takes all voxels along one axis through a given voxel, in index order, into the front of a lent buffer."
use Rattle.refusal.specs.declared.Rule.TheVariants.{AxisCount, OffsetNotWhole, ImageCut, IndexOutside, ShortBuffer}
use Rattle.refusal.specs.declared.Refusal.{Refusal}
use Rattle.std.specs.Prelude.{ℕ, ◌*◌, ◌≡◌, not, List, [], ◌∷◌, ltb, length, Result}
use Rattle.refusal.specs.Table.{Row, row, verdict, then, Verdict}
use Rattle.offset.specs.Offset.{is_whole}
use Rattle.header.specs.declared.Header.{Header}
use Rattle.rules.specs.Rules.{image_of, shape_of_record, image_cut}
use Rattle.reader.specs.Reading.{reading_of}
use Rattle.voxel.specs.Voxel.{voxel_bytes}
use Rattle.voxel.specs.Steps.{no_axes, volume_of}
use Rattle.by_file.specs.Files.{voxel_of}
use Rattle.line_plan.specs.Line.{along, count_along, line_outside, line_rows}
use Rattle.line_copy.specs.Copied.{line_answer_by, line_out_by, Copies, line_in}

-- ---- Of a file

-- the line: the bytes of its voxels, joined
unfoldable pub line_of : List ℕ → List ℕ → ℕ → List ℕ → List ℕ
line_of file image axis index = along (voxel_of file image) axis index (count_along (reading_of file).header.dim axis)

-- "Refusals: 1..15, 16, 17 (the axis number included, which must be 1..dim[0]), then 22": after reading, by the record of an accepted file, and
-- the lengths of the image file and the buffer
abbrev pub file_rows : Header → ℕ → ℕ → List ℕ → ℕ → List Row
file_rows h image axis index out =
    row ImageCut (image_cut h.kind image (image_of (shape_of_record h))) 0
    ∷ row IndexOutside (line_outside h.dim axis index) 0
    ∷ row ShortBuffer (ltb out (count_along h.dim axis * voxel_bytes h)) 0
    ∷ []

unfoldable pub line_verdict : List ℕ → List ℕ → ℕ → List ℕ → ℕ → Verdict
line_verdict file image axis index out =
    then (reading_of file).verdict (verdict (file_rows (reading_of file).header (length image) axis index out))

-- what the calls answer, with a buffer of `out` bytes,
unfoldable pub line_answer : List ℕ → List ℕ → ℕ → List ℕ → ℕ → Result ℕ Refusal
line_answer file image axis index out = line_answer_by (line_verdict file image axis index out) (line_of file image axis index)

-- and what they leave in it
unfoldable pub line_out : List ℕ → List ℕ → ℕ → List ℕ → List ℕ → List ℕ
line_out file image axis index out = line_out_by (line_verdict file image axis index (length out)) (line_of file image axis index) out

-- ---- Of a record that was read before: 2, 8 and the rules of what it is located by

abbrev pub record_verdict : Header → ℕ → ℕ → ℕ → List ℕ → ℕ → Verdict
record_verdict h file image axis index out =
    verdict
    (row AxisCount (no_axes h.dim) 40
    ∷ row OffsetNotWhole (not (is_whole h.scale.vox_offset)) 108
    ∷ line_rows (volume_of h) file image axis index out)

abbrev pub CopiesRecord : Header → List ℕ → List ℕ → ℕ → List ℕ → List ℕ → Result ℕ Refusal → List ℕ → Type 0
CopiesRecord h file image axis index out answer out' =
    Copies (record_verdict h (length file) (length image) axis index (length out)) (line_in (volume_of h) file image axis index) out answer out'

-- ---- What both calls on a file ensure

abbrev pub Lines : List ℕ → List ℕ → ℕ → List ℕ → List ℕ → Result ℕ Refusal → List ℕ → Type 0
Lines file image axis index out answer out' =
    (answer ≡ line_answer file image axis index (length out)) × (out' ≡ line_out file image axis index out)

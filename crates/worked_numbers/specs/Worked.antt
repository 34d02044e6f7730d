-- 01-scope.md, "Numbers on each side": file A, and each answer as a list of the paper's numbers, so that all rows are one table.
use Rattle.edit.specs.declared.NewFile.{NewFile}
use Rattle.voxel.specs.declared.Extent.{Extent}
use Rattle.timing.specs.declared.Slice.TheVariants.{Unstated, Padding, Timed}
use Rattle.std.specs.Prelude.{ℕ, Bool, cond, List, [], ◌∷◌, ◌++◌, pos, take, replicate, Ok, Err, Result}
use Rattle.field.specs.Numbers.{tabulate, joined}
use Rattle.refusal.specs.declared.Refusal.{Refusal}
use Rattle.refusal.specs.Table.{decided, Verdict, number_of}
use Rattle.offset.specs.Offset.{offset_of, offset_numbers}
use Rattle.reader.specs.Reading.{reading_of}
use Rattle.timing.specs.declared.Slice.{Slice}
use Rattle.by_file.specs.Files.{located_of}
use Rattle.slice_position.specs.Files.{slice_of}
use Rattle.change.specs.declared.Change.TheVariants.{Append}
use Rattle.edit.specs.Outcome.{Outcome, outcome_of, buffer_after}

abbrev pub zeros : ℕ → List ℕ
zeros n = replicate n 0

-- "File A: little-endian single, dim[0] = 2, dim[1] = 3, dim[2] = 2, datatype 4, bitpix 16, vox_offset 352, all other fields but
-- sizeof_hdr and magic zero, zero extender, 12 image bytes, 364 bytes."
abbrev head_with : List ℕ → ℕ → List ℕ
head_with offset letter =
    0x5C ∷ 0x01 ∷ zeros 38
    ++ (2 ∷ 0 ∷ 3 ∷ 0 ∷ 2 ∷ 0 ∷ zeros 24
    ++ (4 ∷ 0 ∷ 16 ∷ 0 ∷ zeros 34
    ++ (offset
    ++ (zeros 232
    ++ (0x6E ∷ letter ∷ 0x31 ∷ 0 ∷ [])))))

-- A with other bytes of vox_offset, the four at 108; and a pair's header file of 348 bytes with the same fields
abbrev pub file_with : List ℕ → List ℕ
file_with offset = head_with offset 0x2B ++ zeros 16

abbrev pub pair_with : List ℕ → List ℕ
pair_with offset = head_with offset 0x69

-- 43B00000 is 352
abbrev pub file_a : List ℕ
file_a = file_with (0 ∷ 0 ∷ 0xB0 ∷ 0x43 ∷ [])

-- an answer's numbers: 0 for success, or the refusal's number and place
abbrev pub of_refusal : Refusal → List ℕ
of_refusal r = number_of r.rule ∷ r.place ∷ []

abbrev pub of_verdict : Verdict → List ℕ
of_verdict v = decided v (0 ∷ []) of_refusal

abbrev pub of_located : Result Extent Refusal → List ℕ
of_located (Ok e) = 0 ∷ e.place ∷ e.length ∷ []
of_located (Err r) = of_refusal r

-- whether an offset is aligned (02-change-requests.md, P6)
abbrev pub of_fact : Bool → ℕ
of_fact aligned = cond aligned 1 0

-- the new length, and whether the new offset is aligned
abbrev pub of_edited : Result NewFile Refusal → List ℕ
of_edited (Ok file) = 0 ∷ file.length ∷ of_fact file.aligned ∷ []
of_edited (Err r) = of_refusal r

-- a voxel of two indexes, of a single file
abbrev pub at : List ℕ → ℕ → ℕ → List ℕ
at file i j = of_located (located_of file [] (i ∷ j ∷ 0 ∷ 0 ∷ 0 ∷ 0 ∷ 0 ∷ []))

abbrev pub reading : List ℕ → List ℕ
reading file = of_verdict (reading_of file).verdict

-- a file's offset, where it is accepted, and whether it is aligned
abbrev pub offset_read : List ℕ → List ℕ
offset_read file = decided (reading_of file).verdict (0 ∷ (reading_of file).image.offset ∷ of_fact (reading_of file).header.aligned ∷ []) of_refusal

-- offset bits by the offset's own reading, before a kind of file is asked
abbrev pub bits_read : ℕ → List ℕ
bits_read bits = offset_numbers (offset_of bits)

-- "Appending 5 bytes to A", in a buffer of 400 bytes
abbrev pub buffer : List ℕ
buffer = file_a ++ zeros 36

abbrev pub note : Outcome
note = outcome_of buffer 364 Append (pos 6) (1 ∷ 2 ∷ 3 ∷ 4 ∷ 5 ∷ [])

abbrev pub appended : List ℕ
appended = take 380 (buffer_after buffer 364 note)

-- seven slices of one byte along the third axis, slice_duration 0.1, "start 1, end 5" and a code: document 004's setting
abbrev pub slices_file : ℕ → List ℕ
slices_file code =
    0x5C ∷ 0x01 ∷ zeros 37
    ++ (0x30 ∷ 3 ∷ 0 ∷ 1 ∷ 0 ∷ 1 ∷ 0 ∷ 7 ∷ 0 ∷ zeros 22
    ++ (2 ∷ 0 ∷ 8 ∷ 0 ∷ 1 ∷ 0 ∷ zeros 32
    ++ (0 ∷ 0 ∷ 0xB0 ∷ 0x43 ∷ zeros 8
    ++ (5 ∷ 0 ∷ code ∷ zeros 9
    ++ (0xCD ∷ 0xCC ∷ 0xCC ∷ 0x3D ∷ zeros 208
    ++ (0x6E ∷ 0x2B ∷ 0x31 ∷ 0 ∷ zeros 11))))))

-- a slice's answer: 0 unstated, 1 padding, 2 with the rank; or the refusal
abbrev pub of_slice : Result Slice Refusal → List ℕ
of_slice (Err r) = of_refusal r
of_slice (Ok Unstated) = 0 ∷ []
of_slice (Ok Padding) = 1 ∷ []
of_slice (Ok (Timed rank t)) = 2 ∷ rank ∷ []

-- the answers of slices 0 to 5, one after the other
abbrev pub slices_by : ℕ → List ℕ
slices_by code = joined (tabulate (λ i. of_slice (slice_of (slices_file code) i)) 6)

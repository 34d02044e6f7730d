-- The refusal table, rules 5 to 10: what is judged of a header's fields, whether they were read from a file or are about to
-- be written; the sizes of the image and whether its offset is aligned; and rules 11 and 16, which ask whether a file holds it
-- (01-scope.md, "Refusal numbers" and "The header rules"; 02-change-requests.md, P4 and P6).
use Rattle.refusal.specs.declared.Rule.TheVariants.{AxisCount, AxisBelowOne, UnknownDatatype, WrongBitpix, OffsetNotWhole, OffsetOutside, ImageTooLarge}
use Rattle.refusal.specs.declared.Refusal.{Refusal}
use Rattle.datatype.specs.declared.Format.{Format}
use Rattle.std.specs.Prelude.{ℕ, ◌+◌, ◌*◌, ◌/◌, ◌≡◌, Bool, true, false, not, ◌&&◌, ◌||◌, List, [], ◌∷◌, ltb, eqb, ℤ, pos, Err, Some, None, Result, Option, Ok}
use Rattle.std.specs.Bool.{beq}
use Rattle.std.specs.Int.Signed.{le_z}
use Rattle.refusal.specs.Table.{Row, row, verdict, decided}
use Rattle.datatype.specs.Datatypes.{datatype_of, is_number}
use Rattle.offset.specs.Offset.{is_whole, whole_of, offset_limit, aligned_of}
use Rattle.number.specs.Natural.{natural_of}
use Rattle.grid.specs.Axes.{dim_at, first_below, image_bytes, image_limit}
use Rattle.grid.specs.declared.Sizes.{Sizes}
use Rattle.grid.specs.Sizes.{sizes_by, same_sizes, Measurable}
use Rattle.header.specs.declared.Header.{Header}
use Rattle.header.specs.Fields.{with_facts}
use Rattle.header.specs.declared.Kind.{Kind}
use Rattle.header.specs.declared.Kind.TheVariants.{Single, Pair}
use Rattle.rules.specs.declared.Shape.{Shape}
use Rattle.rules.specs.declared.Image.{Image}

-- rule 2's test of dim[0]
abbrev pub one_to_seven : ℤ → Bool
one_to_seven z = le_z (pos 1) z && le_z z (pos 7)

-- dim[0], the number of axes
abbrev pub axis_count : List ℤ → ℕ
axis_count dim = natural_of (dim_at dim 0)

-- rule 5's i: the least of 1..dim[0] for which dim[i] is below 1, and 0 where there is none
abbrev pub first_bad : Shape → ℕ
first_bad f = first_below f.dim (axis_count f.dim)

-- rule 6: the datatype is in the table
abbrev pub is_known : Option Format → Bool
is_known (Some t) = true
is_known None = false

-- rule 7: bitpix is the datatype's
abbrev pub states_bits : Option Format → ℤ → Bool
states_bits (Some t) bitpix = is_number bitpix (natural_of t.bits)
states_bits None bitpix = false

-- rule 9, of a whole voxel offset and the length of the header file. A record that is written has no file: its length is 0.
abbrev pub offset_outside : Kind → ℕ → ℕ → Bool
offset_outside Single offset len = ltb offset 352 || ltb offset_limit offset
offset_outside Pair offset len = ltb offset_limit offset || ltb offset_limit len

-- "Image bytes are dim[1] × .. × dim[dim[0]] × bitpix / 8"
abbrev pub bytes_of_image : Shape → ℕ
bytes_of_image f = image_bytes f.dim (axis_count f.dim) (natural_of f.bitpix / 8)

-- rules 5 to 10, in the table's order, by the tests of 8 and 9: those of the voxel offset
abbrev pub rows_by_offset : Shape → Bool → Bool → List Row
rows_by_offset f broken outside =
    row AxisBelowOne (not (eqb (first_bad f) 0)) (40 + 2 * first_bad f)
    ∷ row UnknownDatatype (not (is_known (datatype_of f.datatype))) 70
    ∷ row WrongBitpix (not (states_bits (datatype_of f.datatype) f.bitpix)) 72
    ∷ row OffsetNotWhole broken 108
    ∷ row OffsetOutside outside 108
    ∷ row ImageTooLarge (ltb image_limit (bytes_of_image f)) 40
    ∷ []

abbrev pub field_rows : Shape → ℕ → List Row
field_rows f len = rows_by_offset f (not (is_whole f.vox_offset)) (offset_outside f.kind (whole_of f.vox_offset) len)

-- where the image is: its offset as a whole number, and its bytes
abbrev pub image_of : Shape → Image
image_of f = record { offset = whole_of f.vox_offset; bytes = bytes_of_image f }

-- whether its offset is aligned, as the offset's reading says
abbrev pub aligned_in : Shape → Bool
aligned_in f = aligned_of f.vox_offset

-- what fields answer that pass: their image, and whether its offset is aligned
abbrev pub passed : Image → Bool → Result (Image × Bool) Refusal
passed image aligned = Ok (image, aligned)

-- fields that none of the rules refuses, with their image and whether it is aligned; or the first refusal
unfoldable pub judged_of : Shape → ℕ → Result (Image × Bool) Refusal
judged_of f len = decided (verdict (field_rows f len)) (passed (image_of f) (aligned_in f)) Err

-- the same of a record, as the writer judges it. 01-scope.md: "It refuses 2 when the record's dim[0] is not in 1..7 .., then 5..10
-- as a reader in the record's order would (the pair's file length in 9 apart)".
abbrev pub shape_of_record : Header → Shape
shape_of_record h =
    record {
      kind = h.kind;
      dim = h.dim;
      datatype = h.intent.datatype;
      bitpix = h.intent.bitpix;
      vox_offset = h.scale.vox_offset;
    }

-- rules 2 and 5 to 10 of a record with these fields
abbrev pub shape_rows : Shape → List Row
shape_rows f = row AxisCount (not (one_to_seven (dim_at f.dim 0))) 40 ∷ field_rows f 0

abbrev pub record_rows : Header → List Row
record_rows h = shape_rows (shape_of_record h)

unfoldable pub record_judged : Header → Result (Image × Bool) Refusal
record_judged h = decided (verdict (record_rows h)) (passed (image_of (shape_of_record h)) (aligned_in (shape_of_record h))) Err

-- ---- What a record keeps of its image: the sizes, and whether its offset is aligned

-- the bytes of a voxel of a datatype: none of one that is not in the table
abbrev pub format_bytes : Option Format → ℕ
format_bytes (Some t) = t.bytes
format_bytes None = 0

-- P4: "the image byte total and the seven byte steps", as "the dims and datatype give" them
unfoldable pub sizes_of : List ℤ → ℤ → Sizes
sizes_of dim datatype = sizes_by dim (axis_count dim) (format_bytes (datatype_of datatype))

-- a record with the sizes that its own dims and datatype give, and the fact that its own offset's reading says (P6)
abbrev pub completed : Header → Header
completed h = with_facts (sizes_of h.dim h.intent.datatype) (aligned_of h.scale.vox_offset) h

-- a record with this fact alone set right
abbrev pub realigned : Header → Header
realigned h = with_facts h.sizes (aligned_of h.scale.vox_offset) h

-- "a stored size is wrong": one of the record's eight is not what they give
abbrev pub wrong_sizes : Header → Bool
wrong_sizes h = not (same_sizes h.sizes (sizes_of h.dim h.intent.datatype))

-- "a record where this fact is wrong" (P6)
abbrev pub wrong_fact : Header → Bool
wrong_fact h = not (beq h.aligned (aligned_of h.scale.vox_offset))

-- either: what the writer's 26 is given for
abbrev pub wrong_facts : Header → Bool
wrong_facts h = wrong_sizes h || wrong_fact h

-- ---- The image in its file

-- "shorter than vox_offset + image bytes"
abbrev pub is_short : ℕ → Image → Bool
is_short len image = ltb len (image.offset + image.bytes)

-- rule 11: a single file is
abbrev pub cut_short : Kind → ℕ → Image → Bool
cut_short Single len image = is_short len image
cut_short Pair len image = false

-- rule 16: a pair's image file is
abbrev pub image_cut : Kind → ℕ → Image → Bool
image_cut Single len image = false
image_cut Pair len image = is_short len image

-- "part of the file or of the image file, whichever holds them: the first for a single file, the second for a pair"
abbrev pub holder : Kind → List ℕ → List ℕ → List ℕ
holder Single file image = file
holder Pair file image = image

-- the region of the extensions "ends at vox_offset (single) or the file's end (pair)"; the file has `len` bytes
abbrev pub region_end : Kind → Image → ℕ → ℕ
region_end Single image len = image.offset
region_end Pair image len = len

-- ---- What only the steps between cite

-- fields as rules 2 and 5 to 10 leave them: their sizes are small, and bitpix states the bytes of the datatype's voxel
pub record Measured (f : Shape) : Type 0 where
  pub small : Measurable f.dim (axis_count f.dim) (natural_of f.bitpix / 8)
  pub bytes : natural_of f.bitpix / 8 ≡ format_bytes (datatype_of f.datatype)

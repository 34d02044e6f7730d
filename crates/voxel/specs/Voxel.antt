-- Where a voxel's bytes are, by the fields that rules 5 to 10 judge (01-scope.md, "Voxels and byte order", rules 16 and 17): what the calls on
-- a file answer. Steps.antt has it by the sizes that a record keeps.
use Rattle.refusal.specs.declared.Rule.TheVariants.{ImageCut, IndexOutside}
use Rattle.refusal.specs.declared.Refusal.{Refusal}
use Rattle.std.specs.Prelude.{ℕ, ◌+◌, ◌*◌, ◌/◌, not, List, [], ◌∷◌, ◌++◌, Ok, Err, Result}
use Rattle.refusal.specs.Table.{Row, row, verdict, decided}
use Rattle.number.specs.Natural.{natural_of}
use Rattle.offset.specs.Offset.{whole_of}
use Rattle.grid.specs.Grid.{within, voxel_number}
use Rattle.grid.specs.Axes.{seven_axes}
use Rattle.header.specs.declared.Header.{Header}
use Rattle.rules.specs.declared.Shape.{Shape}
use Rattle.rules.specs.Rules.{axis_count, image_of, shape_rows, shape_of_record, image_cut}
use Rattle.voxel.specs.declared.Extent.{Extent}

-- "Seven indexes; those after dim[0] must be 0": the seven lengths, 1 past dim[0]
abbrev pub lengths_in : Shape → List ℕ
lengths_in f = seven_axes f.dim (axis_count f.dim)

-- the bytes of a voxel, bitpix / 8
abbrev pub bytes_in : Shape → ℕ
bytes_in f = natural_of f.bitpix / 8

-- 16, and then 17: an index outside its axis
abbrev pub image_rows_in : Shape → ℕ → List ℕ → List Row
image_rows_in f len index =
    row ImageCut (image_cut f.kind len (image_of f)) 0
    ∷ row IndexOutside (not (within (lengths_in f) index)) 0
    ∷ []

-- What is asked of fields, the image file's length and seven indexes. The fields' own rules, 2 and 5 to 10, come first: those of an
-- accepted file pass them, so that 16 and 17 alone decide (see `accepted_located` of the crate by_file).
abbrev pub voxel_rows : Shape → ℕ → List ℕ → List Row
voxel_rows f len index = shape_rows f ++ image_rows_in f len index

-- "The place is vox_offset + bytes × (i1 + dim[1] × (i2 + dim[2] × (i3 + ..)))."
abbrev pub extent_in : Shape → List ℕ → Extent
extent_in f index =
    record { place = whole_of f.vox_offset + bytes_in f * voxel_number (lengths_in f) index; length = bytes_in f }

-- "One call answers the place and length, or the refusal": by fields, an image file's length and seven indexes. The crate by_file
-- has it of files.
unfoldable pub located_by : Shape → ℕ → List ℕ → Result Extent Refusal
located_by f len index = decided (verdict (voxel_rows f len index)) (Ok (extent_in f index)) Err

-- ---- The same of a record's fields

abbrev pub lengths_of : Header → List ℕ
lengths_of h = lengths_in (shape_of_record h)

abbrev pub voxel_bytes : Header → ℕ
voxel_bytes h = bytes_in (shape_of_record h)

abbrev pub image_rows : Header → ℕ → List ℕ → List Row
image_rows h len index = image_rows_in (shape_of_record h) len index

abbrev pub extent_of : Header → List ℕ → Extent
extent_of h index = extent_in (shape_of_record h) index

abbrev pub located_in : Header → ℕ → List ℕ → Result Extent Refusal
located_in h len index = located_by (shape_of_record h) len index

-- Where a voxel's bytes are, by the sizes that a record keeps (02-change-requests.md, P4: "The display asks for each voxel and .. should find
-- the steps in the record"). Any record and any struct of the C interface has an answer. The law `read_stepped` (by_file/Steps) says that a
-- record which reading gave has that of the call on its file.
use Rattle.refusal.specs.declared.Rule.TheVariants.{AxisCount, OffsetNotWhole, OffsetOutside, ImageCut, IndexOutside, WrongRecord}
use Rattle.std.specs.Prelude.{ℕ, ◌+◌, Bool, cond, not, ◌||◌, List, [], ◌∷◌, ltb, ℤ, get_or, Ok, Err, Result}
use Rattle.refusal.specs.declared.Refusal.{Refusal}
use Rattle.refusal.specs.declared.Rule.{Rule}
use Rattle.refusal.specs.Table.{Row, row, refusal, verdict, decided}
use Rattle.offset.specs.Offset.{is_whole, whole_of}
use Rattle.grid.specs.Grid.{within}
use Rattle.grid.specs.Axes.{dim_at, image_limit, seven_axes}
use Rattle.grid.specs.Sizes.{bytes_before}
use Rattle.header.specs.declared.Header.{Header}
use Rattle.header.specs.declared.Kind.{Kind}
use Rattle.rules.specs.declared.Image.{Image}
use Rattle.rules.specs.Rules.{one_to_seven, axis_count, offset_outside, image_cut}
use Rattle.voxel.specs.declared.Volume.{Volume}
use Rattle.voxel.specs.declared.Extent.{Extent}

-- what a voxel is located by: how the axes go, where the image is, its sizes, and which file holds it
abbrev pub volume : List ℤ → ℕ → ℕ → List ℕ → Kind → Volume
volume dim offset total steps kind = record { dim = dim; offset = offset; sizes = record { total = total; steps = steps }; kind = kind }

-- where the image is, by the stored total
abbrev pub image_at : Volume → Image
image_at v = record { offset = v.offset; bytes = v.sizes.total }

-- the bytes of a voxel: the step of axis 1
abbrev pub first_step : Volume → ℕ
first_step v = get_or v.sizes.steps 0 0

-- the voxel's place is the voxel offset and i1 × step 1 + i2 × step 2 + ..
abbrev pub extent_by : Volume → List ℕ → Extent
extent_by v index = record { place = v.offset + bytes_before v.sizes.steps index; length = first_step v }

-- 26, "a stored size is wrong", as far as the voxel shows it with no product of dims: it has no byte, the total is one that rule 10 refuses,
-- or the voxel ends past the total
abbrev pub strays_by : ℕ → ℕ → ℕ → Bool
strays_by total before length = ltb length 1 || (ltb image_limit total || ltb total (before + length))

abbrev pub strays : Volume → List ℕ → Bool
strays v index = strays_by v.sizes.total (bytes_before v.sizes.steps index) (first_step v)

-- rule 2, of the dims that the index is judged by
abbrev pub no_axes : List ℤ → Bool
no_axes dim = not (one_to_seven (dim_at dim 0))

-- 9, 16, 17 and 26
abbrev pub step_rows : Volume → ℕ → List ℕ → List Row
step_rows v len index =
    row OffsetOutside (offset_outside v.kind v.offset 0) 108
    ∷ row ImageCut (image_cut v.kind len (image_at v)) 0
    ∷ row IndexOutside (not (within (seven_axes v.dim (axis_count v.dim)) index)) 0
    ∷ row WrongRecord (strays v index) 0
    ∷ []

-- "One call answers the place and length, or the refusal": by what a record or a struct keeps, with its offset as a whole number
unfoldable pub stepped_by : Volume → ℕ → List ℕ → Result Extent Refusal
stepped_by v len index =
    decided (verdict (row AxisCount (no_axes v.dim) 40 ∷ step_rows v len index)) (Ok (extent_by v index)) Err

-- and by a record, whose offset is a binary32: rule 8 has its place before 9
abbrev pub volume_of : Header → Volume
volume_of h = record { dim = h.dim; offset = whole_of h.scale.vox_offset; sizes = h.sizes; kind = h.kind }

abbrev pub record_step_rows : Header → ℕ → List ℕ → List Row
record_step_rows h len index =
    row AxisCount (no_axes h.dim) 40 ∷ row OffsetNotWhole (not (is_whole h.scale.vox_offset)) 108 ∷ step_rows (volume_of h) len index

unfoldable pub stepped_in : Header → ℕ → List ℕ → Result Extent Refusal
stepped_in h len index = decided (verdict (record_step_rows h len index)) (Ok (extent_by (volume_of h) index)) Err

-- ---- What only the steps between cite

-- 2, or else a refusal of the voxel offset
abbrev pub misplaced_by : List ℤ → Rule → Refusal
misplaced_by dim rule = cond (no_axes dim) (refusal AxisCount 40) (refusal rule 108)

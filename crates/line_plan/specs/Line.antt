-- A line of voxels (02-change-requests.md, P7): which they are, the rules, and where their bytes are by the sizes that a record keeps. Any
-- record has an answer; the crate line has it of files.
use Rattle.refusal.specs.declared.Rule.TheVariants.{AxisCount, OffsetOutside, FileCut, ImageCut, IndexOutside, ShortBuffer, WrongRecord}
use Rattle.refusal.specs.declared.Refusal.{Refusal}
use Rattle.std.specs.Prelude.{ℕ, ◌+◌, ◌-◌, ◌*◌, ◌≤◌, ◌<◌, ◌≡◌, Bool, not, ◌||◌, List, [], ◌∷◌, ltb, ℤ, set, get_or, Ok, Err, Result}
use Rattle.refusal.specs.Table.{Row, row, verdict, decided, Verdict}
use Rattle.number.specs.Natural.{natural_of}
use Rattle.grid.specs.Grid.{within}
use Rattle.grid.specs.Axes.{dim_at, seven_axes}
use Rattle.grid.specs.Sizes.{bytes_before}
use Rattle.rules.specs.Rules.{axis_count, offset_outside, cut_short, image_cut}
use Rattle.gather_row.specs.Series.{series}
use Rattle.voxel.specs.declared.Volume.{Volume}
use Rattle.voxel.specs.Steps.{image_at, first_step, extent_by, strays, no_axes, stepped_by}
use Rattle.line_plan.specs.declared.Course.{Course}

-- "all voxels along one axis through a given voxel": the voxel's index with k as its number on the axis, the first of which is 1
unfoldable pub with_number : ℕ → List ℕ → ℕ → List ℕ
with_number axis index k = set index (axis - 1) k

-- "in index order": what g gives for the numbers 0 to n - 1 on the axis, one after another
unfoldable pub along : (List ℕ → List ℕ) → ℕ → List ℕ → ℕ → List ℕ
along g axis index n = series (λ k. g (with_number axis index k)) n

-- how many voxels there are: dim[axis]
abbrev pub count_along : List ℤ → ℕ → ℕ
count_along dim axis = natural_of (dim_at dim axis)

-- 17, "the axis number included, which must be 1..dim[0]"; the voxel's own number on the axis is judged too
abbrev pub axis_outside : List ℤ → ℕ → Bool
axis_outside dim axis = ltb axis 1 || ltb (axis_count dim) axis

abbrev pub line_outside : List ℤ → ℕ → List ℕ → Bool
line_outside dim axis index = not (within (seven_axes dim (axis_count dim)) index) || axis_outside dim axis

-- ---- By the sizes that a record keeps

-- the line's last voxel, of all the farthest
abbrev pub last_along : Volume → ℕ → List ℕ → List ℕ
last_along v axis index = with_number axis index (count_along v.dim axis - 1)

-- 26, "a stored size is wrong", as far as the line shows it with no product of dims: its last voxel is none of the image, or a voxel has
-- more bytes than any datatype's
abbrev pub widest : ℕ
widest = 32

abbrev pub line_strays : Volume → ℕ → List ℕ → Bool
line_strays v axis index = strays v (last_along v axis index) || ltb widest (first_step v)

-- what is judged of a volume, the lengths of the file, the image file and the buffer, the voxel and the axis: 9 to 26, and "then 22"
abbrev pub line_rows : Volume → ℕ → ℕ → ℕ → List ℕ → ℕ → List Row
line_rows v file image axis index out =
    row OffsetOutside (offset_outside v.kind v.offset 0) 108
    ∷ row FileCut (cut_short v.kind file (image_at v)) 108
    ∷ row ImageCut (image_cut v.kind image (image_at v)) 0
    ∷ row IndexOutside (line_outside v.dim axis index) 0
    ∷ row WrongRecord (line_strays v axis index) 0
    ∷ row ShortBuffer (ltb out (count_along v.dim axis * first_step v)) 0
    ∷ []

-- where the voxels are: the place of the first, and from each to the next the step of the axis
abbrev pub course_of : Volume → ℕ → List ℕ → Course
course_of v axis index =
    record {
      from = v.offset + bytes_before v.sizes.steps (with_number axis index 0);
      axis = record { length = count_along v.dim axis; up = get_or v.sizes.steps (axis - 1) 0; down = 0 };
      bytes = first_step v;
    }

-- 2 is tried first
abbrev pub volume_verdict : Volume → ℕ → ℕ → ℕ → List ℕ → ℕ → Verdict
volume_verdict v file image axis index out = verdict (row AxisCount (no_axes v.dim) 40 ∷ line_rows v file image axis index out)

unfoldable pub planned_by : Volume → ℕ → ℕ → ℕ → List ℕ → ℕ → Result Course Refusal
planned_by v file image axis index out = decided (volume_verdict v file image axis index out) (Ok (course_of v axis index)) Err

-- ---- What only the steps between cite

-- the rows up to 16, those from 17 on, and those after it
abbrev pub place_rows : Volume → ℕ → ℕ → List Row
place_rows v file image =
    row AxisCount (no_axes v.dim) 40
    ∷ row OffsetOutside (offset_outside v.kind v.offset 0) 108
    ∷ row FileCut (cut_short v.kind file (image_at v)) 108
    ∷ row ImageCut (image_cut v.kind image (image_at v)) 0
    ∷ []

abbrev pub size_rows : Volume → ℕ → List ℕ → ℕ → List Row
size_rows v axis index out = row WrongRecord (line_strays v axis index) 0 ∷ row ShortBuffer (ltb out (count_along v.dim axis * first_step v)) 0 ∷ []

abbrev pub own_rows : Volume → ℕ → List ℕ → ℕ → List Row
own_rows v axis index out = row IndexOutside (line_outside v.dim axis index) 0 ∷ size_rows v axis index out

-- what a line is like that none of the rules refuses: in a file of `size` bytes that holds the image, with an image file of `image` bytes and a
-- buffer of `out`
pub record Lies (v : Volume) (size image axis : ℕ) (index : List ℕ) (out : ℕ) : Type 0 where
  pub first : 1 ≤ axis
  pub last : axis ≤ 7
  pub some : 1 ≤ count_along v.dim axis
  pub wide : first_step v ≤ widest
  -- each voxel is located, a step from the one before, in the file
  pub located : (k : ℕ) → k < count_along v.dim axis
      → stepped_by v image (with_number axis index k) ≡ Ok (extent_by v (with_number axis index k))
  pub stepped : (k : ℕ)
      → bytes_before v.sizes.steps (with_number axis index k)
      ≡ bytes_before v.sizes.steps (with_number axis index 0) + k * get_or v.sizes.steps (axis - 1) 0
  pub held : (k : ℕ) → k < count_along v.dim axis
      → v.offset + bytes_before v.sizes.steps (with_number axis index k) + first_step v ≤ size
  pub room : count_along v.dim axis * first_step v ≤ out

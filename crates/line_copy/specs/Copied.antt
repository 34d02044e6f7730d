-- Copying a line of voxels (02-change-requests.md, P7): what a call answers and what it leaves in the lent buffer, by its verdict and the bytes
-- of the line; and the line itself by the sizes that a record keeps.
use Rattle.refusal.specs.declared.Refusal.{Refusal}
use Rattle.voxel.specs.declared.Extent.{Extent}
use Rattle.std.specs.Prelude.{ℕ, ◌+◌, ◌≤◌, ◌≡◌, List, length, Ok, Err, Result}
use Rattle.refusal.specs.Table.{decided, Verdict}
use Rattle.buffer.specs.Put.{put}
use Rattle.rules.specs.Rules.{holder}
use Rattle.voxel.specs.declared.Volume.{Volume}
use Rattle.voxel.specs.Steps.{stepped_by}
use Rattle.by_file.specs.Files.{part_of}
use Rattle.line_plan.specs.Line.{along, count_along, volume_verdict}

-- "into the front of a lent buffer", and the length is answered; a refused call answers the refusal
abbrev pub line_answer_by : Verdict → List ℕ → Result ℕ Refusal
line_answer_by v line = decided v (Ok (length line)) Err

-- "Only the bytes of the line are written"; a refused call writes none
abbrev pub line_out_by : Verdict → List ℕ → List ℕ → List ℕ
line_out_by v line out = decided v (put out 0 line) (λ r. out)

-- both, of the buffer `out` before the call and `out'` after it
abbrev pub Copies : Verdict → List ℕ → List ℕ → Result ℕ Refusal → List ℕ → Type 0
Copies v line out answer out' = (answer ≡ line_answer_by v line) × (out' ≡ line_out_by v line out)

-- ---- By the sizes that a record keeps

-- the bytes of a voxel in the file that holds it; none where the voxel is refused
abbrev pub voxel_in : Volume → List ℕ → List ℕ → List ℕ → List ℕ
voxel_in v file image index = part_of (stepped_by v (length image) index) (holder v.kind file image)

-- those of a line
unfoldable pub line_in : Volume → List ℕ → List ℕ → ℕ → List ℕ → List ℕ
line_in v file image axis index = along (voxel_in v file image) axis index (count_along v.dim axis)

-- a line is copied, by what it is located by
abbrev pub CopiesIn : Volume → List ℕ → List ℕ → ℕ → List ℕ → List ℕ → Result ℕ Refusal → List ℕ → Type 0
CopiesIn v file image axis index out answer out' =
    Copies (volume_verdict v (length file) (length image) axis index (length out)) (line_in v file image axis index) out answer out'

-- ---- What only the steps between cite

-- the bytes of a line in the file that holds the image, `src`, with an image file of `image` bytes
abbrev pub line_bytes : Volume → List ℕ → ℕ → ℕ → List ℕ → List ℕ
line_bytes v src image axis index = along (λ i. part_of (stepped_by v image i) src) axis index (count_along v.dim axis)

-- what is located is bytes of a list of `size` bytes
abbrev pub Holds : Result Extent Refusal → ℕ → Type 0
Holds (Ok e) size = e.place + e.length ≤ size
Holds (Err r) size = Unit {0}

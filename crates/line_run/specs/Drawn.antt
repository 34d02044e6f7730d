-- Lines along an axis, through the first voxels of axis 1 one after the other, each written over the one before (02-change-requests.md, P7).
use Rattle.refusal.specs.declared.Refusal.{Refusal}
use Rattle.std.specs.Prelude.{ℕ, zero, suc, max, List, [], ◌∷◌, length, Ok, Err, Result}
use Rattle.refusal.specs.Table.{decided, Verdict}
use Rattle.header.specs.declared.Header.{Header}
use Rattle.reader.specs.Reading.{reading_of}
use Rattle.voxel.specs.Steps.{volume_of}
use Rattle.line_copy.specs.Copied.{line_answer_by, line_out_by, line_in}
use Rattle.line.specs.Lines.{record_verdict}

-- a refused line counts as 0
abbrev pub bytes_of : Result ℕ Refusal → ℕ
bytes_of (Ok n) = n
bytes_of (Err r) = 0

-- the voxel that line k goes through
abbrev pub through : ℕ → List ℕ
through k = k ∷ 0 ∷ 0 ∷ 0 ∷ 0 ∷ 0 ∷ 0 ∷ []

-- line k, by a record and no image file
abbrev pub verdict_at : Header → List ℕ → ℕ → ℕ → List ℕ → Verdict
verdict_at h file axis k out = record_verdict h (length file) 0 axis (through k) (length out)

abbrev pub line_at : Header → List ℕ → ℕ → ℕ → List ℕ
line_at h file axis k = line_in (volume_of h) file [] axis (through k)

-- the buffer after the first `count` lines,
unfoldable pub out_in : Header → List ℕ → ℕ → ℕ → List ℕ → List ℕ
out_in h file axis zero out = out
out_in h file axis (suc k) out = let o = out_in h file axis k out in line_out_by (verdict_at h file axis k o) (line_at h file axis k) o

-- and the most bytes of one of them
unfoldable pub most_in : Header → List ℕ → ℕ → ℕ → List ℕ → ℕ
most_in h file axis zero out = 0
most_in h file axis (suc k) out =
    let o = out_in h file axis k out in
    max (most_in h file axis k out) (bytes_of (line_answer_by (verdict_at h file axis k o) (line_at h file axis k)))

-- by a file, which is read once
abbrev pub most : List ℕ → ℕ → ℕ → List ℕ → ℕ
most file axis count out = decided (reading_of file).verdict (most_in (reading_of file).header file axis count out) (λ r. 0)

abbrev pub out_after : List ℕ → ℕ → ℕ → List ℕ → List ℕ
out_after file axis count out = decided (reading_of file).verdict (out_in (reading_of file).header file axis count out) (λ r. out)

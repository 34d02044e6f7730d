-- Turning a volume: what the call answers, and what it leaves in the two buffers (02-change-requests.md, P10). The new files themselves
-- are those of the crate reorient_file.
use Rattle.refusal.specs.declared.Rule.TheVariants.{ImageCut, ShortBuffer, NoPosition, FewerThanThreeAxes, NoPermutation}
use Rattle.refusal.specs.declared.Refusal.{Refusal}
use Rattle.std.specs.Prelude.{ℕ, not, ◌||◌, List, [], ◌∷◌, length, ltb, Ok, Err, Result}
use Rattle.refusal.specs.Table.{Row, row, verdict, decided, then, Verdict}
use Rattle.buffer.specs.Put.{put}
use Rattle.header.specs.declared.Header.{Header}
use Rattle.header.specs.declared.Kind.{Kind}
use Rattle.header.specs.declared.Kind.TheVariants.{Single, Pair}
use Rattle.rules.specs.Rules.{axis_count, image_cut}
use Rattle.reader.specs.Reading.{reading_of}
use Rattle.reorient.specs.declared.Turn.{Turn}
use Rattle.reorient.specs.Reorient.{is_permutation}
use Rattle.reorient_header.specs.After.{not_finite}
use Rattle.reorient_file.specs.Files.{image_in, image_longer, file_after, image_after}
use Rattle.turn.specs.declared.Lengths.{Lengths}

-- "Refusals, after reading and 16: 29 fewer than three dims, 30 not a permutation, 23 where sform_code is above 0 and a new srow number
-- isn't finite, then 22 for either buffer": by the record of an accepted file, and the lengths of the file, the image file and the buffers
abbrev pub turn_rows : Header → Turn → ℕ → ℕ → ℕ → ℕ → List Row
turn_rows h t file image out out_image =
    row ImageCut (image_cut h.kind image (image_in h)) 0
    ∷ row FewerThanThreeAxes (ltb (axis_count h.dim) 3) 0
    ∷ row NoPermutation (not (is_permutation t)) 0
    ∷ row NoPosition (not_finite t h) 0
    ∷ row ShortBuffer (ltb out file || image_longer h.kind image out_image) 0
    ∷ []

unfoldable pub turn_verdict : List ℕ → List ℕ → Turn → ℕ → ℕ → Verdict
turn_verdict file image t out out_image =
    then (reading_of file).verdict (verdict (turn_rows (reading_of file).header t (length file) (length image) out out_image))

-- the lengths of the new files: that of the image file is 0 for a single file
abbrev pub image_length : Kind → ℕ → ℕ
image_length Single n = 0
image_length Pair n = n

abbrev pub lengths_after : Kind → ℕ → ℕ → Lengths
lengths_after kind file image = record { file = file; image = image_length kind image }

unfoldable pub turn_answer : List ℕ → List ℕ → Turn → ℕ → ℕ → Result Lengths Refusal
turn_answer file image t out out_image =
    decided (turn_verdict file image t out out_image)
    (Ok (lengths_after (reading_of file).header.kind (length file) (length image))) Err

-- the buffers afterwards: "Bytes past the new files stay"; a refused turn changes neither
unfoldable pub turned_out : List ℕ → List ℕ → Turn → List ℕ → List ℕ → List ℕ
turned_out file image t out out_image =
    decided (turn_verdict file image t (length out) (length out_image))
    (put out 0 (file_after t (reading_of file).header file)) (λ r. out)

unfoldable pub turned_out_image : List ℕ → List ℕ → Turn → List ℕ → List ℕ → List ℕ
turned_out_image file image t out out_image =
    decided (turn_verdict file image t (length out) (length out_image))
    (put out_image 0 (image_after t (reading_of file).header image)) (λ r. out_image)

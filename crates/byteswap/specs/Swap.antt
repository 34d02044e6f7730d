-- Swapping the byte order of a file in place. 01-scope.md, "Voxels and byte order": "Swapping turns round each 2- or 4-byte header
-- field, unused numbers included, each extension's size and code, and each swap unit of the image. All else stays: text, private
-- bytes, payloads, an image file's front, bytes after the image." So a file is one list of runs (crate units); a run of width 1
-- stays, and so does what follows the last run. The unit of a file and the runs of its extensions are those of crate turning.
use Rattle.refusal.specs.declared.Rule.TheVariants.{ImageCut}
use Rattle.std.specs.Prelude.{ℕ, ◌-◌, ◌/◌, ◌≡◌, Bool, cond, List, [], ◌∷◌, ◌++◌, length, Err}
use Rattle.refusal.specs.Table.{refusal, Verdict, no_refusal}
use Rattle.extension.specs.declared.Span.{Span}
use Rattle.extension.specs.Walk.{Walked, listed, stopped}
use Rattle.header.specs.declared.Kind.{Kind}
use Rattle.header.specs.declared.Kind.TheVariants.{Single, Pair}
use Rattle.rules.specs.declared.Image.{Image}
use Rattle.rules.specs.Rules.{image_cut, region_end}
use Rattle.layout.specs.declared.Layout.{Layout}
use Rattle.layout.specs.File.{layout_of}
use Rattle.reader.specs.Reading.{judgement}
use Rattle.units.specs.Runs.{Run, run, turn_runs, header_runs}
use Rattle.turning.specs.Turn.{unit_in, extension_runs}

-- ---- What turns round

-- from the header's end to the end of the extension region. With no extensions all of it stays, the extender and private bytes;
-- else the extender stays, and the extensions fill the rest.
abbrev pub region_runs : ℕ → List Span → List Run
region_runs end [] = run 1 (end - 348) ∷ []
region_runs end (x ∷ xs) = run 1 4 ∷ extension_runs (x ∷ xs)

-- "each swap unit of the image"
abbrev pub image_runs : Image → ℕ → List Run
image_runs image unit = run unit (image.bytes / unit) ∷ []

-- a single file holds its image, behind the region; a pair's header file ends with the region
abbrev pub own_image : Kind → Image → ℕ → List Run
own_image Single image unit = image_runs image unit
own_image Pair image unit = []

-- a file of `len` bytes with these extensions
unfoldable pub file_runs : Kind → Image → ℕ → ℕ → List Span → List Run
file_runs kind image unit len xs = header_runs ++ (region_runs (region_end kind image len) xs ++ own_image kind image unit)

-- a pair's image file, whose front stays. "For a single file the image buffer is neither read nor changed."
unfoldable pub image_file_runs : Kind → Image → ℕ → List Run
image_file_runs Single image unit = []
image_file_runs Pair image unit = run 1 image.offset ∷ image_runs image unit

-- ---- What swapping answers, and what it leaves

abbrev pub unless_cut : Bool → Walked → Walked
unless_cut cut (listed xs) = cond cut (stopped (refusal ImageCut 0)) (listed xs)
unless_cut cut (stopped r) = stopped r

-- the extensions of a file that is to be swapped, where none of 1 to 16 holds; else the first refusal
unfoldable pub swap_list : List ℕ → List ℕ → Walked
swap_list file image = unless_cut (image_cut (layout_of file).kind (length image) (layout_of file).image) (judgement file)

abbrev pub answer_by : Walked → Verdict
answer_by (listed xs) = no_refusal
answer_by (stopped r) = Err r

abbrev pub turned_file : Walked → Layout → List ℕ → List ℕ
turned_file (listed xs) l s = turn_runs (file_runs l.kind l.image (unit_in l.order s) (length s) xs) s
turned_file (stopped r) l s = s

abbrev pub turned_image : Walked → Layout → List ℕ → List ℕ → List ℕ
turned_image (listed xs) l s image = turn_runs (image_file_runs l.kind l.image (unit_in l.order s)) image
turned_image (stopped r) l s image = image

-- the answer, and the two buffers afterwards; a refused swap changes neither
unfoldable pub swap_answer : List ℕ → List ℕ → Verdict
swap_answer file image = answer_by (swap_list file image)

unfoldable pub swapped_file : List ℕ → List ℕ → List ℕ
swapped_file file image = turned_file (swap_list file image) (layout_of file) file

unfoldable pub swapped_image : List ℕ → List ℕ → List ℕ
swapped_image file image = turned_image (swap_list file image) (layout_of file) file image

-- What a swap promises, by any engine: of the answer, and of what the file and the image file hold afterwards. 02-change-requests.md, P3: "both give the same answers and
-- bytes on any input, refused or not"
abbrev pub Swaps : List ℕ → List ℕ → Verdict → List ℕ → List ℕ → Type 0
Swaps file image answer file' image' = (answer ≡ swap_answer file image) × (file' ≡ swapped_file file image) × (image' ≡ swapped_image file image)

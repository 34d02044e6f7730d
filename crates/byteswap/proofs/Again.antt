-- A swapped file, swapped again: it has the same runs, so that every byte comes back; and its voxels.
use Prim.Native.Nat.{ℕ, ◌+◌, ◌*◌, ◌/◌, ◌≤◌, ◌<◌}
use mathlib.Core.Path.{◌≡◌, refl, ap, ◌∙◌}
use mathlib.Core.Bool.{Bool, true, false}
use mathlib.Core.List.{List, [], ◌∷◌, ◌++◌}
use native.Mathlib.Omega.{arith}
use native.Mathlib.Nat.{le-div_iff_mul-le, add-mul, mul_assoc}
use lib.ListN.{length, take, drop}
use Rattle.extension.specs.declared.Span.{Span}
use Rattle.extension.specs.Walk.{Walked, listed, stopped, first_place}
use Rattle.extension.specs.Fills.{Fills}
use Rattle.extension.proofs.Walks.{stopped_never}
use Rattle.header.specs.declared.Kind.{Kind}
use Rattle.header.specs.declared.Kind.TheVariants.{Single, Pair}
use Rattle.rules.specs.declared.Image.{Image}
use Rattle.rules.specs.Rules.{image_of, image_cut, holder, region_end}
use Rattle.layout.specs.File.{kind_of}
use Rattle.reader.specs.Reading.{judgement}
use Rattle.reader.proofs.File.{AcceptedFile, judged_file}
use Rattle.units.specs.Units.{turned}
use Rattle.units.specs.Runs.{Run, run, turn_runs, header_runs}
use Rattle.units.proofs.Runs.{span_of, length-turn_runs, runs_twice, runs_field, span-append}
use Rattle.byteswap.specs.Swap.{unless_cut, region_runs, file_runs, image_file_runs, swap_list, swapped_file, swapped_image}
use Rattle.byteswap.proofs.Whole.{place_of, unit_for, runs_of, image_runs_of, room, region_span, image_file_span}
use Rattle.byteswap.proofs.Answers.{file_turned, image_turned}
use Rattle.byteswap.proofs.Swapped.{swapped, kind_is, length-is, shape_is, unit_is, swapped_file_lem}

cut_by : (c : Bool) (w : Walked) (xs : List Span) → unless_cut c w ≡ listed xs → (c ≡ false) × (w ≡ listed xs)
cut_by false (listed ys) xs e = (refl, e)
cut_by true (listed ys) xs e = stopped_never e
cut_by c (stopped r) xs e = stopped_never e

-- a swap that is not refused
module _ (file image : List ℕ) (xs : List Span) (e : swap_list file image ≡ listed xs) where
  both_pass : (image_cut (kind_of file) (length image) (place_of file) ≡ false) × (judgement file ≡ listed xs)
  unfolding swap_list
  both_pass = cut_by (image_cut (kind_of file) (length image) (place_of file)) (judgement file) xs e

  pub accepts : AcceptedFile file xs
  accepts = judged_file file xs both_pass.1

  abbrev file' : List ℕ
  file' = swapped accepts

  abbrev image' : List ℕ
  image' = turn_runs (image_runs_of file) image

  pub file_is : swapped_file file image ≡ file'
  unfolding file_runs
  file_is = file_turned file image xs e

  pub image_length_lem : length image' ≡ length image
  image_length_lem = length-turn_runs (image_runs_of file) image

  pub image_room : span_of (image_runs_of file) ≤ length image
  image_room = image_file_span (kind_of file) (place_of file) (unit_for file) (length image) both_pass.0

  pub listed_again : swap_list file' image' ≡ listed xs
  unfolding swap_list
  listed_again =
      (λ i. unless_cut (image_cut (kind_is accepts i) (image_length_lem i) (image_of (shape_is accepts i))) ((swapped_file_lem accepts).judged i))
      ∙ rw both_pass.0

  -- the runs are the same, and turning them twice gives all back
  same_runs : runs_of file' xs ≡ runs_of file xs
  same_runs = λ i. file_runs (kind_is accepts i) (image_of (shape_is accepts i)) (unit_is accepts i) (length-is accepts i) xs

  pub file_back : swapped_file file' image' ≡ file
  unfolding file_runs
  file_back =
      file_turned file' image' xs listed_again
      ∙ ap (λ (rs : List Run). turn_runs rs file') same_runs
      ∙ runs_twice (runs_of file xs) file (room accepts)

  pub image_back : swapped_image file' image' ≡ image
  image_back =
      image_turned file' image' xs listed_again
      ∙ (λ i. turn_runs (image_file_runs (kind_is accepts i) (image_of (shape_is accepts i)) (unit_is accepts i)) image')
      ∙ runs_twice (image_runs_of file) image image_room

-- ---- Voxels

-- a voxel of so many bytes from a place on
abbrev pub part_at : ℕ → ℕ → List ℕ → List ℕ
part_at n at l = take n (drop at l)

-- a voxel of m units, behind k others: its bytes are the old ones with each unit turned round
voxel_in_lem : (before : List Run) (unit m k bytes at : ℕ) (l : List ℕ) → span_of before ≡ at → 1 ≤ unit
    → k * (m * unit) + m * unit ≤ bytes → at + bytes / unit * unit ≤ length l
    → part_at (m * unit) (at + k * (m * unit)) (turn_runs (before ++ (run unit (bytes / unit) ∷ [])) l)
    ≡ turned unit m (part_at (m * unit) (at + k * (m * unit)) l)
voxel_in_lem before unit m k bytes at l p u h g =
    let e : k * m * unit ≡ k * (m * unit) = mul_assoc k m unit in
    let inside : k * m + m ≤ bytes / unit = (le-div_iff_mul-le u).1 (omega (arith, add-mul (k * m) m unit)) in
    rw (p, e) at (runs_field before [] unit (bytes / unit) (k * m) m l inside (rw p g))

-- in the buffer that holds the image
pub voxel_turned : (kind : Kind) (image : Image) (unit m k : ℕ) (xs : List Span) (file images : List ℕ) → 1 ≤ unit
    → k * (m * unit) + m * unit ≤ image.bytes → 348 ≤ region_end kind image (length file)
    → (0 < length xs → Fills first_place (region_end kind image (length file)) xs)
    → span_of (file_runs kind image unit (length file) xs) ≤ length file → span_of (image_file_runs kind image unit) ≤ length images
    → part_at (m * unit) (image.offset + k * (m * unit))
    (holder kind (turn_runs (file_runs kind image unit (length file) xs) file) (turn_runs (image_file_runs kind image unit) images))
    ≡ turned unit m (part_at (m * unit) (image.offset + k * (m * unit)) (holder kind file images))
unfolding file_runs image_file_runs span_of
voxel_turned Single image unit m k xs file images u h long fills room room' =
    let before : List Run = header_runs ++ region_runs image.offset xs in
    let own = run unit (image.bytes / unit) ∷ [] in
    let at : span_of before ≡ image.offset = span-append header_runs (region_runs image.offset xs) ∙ region_span image.offset xs long fills in
    voxel_in_lem before unit m k image.bytes image.offset file at u h (omega (arith, at, span-append before own))
voxel_turned Pair image unit m k xs file images u h long fills room room' =
    voxel_in_lem (run 1 image.offset ∷ []) unit m k image.bytes image.offset images (omega arith) u h (omega arith)

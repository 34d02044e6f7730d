-- What the engines copy: a line's bytes are those that lie along its course, and each voxel's are in the file.
use Rattle.refusal.specs.Table.{no_refusal}
use Rattle.std.specs.Prelude.{Ok, Err, Result}
use Prim.Native.Nat.{ℕ, ◌+◌, ◌*◌, ◌≤◌, ◌<◌}
use mathlib.Core.Path.{◌≡◌, sym, ap, ◌∙◌}
use mathlib.Core.List.{List, [], ◌∷◌}
use native.Mathlib.Nat.{add-zero, zero-mul, mul_comm}
use native.Mathlib.Omega.{arith}
use lib.ListN.{length, take, drop, length-take, length-drop}
use Rattle.refusal.specs.declared.Refusal.{Refusal}
use Rattle.refusal.proofs.Rows.{decided_accepted, decided-refused}
use Rattle.buffer.specs.Put.{put}
use Rattle.rules.specs.Rules.{holder}
use Rattle.gather_row.specs.Series.{series}
use Rattle.gather_row.specs.Gather.{reach, gathered, Inside}
use Rattle.gather_row.proofs.Series.{series_same, series-length}
use Rattle.gather_row.proofs.Places.{gathered_snoc, gathered_none, inside_one}
use Rattle.voxel.specs.declared.Volume.{Volume}
use Rattle.voxel.specs.Steps.{first_step, extent_by, stepped_by}
use Rattle.by_file.specs.Files.{part_of}
use Rattle.line_plan.specs.declared.Course.{Course}
use Rattle.line_plan.specs.Line.{with_number, along, count_along, course_of, volume_verdict, planned_by, Lies}
use Rattle.line_copy.specs.Copied.{line_in, CopiesIn, line_bytes, Holds}

-- ---- the bytes of a line

module _ (v : Volume) (src : List ℕ) (image axis : ℕ) (index : List ℕ) (out : ℕ) (l : Lies v (length src) image axis index out) where
  abbrev course : Course
  course = course_of v axis index

  -- voxel k
  abbrev part : ℕ → List ℕ
  part k = part_of (stepped_by v image (with_number axis index k)) src

  part_is : (k : ℕ) → k < count_along v.dim axis → part k ≡ take (first_step v) (drop (extent_by v (with_number axis index k)).place src)
  part_is k h = rw (l.located k h)

  pub part_holds : (k : ℕ) → k < count_along v.dim axis → Holds (stepped_by v image (with_number axis index k)) (length src)
  part_holds k h = rw (l.located k h) (l.held k h)

  part_length : (k : ℕ) → k < count_along v.dim axis → length (part k) ≡ first_step v
  part_length k h = rw (part_is k h) (simp (length-take, length-drop) (omega (arith, l.held k h)))

  pub line_length : length (line_bytes v src image axis index) ≡ count_along v.dim axis * first_step v
  unfolding along
  line_length = series-length part (first_step v) (count_along v.dim axis) part_length ∙ mul_comm (first_step v) (count_along v.dim axis)

  pub line_room : length (line_bytes v src image axis index) ≤ out
  line_room = omega (arith, line_length, l.room)

  -- the same as a series, for a loop of n turns
  pub line_series : (n : ℕ) → n ≡ count_along v.dim axis → line_bytes v src image axis index ≡ series part n
  unfolding along
  line_series n e = ap (λ (m : ℕ). series part m) (sym e)

  -- its place by the course
  place_is : (k : ℕ) → (extent_by v (with_number axis index k)).place ≡ course.from + reach course.axis k
  place_is k = rw (zero-mul, add-zero) (omega (arith, l.stepped k, mul_comm k course.axis.up))

  pub course_inside : Inside course.bytes (length src) course.from (course.axis ∷ [])
  course_inside =
      inside_one (first_step v) (length src) course.from course.axis l.some
      (λ k h. omega (arith, place_is k, l.held k h))

  pub course_gathers : gathered course.bytes src course.from (course.axis ∷ []) ≡ line_bytes v src image axis index
  unfolding along
  course_gathers =
      gathered_snoc course.bytes src course.from [] course.axis
      ∙ series_same (λ k. gathered course.bytes src (course.from + reach course.axis k) []) part (count_along v.dim axis)
      (λ k h.
      gathered_none course.bytes src (course.from + reach course.axis k)
      ∙ ap (λ (p : ℕ). take (first_step v) (drop p src)) (sym (place_is k))
      ∙ sym (part_is k h))

-- ---- what the call leaves, by what was planned

module _ (v : Volume) (file image : List ℕ) (axis : ℕ) (index out : List ℕ) where
  abbrev plan : Result Course Refusal
  plan = planned_by v (length file) (length image) axis index (length out)

  pub copies_none : (r : Refusal) → plan ≡ Err r → CopiesIn v file image axis index out (Err r) out
  unfolding planned_by
  copies_none r e =
      let p = decided-refused (volume_verdict v (length file) (length image) axis index (length out)) (λ d. absurd cc) e in
      (rw p.1 (ap Err (sym cc)), rw p.1)

  pub planned_along : (c : Course) → plan ≡ Ok c
      → (volume_verdict v (length file) (length image) axis index (length out) ≡ no_refusal) × (course_of v axis index ≡ c)
  unfolding planned_by
  planned_along c e =
      let p = decided_accepted (volume_verdict v (length file) (length image) axis index (length out)) (λ r d. absurd cc) e in
      (p.0, cc)

  pub copies_all : (n : ℕ) (out' src : List ℕ) → volume_verdict v (length file) (length image) axis index (length out) ≡ no_refusal
      → holder v.kind file image ≡ src → out' ≡ put out 0 (line_bytes v src (length image) axis index)
      → n ≡ length (line_bytes v src (length image) axis index) → CopiesIn v file image axis index out (Ok n) out'
  unfolding line_in along put
  copies_all n out' src a e eo en = rw (a, e) (ap Ok en, eo)

-- The theorems on lines of voxels (02-change-requests.md, P7), over the definitions that the contracts cite.
use Rattle.std.specs.Prelude.{Ok, Err, Result}
use Prim.Native.Nat.{ℕ, suc, ◌-◌, ◌*◌, ◌≤◌, ◌<◌}
use mathlib.Core.Path.{◌≡◌, refl, sym, ap, subst, ◌∙◌}
use mathlib.Core.Bool.{Bool, true, false, ◌||◌}
use mathlib.Core.List.{List}
use native.Mathlib.Nat.{mul_comm, mul-suc, mul-le-mul_left}
use native.Mathlib.Omega.{arith}
use borrow.Author.Tests.{ltb-false}
use lib.Dec.{eqb}
use lib.ListN.{length, get_or, take, drop}
use Rattle.refusal.specs.declared.Refusal.{Refusal}
use Rattle.refusal.specs.Table.{verdict, then, Verdict, number_of, no_refusal}
use Rattle.refusal.proofs.Rows.{Clear, none, one, accepted_clear, decided_accepted, decided-refused, refused_never}
use Rattle.refusal.proofs.Rows.{between, between_wider, verdict_number}
use Rattle.buffer.specs.Put.{put}
use Rattle.buffer.proofs.Laws.{drop-put}
use Rattle.header.specs.declared.Header.{Header}
use Rattle.rules.specs.Rules.{image_of, shape_of_record, image_cut}
use Rattle.reader.specs.Reading.{reading_of, IsAccepted}
use Rattle.reader.proofs.File.{accepted_record, record_image}
use Rattle.reader.proofs.Theorems.{reading_number}
use Rattle.gather_row.specs.Series.{series}
use Rattle.gather_row.proofs.Series.{series-length, series_part}
use Rattle.gather_row.proofs.Lines.{part_start}
use Rattle.voxel.specs.Voxel.{voxel_bytes, extent_of}
use Rattle.voxel.specs.Steps.{volume_of}
use Rattle.voxel.proofs.Stepping.{whole_verdict}
use Rattle.voxel.proofs.Sized.{passed_fields}
use Rattle.by_file.specs.Files.{voxel_of}
use Rattle.by_file.proofs.Voxels.{index_located, voxel_length}
use Rattle.line_plan.specs.Line.{with_number, along, count_along, line_outside, line_rows}
use Rattle.line_plan.proofs.Places.{Inside, line_inside, own_number}
use Rattle.line_copy.specs.Copied.{Copies, line_in}
use Rattle.line.specs.Lines.{line_of, file_rows, line_verdict, line_answer, line_out, record_verdict, CopiesRecord, Lines}
use Rattle.line.proofs.Files.{two_passed, line_same, verdict_same}

-- ---- The engines

-- "Their answers and the whole output buffer must be equal on any input, refused or not": both calls on a file ensure `Lines` of any input,
pub lines_agree : (file image : List ℕ) (axis : ℕ) (index out : List ℕ) {a b : Result ℕ Refusal} {o p : List ℕ}
    → Lines file image axis index out a o → Lines file image axis index out b p → (a ≡ b) × (o ≡ p)
lines_agree file image axis index out x y = (x.0 ∙ sym y.0, x.1 ∙ sym y.1)

-- and the call on a record ensures `CopiesRecord` by either engine.
pub records_agree : (h : Header) (file image : List ℕ) (axis : ℕ) (index out : List ℕ) {a b : Result ℕ Refusal} {o p : List ℕ}
    → CopiesRecord h file image axis index out a o → CopiesRecord h file image axis index out b p → (a ≡ b) × (o ≡ p)
records_agree h file image axis index out x y = (x.0 ∙ sym y.0, x.1 ∙ sym y.1)

-- Of a record that reading gave it is the line of the file, refusals and the whole buffer included.
pub read_lines : (file image : List ℕ) (axis : ℕ) (index out : List ℕ) {a : Result ℕ Refusal} {o : List ℕ} → IsAccepted file
    → CopiesRecord (reading_of file).header file image axis index out a o → Lines file image axis index out a o
unfolding line_answer line_out
read_lines file image axis index out {a = a} {o = o} accepted c =
    let h = (reading_of file).header in
    let whole = (passed_fields (shape_of_record h) (accepted_record file accepted)).whole in
    let rest = drop 1 (line_rows (volume_of h) (length file) (length image) axis index (length out)) in
    let same = sym (whole_verdict h rest whole) ∙ verdict_same file image accepted axis index (length out) in
    let d = subst (λ (v : Verdict). Copies v (line_in (volume_of h) file image axis index) out a o) same c in
    rw (line_same file image accepted axis index) at d

-- what is copied is not refused
copied_never : {k : ℕ} {r : Refusal} → ◌≡◌ {A = Result ℕ Refusal} (Ok k) (Err r) → ⊥
copied_never e = absurd cc

-- ---- What a line that is copied is like

module _ (file image : List ℕ) (axis : ℕ) (index : List ℕ) (room k : ℕ) (done : line_answer file image axis index room ≡ Ok k) where
  abbrev h : Header
  h = (reading_of file).header

  -- dim[axis], and the bytes of a voxel
  abbrev count : ℕ
  count = count_along h.dim axis

  abbrev bytes : ℕ
  bytes = voxel_bytes h

  passed : (line_verdict file image axis index room ≡ no_refusal) × (length (line_of file image axis index) ≡ k)
  unfolding line_answer
  passed =
      let p = decided_accepted (line_verdict file image axis index room) (λ r e. copied_never (sym e)) done in
      (p.0, cc)

  both : IsAccepted file × (verdict (file_rows h (length image) axis index room) ≡ no_refusal)
  unfolding line_verdict
  both = decided_accepted (reading_of file).verdict (λ r. refused_never) passed.0

  -- 16, 17 and 22 are not given
  abbrev Passes : Type 0
  Passes =
      (image_cut h.kind (length image) (image_of (shape_of_record h)) ≡ false)
      × (line_outside h.dim axis index ≡ false)
      × (count * bytes ≤ room)

  rules : Passes
  rules = by (accepted_clear (file_rows h (length image) axis index room) both.1)
    where
      by : Clear (file_rows h (length image) axis index room) → Passes
      by (one sixteen (one seventeen (one twenty-two none))) = (sixteen, seventeen, ltb-false room (count * bytes) twenty-two)

  inside : Inside h.dim axis index
  inside = line_inside h.dim axis index (two_passed (shape_of_record h) (accepted_record file both.0)) rules.1

  -- each voxel of the line is one of the file
  each-length : (j : ℕ) → j < count → length (voxel_of file image (with_number axis index j)) ≡ bytes
  each-length j l =
      let whole = rw (record_image file both.0) at rules.0 in
      let at = index_located file image both.0 whole (with_number axis index j) (inside.each j l) in
      voxel_length file image (with_number axis index j) (extent_of h (with_number axis index j)) at

  -- "all voxels along one axis": dim[axis] of them,
  pub line_length : k ≡ count * bytes
  unfolding line_of along
  line_length =
      let is = passed.1 in
      sym is
      ∙ series-length (λ j. voxel_of file image (with_number axis index j)) bytes count each-length
      ∙ mul_comm bytes count

  pub line_fits : k ≤ room
  line_fits = omega (arith, line_length, rules.2)

  -- "through a given voxel": it has its own place among them,
  pub line_through : (get_or index (axis - 1) 0 < count) × (with_number axis index (get_or index (axis - 1) 0) ≡ index)
  line_through = own_number h.dim axis index inside

  module _ (out : List ℕ) (long : length out ≡ room) where
    written : line_out file image axis index out ≡ put out 0 (line_of file image axis index)
    unfolding line_out
    written = rw (long, passed.0)

    -- "in index order, into the front of a lent buffer": voxel j stands behind j others,
    pub line_voxel : (j : ℕ) → j < count
        → take bytes (drop (bytes * j) (line_out file image axis index out)) ≡ voxel_of file image (with_number axis index j)
    unfolding line_of along
    line_voxel j l =
        let g : ℕ → List ℕ = λ i. voxel_of file image (with_number axis index i) in
        let len = series-length g bytes count each-length in
        let fit = mul-le-mul_left {m = suc j} {n = count} bytes l in
        ap (λ (s : List ℕ). take bytes (drop (bytes * j) s)) written
        ∙ part_start out (series g count) (bytes * j) bytes (omega (arith, mul-suc bytes j))
        ∙ series_part g bytes count j each-length l

    -- and "Only the bytes of the line are written".
    pub line_past : drop k (line_out file image axis index out) ≡ drop k out
    line_past =
        let is = passed.1 in
        ap (drop k) written ∙ drop-put out 0 (line_of file image axis index) k (omega arith) (omega arith)

-- A refused call writes none.
pub line_refused : (file image : List ℕ) (axis : ℕ) (index out : List ℕ) (r : Refusal)
    → line_answer file image axis index (length out) ≡ Err r → line_out file image axis index out ≡ out
unfolding line_answer line_out
line_refused file image axis index out r e =
    let p = decided-refused (line_verdict file image axis index (length out)) copied_never e in
    rw p.1

-- ---- The numbers of the refusals

-- of a file 1 to 15, 16, 17 and 22

abbrev pub line_number : ℕ → Bool
line_number n = between 1 17 n || eqb n 22

pub line_number_lem : (file image : List ℕ) (axis : ℕ) (index : List ℕ) (room : ℕ) (r : Refusal) → line_answer file image axis index room ≡ Err r
    → line_number (number_of r.rule) ≡ true
unfolding line_answer line_verdict
line_number_lem file image axis index room r e =
    let p = decided-refused (line_verdict file image axis index room) copied_never e in
    let same : p.0 ≡ r = cc p.2 in
    rw (← same) (by p.0 (reading_of file).verdict refl p.1)
  where
    after : Verdict
    after = verdict (file_rows (reading_of file).header (length image) axis index room)

    by : (q : Refusal) (v : Verdict) → (reading_of file).verdict ≡ v → then v after ≡ Err q → line_number (number_of q.rule) ≡ true
    by q (Ok tt) d f = verdict_number line_number (file_rows (reading_of file).header (length image) axis index room) q refl f
    by q (Err p) d f =
        let same : p ≡ q = cc in
        rw (between_wider 1 15 1 17 (number_of q.rule) refl (rw same at (reading_number file p d)))

-- of a record 2, 8, 9, 11, 16, 17, 22 and 26
abbrev pub record_line_number : ℕ → Bool
record_line_number n = eqb n 2 || (between 8 9 n || (eqb n 11 || (between 16 17 n || (eqb n 22 || eqb n 26))))

pub record_line_number_lem : (h : Header) (file image : List ℕ) (axis : ℕ) (index out o : List ℕ) (r : Refusal)
    → CopiesRecord h file image axis index out (Err r) o → record_line_number (number_of r.rule) ≡ true
record_line_number_lem h file image axis index out o r c =
    let v = record_verdict h (length file) (length image) axis index (length out) in
    let p = decided-refused v copied_never (sym c.0) in
    let same : p.0 ≡ r = cc p.2 in
    rw (← same) (verdict_number record_line_number _ p.0 refl p.1)

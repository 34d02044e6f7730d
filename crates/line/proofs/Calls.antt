-- What the calls on a record and on a file ensure, by what `line_copy::line_at` does.
use Rattle.std.specs.Prelude.{Ok, Err, Result}
use Prim.Native.Nat.{ℕ}
use mathlib.Core.Path.{◌≡◌, refl, ap, sym, subst}
use mathlib.Core.List.{List}
use lib.ListN.{length, drop}
use Rattle.refusal.specs.declared.Refusal.{Refusal}
use Rattle.refusal.specs.Table.{Row, Verdict}
use Rattle.offset.specs.declared.Offset.{Offset}
use Rattle.offset.specs.Offset.{offset_of, whole_in}
use Rattle.offset.proofs.Answer.{known_reads}
use Rattle.header.specs.declared.Header.{Header}
use Rattle.reader.specs.Reading.{reading_of}
use Rattle.voxel.specs.declared.Volume.{Volume}
use Rattle.voxel.specs.Steps.{volume, volume_of, misplaced_by}
use Rattle.voxel.proofs.Stepping.{whole_verdict, misplaced_verdict}
use Rattle.by_file.specs.Files.{volume_in}
use Rattle.by_file.proofs.Shown.{volume_answered}
use Rattle.refusal.proofs.Rows.{decided-refused}
use Rattle.line_plan.specs.Line.{line_rows}
use Rattle.line_copy.specs.Copied.{line_answer_by, line_out_by, Copies, line_in, CopiesIn}
use Rattle.line.specs.Lines.{line_verdict, line_answer, line_out, CopiesRecord, Lines}
use Rattle.line.proofs.Files.{line_same, verdict_same}

-- ---- by a record

module _ (h : Header) (file image : List ℕ) (axis : ℕ) (index out : List ℕ) where
  -- the rules after 9
  abbrev rest : List Row
  rest = drop 1 (line_rows (volume_of h) (length file) (length image) axis index (length out))

  abbrev line : List ℕ
  line = line_in (volume_of h) file image axis index

  -- rule 8 or 9, after 2, as the offset's reading refuses
  pub record_refused : (r : Refusal) → offset_of h.scale.vox_offset ≡ Err r
      → CopiesRecord h file image axis index out (Err (misplaced_by h.dim r.rule)) out
  record_refused r e =
      let v = misplaced_verdict h rest r e in
      (ap (λ (w : Verdict). line_answer_by w line) v, ap (λ (w : Verdict). line_out_by w line out) v)

  -- and else the rest, by the whole number that it read
  pub record_copies : (o : Offset) → offset_of h.scale.vox_offset ≡ Ok o → (answer : Result ℕ Refusal) (out' : List ℕ)
      → CopiesIn (volume h.dim (whole_in (Ok o)) h.sizes.total h.sizes.steps h.kind) file image axis index out answer out'
      → CopiesRecord h file image axis index out answer out'
  record_copies o e answer out' c =
      let r = known_reads h.scale.vox_offset o e in
      let d : CopiesIn (volume_of h) file image axis index out answer out' =
      subst (λ (n : ℕ). CopiesIn (volume h.dim n h.sizes.total h.sizes.steps h.kind) file image axis index out answer out')
      (sym r.value) c in
      subst (λ (w : Verdict). Copies w line out answer out') (whole_verdict h rest r.whole) d

-- ---- by a file

module _ (file image : List ℕ) (axis : ℕ) (index out : List ℕ) where
  pub lines_hidden : (r : Refusal) → volume_in file ≡ Err r → Lines file image axis index out (Err r) out
  unfolding line_answer line_out line_verdict
  lines_hidden r e =
      let p = decided-refused (reading_of file).verdict (λ d. absurd cc) e in
      let same : p.0 ≡ r = cc in
      rw (p.1, same) (refl, refl)

  pub lines_shown : (v : Volume) → volume_in file ≡ Ok v → (answer : Result ℕ Refusal) (out' : List ℕ)
      → CopiesIn v file image axis index out answer out' → Lines file image axis index out answer out'
  unfolding line_answer line_out
  lines_shown v e answer out' c =
      let p = volume_answered file image index v e in
      let d : CopiesIn (volume_of (reading_of file).header) file image axis index out answer out' =
      subst (λ (w : Volume). CopiesIn w file image axis index out answer out') (sym p.1) c in
      rw (line_same file image p.0 axis index, verdict_same file image p.0 axis index (length out)) at d

-- What an answer of rules 5 to 10 tells: the table's verdict behind it, and of fields that pass, how large the image's numbers are.
use Rattle.std.specs.Prelude.{Err, Some, None, Option}
use Prim.Native.Nat.{ℕ, ◌+◌, ◌≤◌}
use mathlib.Core.Path.{◌≡◌, refl, ap, sym}
use mathlib.Core.Bool.{Bool, true, false, not, ◌||◌, true≢false, false≢true}
use mathlib.Core.List.{List}
use native.Mathlib.Omega.{arith}
use borrow.Author.Tests.{ltb-false, le-ltb, eqb-true, not-false}
use lib.Dec.{ltb, eqb}
use lib.ListN.{length}
use Rattle.refusal.specs.declared.Refusal.{Refusal}
use Rattle.refusal.specs.Table.{verdict, decided, Verdict, no_refusal}
use Rattle.refusal.proofs.Rows.{Clear, none, one, accepted_clear, decided_accepted, decided-refused}
use Rattle.number.specs.Natural.{natural_of}
use Rattle.datatype.specs.declared.Format.{Format}
use Rattle.datatype.specs.Datatypes.{datatype_of, is_number}
use Rattle.offset.specs.Offset.{is_whole, whole_of, offset_limit}
use Rattle.grid.specs.Axes.{image_limit}
use Rattle.header.specs.declared.Header.{Header}
use Rattle.header.specs.declared.Kind.{Kind}
use Rattle.header.specs.declared.Kind.TheVariants.{Single, Pair}
use Rattle.rules.specs.declared.Shape.{Shape}
use Rattle.rules.specs.declared.Image.{Image}
use Rattle.rules.specs.Rules.{first_bad, is_known, states_bits, offset_outside, bytes_of_image, image_of, aligned_in, field_rows, judged_of, passed}
use Rattle.rules.specs.Rules.{shape_of_record, record_rows, record_judged, cut_short, image_cut, holder}

-- fields that pass have not failed
pub failed_never {ℓ} : {A : Type ℓ} {r : Refusal} {i : Image} {a : Bool} → Err r ≡ passed i a → A
failed_never e = let z : ◌≡◌ {A = ℕ} 0 1 = cc in absurd (omega arith)

passed_by_lem : (v : Verdict) (i j : Image) (a b : Bool) → decided v (passed i a) Err ≡ passed j b → (v ≡ no_refusal) × (i ≡ j) × (a ≡ b)
passed_by_lem v i j a b e =
    let d = decided_accepted v (λ r. failed_never) e in
    let same : passed i a ≡ passed j b = d.1 in
    let p : (i, a) ≡ (j, b) = cc in
    (d.0, ap (λ (q : Image × Bool). q.0) p, ap (λ (q : Image × Bool). q.1) p)

failed_by : (v : Verdict) (i : Image) (a : Bool) (r : Refusal) → decided v (passed i a) Err ≡ Err r → v ≡ Err r
failed_by v i a r e = let d = decided-refused v (λ q. failed_never (sym q)) e in cc (d.1, d.2)

pub neither : (a b : Bool) → (a || b) ≡ false → (a ≡ false) × (b ≡ false)
neither false b e = (refl, e)
neither true b e = absurd (true≢false e)

pub inside_limit : (kind : Kind) (n len : ℕ) → offset_outside kind n len ≡ false → n ≤ offset_limit
inside_limit Single n len e = ltb-false offset_limit n (neither (ltb n 352) (ltb offset_limit n) e).1
inside_limit Pair n len e = ltb-false offset_limit n (neither (ltb offset_limit n) (ltb offset_limit len) e).0

-- what fields that rules 5 to 10 pass are like, rule by rule
pub record Fields (f : Shape) (len : ℕ) : Type 0 where
  pub axes : first_bad f ≡ 0  -- 5
  pub format : Format  -- 6
  pub known : datatype_of f.datatype ≡ Some format
  pub bits : is_number f.bitpix (natural_of format.bits) ≡ true  -- 7
  pub whole : is_whole f.vox_offset ≡ true  -- 8
  pub inside : offset_outside f.kind (whole_of f.vox_offset) len ≡ false  -- 9
  pub small : bytes_of_image f ≤ image_limit  -- 10

module _ (f : Shape) (len : ℕ) where
  fields_by : (d : Option Format) → datatype_of f.datatype ≡ d → is_known d ≡ true → states_bits d f.bitpix ≡ true → first_bad f ≡ 0
      → is_whole f.vox_offset ≡ true → offset_outside f.kind (whole_of f.vox_offset) len ≡ false → bytes_of_image f ≤ image_limit
      → Fields f len
  fields_by (Some t) e k b axes whole inside small =
      record { axes = axes; format = t; known = e; bits = b; whole = whole; inside = inside; small = small }
  fields_by None e k b axes whole inside small = absurd (false≢true k)

  pub clear_fields : Clear (field_rows f len) → Fields f len
  clear_fields (one r5 (one r6 (one r7 (one r8 (one r9 (one r10 none)))))) =
      fields_by (datatype_of f.datatype) refl (not-false _ r6) (not-false _ r7) (eqb-true (first_bad f) 0 (not-false _ r5)) (not-false _ r8) r9
      (ltb-false image_limit (bytes_of_image f) r10)

  pub fields_clear : Fields f len → Clear (field_rows f len)
  fields_clear t =
      let e5 : not (eqb (first_bad f) 0) ≡ false = rw t.axes in
      let e6 : not (is_known (datatype_of f.datatype)) ≡ false = rw t.known in
      let e7 : not (states_bits (datatype_of f.datatype) f.bitpix) ≡ false = rw (t.known, t.bits) in
      let e8 : not (is_whole f.vox_offset) ≡ false = rw t.whole in
      let e10 : ltb image_limit (bytes_of_image f) ≡ false = le-ltb image_limit (bytes_of_image f) t.small in
      one e5 (one e6 (one e7 (one e8 (one t.inside (one e10 none)))))

  pub fields_offset : Fields f len → (image_of f).offset ≤ offset_limit
  fields_offset t = inside_limit f.kind (whole_of f.vox_offset) len t.inside

  pub judged_passed_is : (i : Image) (a : Bool) → judged_of f len ≡ passed i a
      → (verdict (field_rows f len) ≡ no_refusal) × (image_of f ≡ i) × (aligned_in f ≡ a)
  unfolding judged_of
  judged_passed_is i a e = passed_by_lem (verdict (field_rows f len)) (image_of f) i (aligned_in f) a e

  pub judged_failed_is : (r : Refusal) → judged_of f len ≡ Err r → verdict (field_rows f len) ≡ Err r
  unfolding judged_of
  judged_failed_is r e = failed_by (verdict (field_rows f len)) (image_of f) (aligned_in f) r e

  pub passed_bounds : (i : Image) (a : Bool) → judged_of f len ≡ passed i a → (i.offset ≤ offset_limit) × (i.bytes ≤ image_limit)
  passed_bounds i a e =
      let p = judged_passed_is i a e in
      let t = clear_fields (accepted_clear (field_rows f len) p.0) in
      rw (← p.1) (fields_offset t, t.small)

-- the same of a record
module _ (h : Header) where
  pub record_passed_is : (i : Image) (a : Bool) → record_judged h ≡ passed i a
      → (verdict (record_rows h) ≡ no_refusal) × (image_of (shape_of_record h) ≡ i) × (aligned_in (shape_of_record h) ≡ a)
  unfolding record_judged
  record_passed_is i a e = passed_by_lem (verdict (record_rows h)) (image_of (shape_of_record h)) i (aligned_in (shape_of_record h)) a e

  pub record_failed_is : (r : Refusal) → record_judged h ≡ Err r → verdict (record_rows h) ≡ Err r
  unfolding record_judged
  record_failed_is r e = failed_by (verdict (record_rows h)) (image_of (shape_of_record h)) (aligned_in (shape_of_record h)) r e

-- the file that holds a whole image, by rules 11 and 16
pub image_held : (kind : Kind) (i : Image) (file image : List ℕ) → cut_short kind (length file) i ≡ false
    → image_cut kind (length image) i ≡ false → i.offset + i.bytes ≤ length (holder kind file image)
image_held Single i file image s p = ltb-false (length file) (i.offset + i.bytes) s
image_held Pair i file image s p = ltb-false (length image) (i.offset + i.bytes) p

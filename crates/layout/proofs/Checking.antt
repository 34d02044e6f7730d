-- What rules 1 to 12 decide together: the verdicts of rules 1 to 4, 5 to 10, and 11 and 12, one after the other.
use Rattle.std.specs.Prelude.{Ok, Err}
use Prim.Native.Nat.{ℕ, ◌≤◌}
use mathlib.Core.Path.{◌≡◌, ap, sym, ◌∙◌}
use mathlib.Core.Bool.{Bool, true}
use mathlib.Core.List.{List, ◌++◌}
use native.Mathlib.Omega.{arith}
use borrow.Author.Tests.{ltb-false, not-false}
use Rattle.field.specs.declared.Order.{Order}
use Rattle.refusal.specs.declared.Refusal.{Refusal}
use Rattle.refusal.specs.Table.{verdict, decided, then, Verdict, no_refusal}
use Rattle.refusal.proofs.Rows.{Clear, one, accepted_clear, clear_split, verdict-append, decided_accepted, decided-refused}
use Rattle.header.specs.declared.Kind.{Kind}
use Rattle.rules.specs.declared.Image.{Image}
use Rattle.rules.specs.Rules.{aligned_in, field_rows, image_of, judged_of, Measured, passed}
use Rattle.rules.proofs.Passed.{Fields, clear_fields, judged_passed_is, judged_failed_is}
use Rattle.rules.proofs.Sizes.{fields_measured}
use Rattle.layout.specs.declared.Layout.{Layout}
use Rattle.layout.specs.File.{holds_in, order_of, kind_of, head_rows, start_in, shape_in, shape_of, end_rows, rows_in, aligned_file, layout_of, checked_in, started}
use Rattle.layout.proofs.Starting.{either}

-- what an answer of rules 1 to 4 tells
pub record Began (s : List ℕ) (len : ℕ) (order : Order) (kind : Kind) : Type 0 where
  pub passed : verdict (head_rows s len) ≡ no_refusal
  pub order_is : order_of s ≡ order
  pub kind_is : kind_of s ≡ kind

-- what has been read is not unread, and what fits does not break the rules
unread_never {ℓ} : {A : Type ℓ} {r : Refusal} {order : Order} {kind : Kind} → Err r ≡ started order kind → A
unread_never e = let z : ◌≡◌ {A = ℕ} 0 1 = cc in absurd (omega arith)

pub breaks_never {ℓ} : {A : Type ℓ} {r : Refusal} {l : Layout} → Err r ≡ Ok l → A
breaks_never e = let z : ◌≡◌ {A = ℕ} 0 1 = cc in absurd (omega arith)

module _ (s : List ℕ) (len : ℕ) where
  pub began : (order : Order) (kind : Kind) → start_in s len ≡ started order kind → Began s len order kind
  unfolding start_in
  began order kind e =
      let p = decided_accepted (verdict (head_rows s len)) (λ r. unread_never) e in
      let same : started (order_of s) (kind_of s) ≡ started order kind = p.1 in
      let q : (order_of s, kind_of s) ≡ (order, kind) = cc in
      record { passed = p.0; order_is = ap (λ (x : Order × Kind). x.0) q; kind_is = ap (λ (x : Order × Kind). x.1) q }

  -- of what they pass, the header is there
  pub began_long : (order : Order) (kind : Kind) → start_in s len ≡ started order kind → 348 ≤ len
  began_long order kind e = first (accepted_clear (head_rows s len) (began order kind e).passed)
    where
      first : Clear (head_rows s len) → 348 ≤ len
      first (one r1 rest) = ltb-false len 348 r1

  -- the whole table's verdict
  abbrev parts : Verdict
  parts =
      then (verdict (head_rows s len))
      (then (verdict (field_rows (shape_of s) len)) (verdict (end_rows (kind_of s) (image_of (shape_of s)) len)))

  in_parts : verdict (rows_in s len) ≡ parts
  in_parts =
      verdict-append (head_rows s len) (field_rows (shape_of s) len ++ end_rows (kind_of s) (image_of (shape_of s)) len)
      ∙ ap (then (verdict (head_rows s len))) (verdict-append (field_rows (shape_of s) len) (end_rows (kind_of s) (image_of (shape_of s)) len))

  by_parts : (v : Verdict) → parts ≡ v → decided v (Ok (layout_of s)) Err ≡ checked_in s len
  unfolding checked_in
  by_parts v e = ap (λ (u : Verdict). decided u (Ok (layout_of s)) Err) (sym (in_parts ∙ e))

  pub checks_start : (r : Refusal) → start_in s len ≡ Err r → Err r ≡ checked_in s len
  unfolding start_in
  checks_start r e =
      let p = decided-refused (verdict (head_rows s len)) (λ q. unread_never (sym q)) e in
      let v : verdict (head_rows s len) ≡ Err r = cc (p.1, p.2) in
      by_parts (Err r) (rw v)

  module _ (order : Order) (kind : Kind) (b : Began s len order kind) where
    same_shape : shape_in order kind s ≡ shape_of s
    same_shape = rw (b.order_is, b.kind_is)

    pub checks_fields : (r : Refusal) → judged_of (shape_in order kind s) len ≡ Err r → Err r ≡ checked_in s len
    checks_fields r e =
        let f : verdict (field_rows (shape_of s) len) ≡ Err r = judged_failed_is (shape_of s) len r (rw same_shape at e) in
        by_parts (Err r) (rw (b.passed, f))

    module _ (image : Image) (aligned : Bool) (e : judged_of (shape_in order kind s) len ≡ passed image aligned) where
      fields : (verdict (field_rows (shape_of s) len) ≡ no_refusal) × (image_of (shape_of s) ≡ image) × (aligned_file s ≡ aligned)
      fields = judged_passed_is (shape_of s) len image aligned (rw same_shape at e)

      with_end : (v : Verdict) → verdict (end_rows kind image len) ≡ v → parts ≡ v
      with_end v d = rw (b.passed, fields.0) ((λ i. verdict (end_rows (b.kind_is i) (fields.1 i) len)) ∙ d)

      pub checks_end : (r : Refusal) → verdict (end_rows kind image len) ≡ Err r → Err r ≡ checked_in s len
      checks_end r d = by_parts (Err r) (with_end (Err r) d)

      pub checks_all : verdict (end_rows kind image len) ≡ no_refusal
          → Ok (record { order = order; kind = kind; image = image; aligned = aligned }) ≡ checked_in s len
      checks_all d =
          (λ i.
          Ok (record {
            order = sym b.order_is i;
            kind = sym b.kind_is i;
            image = sym fields.1 i;
            aligned = sym fields.2 i;
          }))
          ∙ by_parts no_refusal (with_end no_refusal d)

-- what the rules' own answer tells
module _ (s : List ℕ) (len : ℕ) where
  pub checked_fits : (l : Layout) → checked_in s len ≡ Ok l → (verdict (rows_in s len) ≡ no_refusal) × (layout_of s ≡ l)
  unfolding checked_in
  checked_fits l e = let p = decided_accepted (verdict (rows_in s len)) (λ r. breaks_never) e in (p.0, cc p.1)

  pub checked_breaks : (r : Refusal) → checked_in s len ≡ Err r → verdict (rows_in s len) ≡ Err r
  unfolding checked_in
  checked_breaks r e = let p = decided-refused (verdict (rows_in s len)) (λ q. breaks_never (sym q)) e in cc (p.1, p.2)

  -- what is said of the offset is said of the fields
  pub checked_aligned : (l : Layout) → checked_in s len ≡ Ok l → aligned_in (shape_in l.order l.kind s) ≡ l.aligned
  checked_aligned l e = let p = checked_fits l e in rw (← p.1)

  -- of fields that they pass the sizes can be computed
  pub checked_measured : (l : Layout) → checked_in s len ≡ Ok l → Measured (shape_in l.order l.kind s)
  unfolding shape_in holds_in
  checked_measured l e =
      let p = checked_fits l e in
      let a = clear_split (head_rows s len) (accepted_clear (rows_in s len) p.0) in
      let b = clear_split (field_rows (shape_of s) len) a.1 in
      rw (← p.1) (by a.0 (clear_fields (shape_of s) len b.0))
    where
      by : Clear (head_rows s len) → Fields (shape_of s) len → Measured (shape_of s)
      by (one r1 (one r2 rest)) fields =
          let held : holds_in (order_of s) s ≡ true = sym (either s) ∙ not-false _ r2 in
          fields_measured (shape_of s) len (rw held) fields

-- P6: "No file is newly refused": the verdict of reading is the one before, on all bytes.
use Rattle.std.specs.Prelude.{Ok, Err}
use Prim.Native.Nat.{ℕ}
use mathlib.Core.Path.{◌≡◌, refl, sym, ap, ◌∙◌}
use mathlib.Core.Bool.{Bool, true, false, ◌||◌, true≢false}
use mathlib.Core.List.{List, ◌++◌}
use borrow.Author.Tests.{ltb-true}
use lib.Dec.{ltb}
use lib.ListN.{length}
use Rattle.refusal.specs.declared.Refusal.{Refusal}
use Rattle.refusal.specs.Table.{Row, verdict, decided, then, Verdict}
use Rattle.refusal.proofs.Rows.{Clear, one, accepted_clear, verdict-append}
use Rattle.offset.specs.Offset.{offset_limit, is_whole, whole_of}
use Rattle.offset.specs.Before.{whole, not_whole, too_large, offset_before}
use Rattle.extension.specs.Walk.{Walked, listed, stopped}
use Rattle.rules.specs.declared.Shape.{Shape}
use Rattle.rules.specs.declared.Image.{Image}
use Rattle.rules.specs.Rules.{image_of, rows_by_offset, field_rows}
use Rattle.rules.proofs.Judging.{beyond}
use Rattle.layout.specs.File.{kind_of, shape_in, shape_of, head_rows, end_rows, layout_of}
use Rattle.reader.specs.Reading.{extensions_of, judgement, reading_by, reading_of}
use Rattle.reader.specs.Before.{image_before, field_rows_before, extensions_before, judgement_before, verdict_by, verdict_before}

-- ---- the offset's reading then

module _ (bits : ℕ) where
  before_part : is_whole bits ≡ false → offset_before bits ≡ not_whole
  unfolding offset_before verdict
  before_part w = rw w

  before_large : is_whole bits ≡ true → ltb offset_limit (whole_of bits) ≡ true → offset_before bits ≡ too_large
  unfolding offset_before verdict
  before_large w l = rw (w, l)

  before_whole : is_whole bits ≡ true → ltb offset_limit (whole_of bits) ≡ false → offset_before bits ≡ whole (whole_of bits)
  unfolding offset_before verdict
  before_whole w l = rw (w, l)

-- ---- a file that 8 or 9 refuses is refused by them or by an earlier rule, whatever follows

-- where one of their tests holds, rules 5 to 10 refuse
stops : (f : Shape) (broken outside : Bool) → (broken || outside) ≡ true → (r : Refusal) × (verdict (rows_by_offset f broken outside) ≡ Err r)
stops f broken outside e = by (verdict (rows_by_offset f broken outside)) refl
  where
    never : (b o : Bool) → (b || o) ≡ true → b ≡ false → o ≡ false → ⊥
    never true o e p q = true≢false p
    never false o e p q = true≢false (sym e ∙ q)

    clear_never : Clear (rows_by_offset f broken outside) → ⊥
    clear_never (one r5 (one r6 (one r7 (one r8 (one r9 rest))))) = never broken outside e r8 r9

    by : (v : Verdict) → verdict (rows_by_offset f broken outside) ≡ v → (r : Refusal) × (verdict (rows_by_offset f broken outside) ≡ Err r)
    by (Ok tt) a = absurd (clear_never (accepted_clear (rows_by_offset f broken outside) a))
    by (Err r) a = (r, a)

module _ (s : List ℕ) (r : Refusal) where
  abbrev judged : List Row → Image → Walked → Walked
  judged rows i x = decided (verdict (head_rows s (length s) ++ (rows ++ end_rows (kind_of s) i (length s)))) x stopped

  judged_by : (rows : List Row) (i : Image) (x : Walked) → verdict rows ≡ Err r
      → judged rows i x ≡ decided (then (verdict (head_rows s (length s))) (Err r)) x stopped
  judged_by rows i x e =
      let end = end_rows (kind_of s) i (length s) in
      ap (λ (v : Verdict). decided v x stopped)
      (verdict-append (head_rows s (length s)) (rows ++ end)
      ∙ ap (then (verdict (head_rows s (length s)))) (verdict-append rows end ∙ ap (λ (v : Verdict). then v (verdict end)) e))

  -- neither the image nor the extensions are asked
  unasked : (rows rows' : List Row) (i j : Image) (x y : Walked) → verdict rows ≡ Err r → verdict rows' ≡ Err r
      → judged rows i x ≡ judged rows' j y
  unasked rows rows' i j x y e e' = judged_by rows i x e ∙ by (verdict (head_rows s (length s))) ∙ sym (judged_by rows' j y e')
    where
      by : (h : Verdict) → decided (then h (Err r)) x stopped ≡ decided (then h (Err r)) y stopped
      by (Ok tt) = refl
      by (Err q) = refl

-- ---- the verdict

module _ (s : List ℕ) where
  abbrev bits : ℕ
  bits = (shape_of s).vox_offset

  -- neither reading asks what follows
  refused_alike : (r : Refusal) → verdict (field_rows (shape_of s) (length s)) ≡ Err r → verdict (field_rows_before (shape_of s) (length s)) ≡ Err r
      → judgement s ≡ judgement_before s
  unfolding judgement judgement_before
  refused_alike r e e' =
      let f = shape_of s in
      unasked s r (field_rows f (length s)) (field_rows_before f (length s)) (image_of f) (image_before f) (extensions_of (layout_of s) s) (extensions_before s) e e'

  judgement_kept : judgement s ≡ judgement_before s
  unfolding judgement judgement_before shape_in verdict
  judgement_kept = by (is_whole bits) (ltb offset_limit (whole_of bits)) refl refl
    where
      by : (p q : Bool) → is_whole bits ≡ p → ltb offset_limit (whole_of bits) ≡ q → judgement s ≡ judgement_before s
      by true false w l = rw (before_whole bits w l, w)
      by true true w l =
          let o = beyond (kind_of s) (whole_of bits) (length s) (ltb-true offset_limit (whole_of bits) l) in
          let t = stops (shape_of s) false true refl in
          refused_alike t.0 (rw (w, o) t.1) (rw (before_large bits w l) t.1)
      by false q w l =
          let t = stops (shape_of s) true false refl in
          refused_alike t.0 (rw w t.1) (rw (before_part bits w) t.1)

  pub verdict_kept : (reading_of s).verdict ≡ verdict_before s
  unfolding reading_of
  verdict_kept = by (judgement s) ∙ ap verdict_by judgement_kept
    where
      by : (w : Walked) → (reading_by s w).verdict ≡ verdict_by w
      by (listed xs) = refl
      by (stopped r) = refl

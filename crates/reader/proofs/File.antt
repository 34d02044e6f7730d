-- What an accepted file is like, rule by rule, as every crate above asks it (`accepted_file`); that it is accepted exactly when no row
-- of the rules holds and the walk lists its extensions (`accepted_exactly`), or, with no word of the walk, when its region is whole
-- extensions joined (`accepted_joined`); and its record.
use Prim.Native.Nat.{ℕ, ◌+◌, ◌≤◌, ◌<◌}
use mathlib.Core.Path.{◌≡◌, refl, ap, sym, subst, ◌∙◌}
use mathlib.Core.Bool.{Bool, true, false, not, cond, ◌||◌, false≢true, true≢false}
use mathlib.Core.List.{List, []}
use mathlib.Core.Logic.{◌↔◌}
use native.Mathlib.Omega.{arith}
use borrow.Author.Tests.{eqb-true, ltb-true, ltb-false, lt-ltb, le-ltb, not-false}
use lib.Dec.{ltb}
use lib.IntN.{ℤ, pos, negsuc}
use lib.ListN.{length, get_or, get_or-eq_default}
use Rattle.field.specs.declared.Order.TheVariants.{Little, Big}
use Rattle.field.specs.Numbers.{i32_at, joined}
use Rattle.refusal.specs.Table.{verdict, no_refusal}
use Rattle.refusal.proofs.Rows.{Clear, none, one, accepted_clear, clear_accepted, clear_append, clear_split, decided_accepted, refused_never}
use Rattle.datatype.specs.Datatypes.{is_number}
use Rattle.offset.specs.Offset.{whole_of, offset_limit, aligned_of}
use Rattle.grid.specs.Axes.{dim_at}
use Rattle.extension.specs.declared.Span.{Span}
use Rattle.extension.specs.Walk.{extension_limit, first_place, Walked, listed, stopped, rest_of, extensions_in}
use Rattle.extension.specs.Listing.{spans_of}
use Rattle.extension.specs.Fills.{Fills}
use Rattle.extension.specs.Pieces.{pieces, AllComplete, spans_from}
use Rattle.extension.specs.Pieces as Pieces
use Rattle.extension.proofs.Walks.{stopped_never}
use Rattle.extension.proofs.Pieces.{opened}
use Rattle.extension.proofs.Fills.{extensions_fill}
use Rattle.header.specs.declared.Kind.{Kind}
use Rattle.header.specs.declared.Kind.TheVariants.{Single, Pair}
use Rattle.header.specs.Fields.{header_of}
use Rattle.header.proofs.Distinct.{single_never}
use Rattle.rules.specs.declared.Shape.{Shape}
use Rattle.rules.specs.declared.Image.{Image}
use Rattle.rules.specs.Rules.{one_to_seven, offset_outside, image_of, cut_short, region_end}
use Rattle.rules.specs.Rules.{field_rows, shape_rows, shape_of_record, record_rows, sizes_of, aligned_in}
use Rattle.rules.proofs.Passed.{neither, Fields, clear_fields, fields_clear}
use Rattle.layout.specs.File.{holds_in, order_of, has_magic, kind_of, shape_in, shape_of, cut_extender, has_extensions}
use Rattle.layout.specs.File.{head_rows, end_rows, file_rows, aligned_file, layout_of, end_of}
use Rattle.layout.proofs.Starting.{either, either_kind}
use Rattle.reader.specs.declared.Reading.{Reading}
use Rattle.reader.specs.Reading.{extensions_of, judgement, accepted_with, reading_by, reading_of, IsAccepted}

-- the bytes of a file's region
abbrev pub region_of : List ℕ → List ℕ
region_of s = rest_of s (end_of s) first_place

-- ---- What the rules tell, one by one

number_is : (z : ℤ) (n : ℕ) → is_number z n ≡ true → z ≡ pos n
number_is (pos m) n e = ap pos (eqb-true m n e)
number_is (negsuc m) n e = absurd (false≢true e)

-- rules 1 to 12
pub record Rules (s : List ℕ) : Type 0 where
  pub long : 348 ≤ length s  -- 1
  pub ordered : holds_in (order_of s) s ≡ true  -- 2
  pub size : i32_at (order_of s) s 0 ≡ pos 348  -- 3
  pub magic : has_magic (kind_of s) s ≡ true  -- 4
  pub fields : Fields (shape_of s) (length s)  -- 5 to 10
  pub whole : cut_short (kind_of s) (length s) (image_of (shape_of s)) ≡ false  -- 11
  pub extended : cut_extender (kind_of s) (length s) ≡ false  -- 12

module _ (s : List ℕ) where
  rules_by : Clear (head_rows s (length s)) → Fields (shape_of s) (length s) → Clear (end_rows (kind_of s) (image_of (shape_of s)) (length s)) → Rules s
  rules_by (one r1 (one r2 (one r3 (one r4 none)))) fields (one r11 (one r12 none)) =
      record {
        long = ltb-false (length s) 348 r1;
        ordered = sym (either s) ∙ not-false _ r2;
        size = number_is (i32_at (order_of s) s 0) 348 (not-false _ r3);
        magic = sym (either_kind s) ∙ not-false _ r4;
        fields = fields;
        whole = r11;
        extended = r12;
      }

  pub clear_rules : Clear (file_rows s) → Rules s
  clear_rules c =
      let a = clear_split (head_rows s (length s)) c in
      let b = clear_split (field_rows (shape_of s) (length s)) a.1 in
      rules_by a.0 (clear_fields (shape_of s) (length s) b.0) b.1

  pub rules_clear : Rules s → Clear (file_rows s)
  rules_clear r =
      let e1 : ltb (length s) 348 ≡ false = le-ltb (length s) 348 r.long in
      let e2 : not (holds_in Little s || holds_in Big s) ≡ false = rw (either s, r.ordered) in
      let e3 : not (is_number (i32_at (order_of s) s 0) 348) ≡ false = rw r.size in
      let e4 : not (has_magic Single s || has_magic Pair s) ≡ false = rw (either_kind s, r.magic) in
      clear_append (one e1 (one e2 (one e3 (one e4 none))))
      (clear_append (fields_clear (shape_of s) (length s) r.fields) (one r.whole (one r.extended none)))

-- rules 9 and 11: where the region of the extensions ends
record Bounds (kind : Kind) (image : Image) (len : ℕ) : Type 0 where
  behind : 348 ≤ region_end kind image len
  inside : region_end kind image len ≤ len
  small : region_end kind image len ≤ offset_limit
  begins : kind ≡ Single → first_place ≤ image.offset

bounds : (kind : Kind) (image : Image) (len : ℕ) → 348 ≤ len → offset_outside kind image.offset len ≡ false → cut_short kind len image ≡ false
    → Bounds kind image len
bounds Single image len long nine eleven =
    let n = neither (ltb image.offset 352) (ltb offset_limit image.offset) nine in
    let a = ltb-false image.offset 352 n.0 in
    let b = ltb-false len (image.offset + image.bytes) eleven in
    record { behind = omega arith; inside = omega arith; small = ltb-false offset_limit image.offset n.1; begins = λ e. a }
bounds Pair image len long nine eleven =
    let n = neither (ltb offset_limit image.offset) (ltb offset_limit len) nine in
    record { behind = long; inside = omega arith; small = ltb-false offset_limit len n.1; begins = λ e. single_never (sym e) }

-- a file whose extender says that there are extensions is longer than its header
extended_long : (s : List ℕ) → has_extensions s ≡ true → 348 < length s
unfolding has_extensions
extended_long s e = by (ltb 348 (length s)) refl
  where
    by : (t : Bool) → ltb 348 (length s) ≡ t → 348 < length s
    by true h = ltb-true 348 (length s) h
    by false h =
        let zero : get_or s 348 0 ≡ 0 = get_or-eq_default s 0 (ltb-false 348 (length s) h) in
        absurd (true≢false (sym e ∙ rw zero))

-- an accepted file that is longer than its header
begins_by : (kind : Kind) (image : Image) (len : ℕ) → Bounds kind image len → 348 < len → cut_extender kind len ≡ false
    → first_place ≤ region_end kind image len
begins_by Single image len b long e = b.begins refl
begins_by Pair image len b long e = ltb-false len 352 (rw (lt-ltb 348 len long) at e)

-- has all four bytes of it, and the region lies in the file;
pub region_in_lem : (s : List ℕ) → Rules s → 348 < length s → (first_place ≤ end_of s) × (end_of s ≤ length s)
unfolding end_of shape_in
region_in_lem s r long =
    let b = bounds (kind_of s) (image_of (shape_of s)) (length s) r.long r.fields.inside r.whole in
    (begins_by (kind_of s) (image_of (shape_of s)) (length s) b long r.extended, b.inside)

-- so has a file whose extender says that there are extensions
pub extended_region : (s : List ℕ) → Rules s → has_extensions s ≡ true → (first_place ≤ end_of s) × (end_of s ≤ length s)
extended_region s r e = region_in_lem s r (extended_long s e)

-- ---- What an accepted file is like

-- a file s with the extensions xs
pub record AcceptedFile (s : List ℕ) (xs : List Span) : Type 0 where
  pub judged : judgement s ≡ listed xs
  pub walked : extensions_of (layout_of s) s ≡ listed xs
  pub rules : Rules s
  -- the region of the extensions
  pub end_behind : 348 ≤ end_of s
  pub end_inside : end_of s ≤ length s
  pub end_small : end_of s ≤ offset_limit
  pub begins : kind_of s ≡ Single → first_place ≤ (image_of (shape_of s)).offset
  -- rules 13 to 15: the extensions with their bytes, and where they stand
  pub complete : AllComplete (order_of s) (pieces xs (region_of s))
  pub spans : spans_from (order_of s) first_place (pieces xs (region_of s)) ≡ xs
  pub few : length xs ≤ extension_limit
  pub some : has_extensions s ≡ true → 0 < length xs
  pub none : has_extensions s ≡ false → xs ≡ []
  pub region : has_extensions s ≡ true → joined (pieces xs (region_of s)) ≡ region_of s
  pub fills : 0 < length xs → Fills first_place (end_of s) xs

-- its list, where the extender says that there is one, and where it says that there is none
record List_of (s : List ℕ) (xs : List Span) : Type 0 where
  complete : AllComplete (order_of s) (pieces xs (region_of s))
  spans : spans_from (order_of s) first_place (pieces xs (region_of s)) ≡ xs
  few : length xs ≤ extension_limit
  some : has_extensions s ≡ true → 0 < length xs
  none : has_extensions s ≡ false → xs ≡ []
  region : has_extensions s ≡ true → joined (pieces xs (region_of s)) ≡ region_of s
  fills : 0 < length xs → Fills first_place (end_of s) xs

module _ (s : List ℕ) (xs : List Span) where
  list_some : end_of s ≤ length s → has_extensions s ≡ true → extensions_in (order_of s) (end_of s) s ≡ listed xs → List_of s xs
  unfolding extensions_in
  list_some inside h e =
      let o = opened (order_of s) extension_limit first_place (region_of s) xs e in
      record {
        complete = o.complete;
        spans = o.spans;
        few = o.few;
        some = λ n. o.some refl;
        none = λ n. absurd (true≢false (sym h ∙ n));
        region = λ n. o.region;
        fills = λ n. extensions_fill (order_of s) (end_of s) s xs inside e;
      }

  list_none : has_extensions s ≡ false → listed [] ≡ listed xs → List_of s xs
  unfolding pieces spans_from
  list_none h e =
      let z : xs ≡ [] = cc in
      rw z
      record {
        complete = Pieces.none;
        spans = refl;
        few = omega arith;
        some = λ n. absurd (true≢false (sym n ∙ h));
        none = λ n. refl;
        region = λ n. absurd (true≢false (sym n ∙ h));
        fills = λ n. absurd (omega arith);
      }

  list_of : end_of s ≤ length s → extensions_of (layout_of s) s ≡ listed xs → List_of s xs
  unfolding end_of
  list_of inside w = by (has_extensions s) refl w
    where
      by : (t : Bool) → has_extensions s ≡ t → cond t (extensions_in (order_of s) (end_of s) s) (listed []) ≡ listed xs → List_of s xs
      by true h e = list_some inside h e
      by false h e = list_none h e

  pub judged_file : judgement s ≡ listed xs → AcceptedFile s xs
  unfolding judgement end_of shape_in
  judged_file j =
      let d = decided_accepted (verdict (file_rows s)) (λ r. stopped_never) j in
      let r = clear_rules s (accepted_clear (file_rows s) d.0) in
      let b = bounds (kind_of s) (image_of (shape_of s)) (length s) r.long r.fields.inside r.whole in
      let l = list_of b.inside d.1 in
      record {
        judged = j;
        walked = d.1;
        rules = r;
        end_behind = b.behind;
        end_inside = b.inside;
        end_small = b.small;
        begins = b.begins;
        complete = l.complete;
        spans = l.spans;
        few = l.few;
        some = l.some;
        none = l.none;
        region = l.region;
        fills = l.fills;
      }

  -- the other way: rules that pass and a list that is walked
  pub file_judged : Rules s → extensions_of (layout_of s) s ≡ listed xs → judgement s ≡ listed xs
  unfolding judgement
  file_judged r w = rw (clear_accepted (rules_clear s r)) w

-- its reading
pub file_reads : (s : List ℕ) (xs : List Span) → AcceptedFile s xs → reading_of s ≡ accepted_with s (layout_of s) (length xs) (spans_of xs)
unfolding reading_of
file_reads s xs f = ap (reading_by s) f.judged

-- of a file that reading accepts
pub record IsFile (s : List ℕ) : Type 0 where
  pub list : List Span
  pub file : AcceptedFile s list

pub accepted_file : (s : List ℕ) → IsAccepted s → IsFile s
unfolding reading_of
accepted_file s a = by (judgement s) refl a
  where
    by : (w : Walked) → judgement s ≡ w → (reading_by s w).verdict ≡ no_refusal → IsFile s
    by (listed xs) e d = record { list = xs; file = judged_file s xs e }
    by (stopped r) e d = refused_never d

-- ---- Accepted exactly when

-- a file's list of extensions
pub record Lists (s : List ℕ) : Type 0 where
  pub list : List Span
  pub walked : extensions_of (layout_of s) s ≡ listed list

module _ (s : List ℕ) where
  -- "A file is accepted when none of 1..15 holds of its bytes": exactly when no row of 1..12 does and the walk lists
  pub accepted_exactly : IsAccepted s ↔ (Clear (file_rows s) × Lists s)
  unfolding reading_of judgement
  accepted_exactly = (
    λ a. let f = accepted_file s a in (rules_clear s f.file.rules, record { list = f.list; walked = f.file.walked }),
    λ p. rw (clear_accepted p.0, p.1.walked),
  )

-- ---- The record of an accepted file

-- an offset that rule 9 passes with a file passes without one
first_false : (a b : Bool) → (a || b) ≡ false → (a || false) ≡ false
first_false true b e = e
first_false false b e = refl

no_file : (kind : Kind) (n len : ℕ) → offset_outside kind n len ≡ false → offset_outside kind n 0 ≡ false
no_file Single n len e = e
no_file Pair n len e = first_false (ltb offset_limit n) (ltb offset_limit len) e

-- and so the fields of a file that the rules pass make a record that passes
pub shape_rows_lem : (s : List ℕ) → Rules s → Clear (shape_rows (shape_of s))
unfolding shape_in holds_in
shape_rows_lem s r =
    let t = r.fields in
    let two : not (one_to_seven (dim_at (shape_of s).dim 0)) ≡ false = rw r.ordered in
    one two
    (fields_clear (shape_of s) 0
    record {
      axes = t.axes;
      format = t.format;
      known = t.known;
      bits = t.bits;
      whole = t.whole;
      inside = no_file (kind_of s) (whole_of (shape_of s).vox_offset) (length s) t.inside;
      small = t.small;
    })

module _ (s : List ℕ) (a : IsAccepted s) where
  abbrev pub accepted_list : List Span
  accepted_list = (accepted_file s a).list

  -- its reading is made of its layout and its list,
  pub accepted_reads : reading_of s ≡ accepted_with s (layout_of s) (length accepted_list) (spans_of accepted_list)
  accepted_reads = file_reads s accepted_list (accepted_file s a).file

  pub accepted_image : (reading_of s).image ≡ image_of (shape_of s)
  accepted_image = ap (λ (r : Reading). r.image) accepted_reads

  -- it has the fields that were judged,
  pub accepted_shape : shape_of_record (reading_of s).header ≡ shape_of s
  unfolding header_of shape_in
  accepted_shape = ap (λ (r : Reading). shape_of_record r.header) accepted_reads

  -- and the sizes that its dims and datatype give (02-change-requests.md, P4),
  pub accepted_sizes : (reading_of s).header.sizes ≡ sizes_of (reading_of s).header.dim (reading_of s).header.intent.datatype
  accepted_sizes = rw accepted_reads

  -- and the fact that its offset's reading says (P6),
  pub accepted_aligned : (reading_of s).header.aligned ≡ aligned_of (reading_of s).header.scale.vox_offset
  accepted_aligned = rw accepted_reads

  pub accepted_fact : (reading_of s).header.aligned ≡ aligned_file s
  accepted_fact = accepted_aligned ∙ ap aligned_in accepted_shape

  -- and passes the rules of a record
  pub accepted_record : Clear (record_rows (reading_of s).header)
  accepted_record =
      subst (λ (f : Shape). Clear (shape_rows f)) (sym accepted_shape) (shape_rows_lem s (accepted_file s a).file.rules)

  -- the record's image is the one that was answered, and a single file holds it
  pub record_image : image_of (shape_of_record (reading_of s).header) ≡ (reading_of s).image
  record_image = ap image_of accepted_shape ∙ sym accepted_image

  pub record_whole : cut_short (reading_of s).header.kind (length s) (image_of (shape_of_record (reading_of s).header)) ≡ false
  unfolding shape_in
  record_whole =
      (λ i. cut_short (accepted_shape i).kind (length s) (image_of (accepted_shape i))) ∙ (accepted_file s a).file.rules.whole

-- no reading has more extensions than the limit
pub count_most : (s : List ℕ) → (reading_of s).header.count ≤ extension_limit
unfolding reading_of header_of
count_most s = by (judgement s) refl
  where
    by : (w : Walked) → judgement s ≡ w → (reading_by s w).header.count ≤ extension_limit
    by (listed xs) e = (judged_file s xs e).few
    by (stopped r) e = omega arith

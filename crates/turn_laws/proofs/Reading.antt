-- The turned file, read again: none of rules 1 to 15 holds of it, its extensions are the old ones, and its record is the old one after the
-- turn.
use Rattle.refusal.specs.Table.{no_refusal}
use Prim.Native.Nat.{ℕ, ◌+◌, ◌-◌, ◌/◌, ◌≤◌, ◌<◌}
use mathlib.Core.Path.{◌≡◌, refl, sym, ap, subst, ◌∙◌}
use mathlib.Core.Bool.{Bool, true, false, cond, true≢false}
use mathlib.Core.List.{List, []}
use native.Mathlib.Omega.{arith}
use borrow.Author.Tests.{ltb-false}
use lib.ListN.{length, get_or, take, drop, length-append, length-drop}
use lib.Seq.{get_or-drop}
use Rattle.field.specs.declared.Order.{Order}
use Rattle.field.specs.declared.Order.TheVariants.{Little, Big}
use Rattle.field.specs.Numbers.{bytes_at}
use Rattle.field.proofs.Tabulate.{tabulate_same}
use Rattle.number.proofs.Lists.{drop-take}
use Rattle.number.specs.Natural.{natural_of}
use Rattle.number.specs.Same.{same_numbers}
use Rattle.number.proofs.Same.{same_is}
use Rattle.offset.specs.Offset.{whole_of}
use Rattle.grid.specs.Axes.{dim_at}
use Rattle.grid.specs.Sizes.{no_sizes}
use Rattle.buffer.proofs.Laws.{part_put, get_d_put_before}
use Rattle.extension.specs.declared.Span.{Span}
use Rattle.extension.specs.Walk.{extension_limit, first_place, rest_of, listed, walk, extensions_in}
use Rattle.extension.specs.Listing.{spans_of}
use Rattle.header.specs.declared.Header.{Header}
use Rattle.header.specs.declared.Kind.{Kind}
use Rattle.header.specs.declared.Kind.TheVariants.{Single, Pair}
use Rattle.header.specs.Fields.{magic_of, header_of, with_facts}
use Rattle.encode.specs.Encode.{encode}
use Rattle.encode.proofs.Widths.{length-encode}
use Rattle.encode.proofs.Back.{Writable, facts_writable, header_read, read_writable}
use Rattle.rules.specs.declared.Shape.{Shape}
use Rattle.rules.specs.Rules.{one_to_seven, axis_count, bytes_of_image, image_of, shape_of_record, completed, cut_short, region_end}
use Rattle.rules.proofs.Passed.{Fields}
use Rattle.layout.specs.File.{holds_in, order_of, has_magic, kind_of, shape_in, shape_of, layout_of, end_of}
use Rattle.layout.specs.File.{extender_of, says_some, has_extensions}
use Rattle.reader.specs.declared.Reading.{Reading}
use Rattle.reader.specs.Reading.{extensions_of, reading_of, IsAccepted}
use Rattle.reader.proofs.File.{extended_region, Rules, AcceptedFile, judged_file, file_judged, file_reads}
use Rattle.reader.proofs.File.{accepted_file, shape_rows_lem, accepted_reads}
use Rattle.reader.proofs.Theorems.{never_both}
use Rattle.reorient.specs.declared.Turn.{Turn}
use Rattle.reorient.specs.Reorient.{is_permutation}
use Rattle.reorient_header.specs.After.{entries_after, dims_after, rows_after, has_sform, sform_after, header_after}
use Rattle.reorient_header.proofs.Written.{after_writable}
use Rattle.reorient_file.specs.Files.{holder_after, with_header, own_after, file_after}
use Rattle.reorient_file.proofs.Made.{length-holder, behind_header}
use Rattle.turn.proofs.Shown.{record_sized}
use Rattle.turn_laws.specs.Turns.{IsBytes}
use Rattle.turn_laws.proofs.Axes.{first_after, bytes_after}

-- ---- the byte order and the kind, by what a file's bytes read as

order_by : (o : Order) (s : List ℕ) → holds_in o s ≡ true → order_of s ≡ o
unfolding order_of
order_by Little s h = rw h
order_by Big s h = by (holds_in Little s) (never_both s)
  where
    by : (b : Bool) → (b ≡ true → holds_in Big s ≡ false) → cond b Little Big ≡ Big
    by true f = absurd (true≢false (sym h ∙ f refl))
    by false f = refl

kind_by_lem : (k : Kind) (s : List ℕ) → bytes_at 344 4 s ≡ magic_of k → (kind_of s ≡ k) × (has_magic k s ≡ true)
unfolding kind_of has_magic
kind_by_lem Single s e =
    (ap (λ (b : List ℕ). cond (same_numbers b (magic_of Single)) Single Pair) e, ap (λ (b : List ℕ). same_numbers b (magic_of Single)) e)
kind_by_lem Pair s e =
    (ap (λ (b : List ℕ). cond (same_numbers b (magic_of Single)) Single Pair) e, ap (λ (b : List ℕ). same_numbers b (magic_of Pair)) e)

-- the record of a file of bytes can be written
magic_is : (s : List ℕ) → has_magic (kind_of s) s ≡ true → bytes_at 344 4 s ≡ magic_of (kind_of s)
unfolding has_magic
magic_is s e = same_is (bytes_at 344 4 s) (magic_of (kind_of s)) e

pub bytes_writable : (s : List ℕ) (a : IsAccepted s) → IsBytes s → Writable (reading_of s).header
bytes_writable s a all =
    let r = (accepted_file s a).file.rules in
    subst (λ (x : Reading). Writable x.header) (sym (accepted_reads s a))
    (facts_writable _ _ (read_writable (order_of s) s all (kind_of s) _ _ r.size (magic_is s r.magic)))

module _ (s : List ℕ) (xs : List Span) (f : AcceptedFile s xs) (t : Turn) (ht : is_permutation t ≡ true) where
  abbrev o : Order
  o = order_of s

  abbrev k : Kind
  k = kind_of s

  abbrev old : Header
  old = completed (header_of o k (length xs) (spans_of xs) s)

  abbrev new : List ℕ
  new = file_after t old s

  abbrev own : List ℕ
  own = own_after old.kind t old s

  -- ---- the bytes behind the header

  room : (kind : Kind) → k ≡ kind → length (own_after kind t old s) ≡ length s
  unfolding header_of shape_in
  room Single e = length-holder t old s ht (record_sized old (shape_rows_lem s f.rules)) (ltb-false (length s) _ (rw e at f.rules.whole))
  room Pair e = refl

  length_own : length own ≡ length s
  unfolding header_of
  length_own = room k refl

  pub new_length : length new ≡ length s
  unfolding file_after with_header
  new_length =
      let n = length-encode (header_after t old) in
      let l = f.rules.long in
      length-append (encode (header_after t old)) (drop 348 own) ∙ rw (n, length-drop) (omega (arith, length_own))

  behind : (from : ℕ) → 348 ≤ from → drop from new ≡ drop from own
  unfolding file_after
  behind from l = behind_header (header_after t old) own from l

  -- up to the end of the region of the extensions they are the old ones
  same_part : (kind : Kind) → k ≡ kind → (from n : ℕ) → 348 ≤ from → from + n ≤ region_end kind (image_of (shape_of s)) (length s)
      → take n (drop from (own_after kind t old s)) ≡ take n (drop from s)
  unfolding holder_after header_of shape_in
  same_part Single e from n h l =
      part_put s (image_of (shape_of s)).offset _ from n l (omega (arith, ltb-false (length s) _ (rw e at f.rules.whole)))
  same_part Pair e from n h l = refl

  pub new_part : (from n : ℕ) → 348 ≤ from → from + n ≤ end_of s → take n (drop from new) ≡ take n (drop from s)
  unfolding header_of end_of
  new_part from n h l = ap (take n) (behind from h) ∙ same_part k refl from n h l

  own_extender : (kind : Kind) → k ≡ kind → (i : ℕ) → i < 4 → get_or (own_after kind t old s) (348 + i) 0 ≡ get_or s (348 + i) 0
  unfolding holder_after header_of shape_in
  own_extender Single e i h =
      get_d_put_before s (image_of (shape_of s)).offset _ (348 + i) (omega (arith, f.begins e))
      (omega (arith, ltb-false (length s) _ (rw e at f.rules.whole)))
  own_extender Pair e i h = refl

  new_extender : extender_of new ≡ extender_of s
  unfolding header_of
  new_extender =
      tabulate_same (λ i. get_or new (348 + i) 0) (λ i. get_or s (348 + i) 0) 4
      (λ i h.
      sym (get_or-drop 348 new i 0)
      ∙ ap (λ (l : List ℕ). get_or l i 0) (behind 348 (omega arith))
      ∙ get_or-drop 348 own i 0
      ∙ own_extender k refl i h)

  new_some : has_extensions new ≡ has_extensions s
  unfolding has_extensions
  new_some = ap says_some new_extender

  module _ (w : Writable old) where
    -- ---- the header

    new_header : header_of o k (length xs) (spans_of xs) new ≡ with_facts no_sizes false (header_after t old)
    unfolding file_after with_header header_after header_of
    new_header = header_read (header_after t old) (drop 348 own) (after_writable t old w)

    -- its byte order is the old one, for dim[0] is,
    new_holds : holds_in o new ≡ true
    unfolding holds_in header_of header_after entries_after
    new_holds = ap (λ (h : Header). one_to_seven (dim_at h.dim 0)) new_header ∙ f.rules.ordered

    pub new_order : order_of new ≡ o
    new_order = order_by o new new_holds

    -- and so is its kind
    new_magic : bytes_at 344 4 new ≡ magic_of k
    unfolding header_of header_after sform_after rows_after
    new_magic = ap (λ (h : Header). h.rows.magic) new_header ∙ by (has_sform old) ∙ magic_is s f.rules.magic
      where
        by : (b : Bool) → (cond b (rows_after t old.dim old.rows) old.rows).magic ≡ old.rows.magic
        by true = refl
        by false = refl

    new_kinds : (kind_of new ≡ k) × (has_magic k new ≡ true)
    new_kinds = kind_by_lem k new new_magic

    pub new_kind : kind_of new ≡ k
    new_kind = new_kinds.0

    -- ---- the fields that rules 5 to 10 judge: the old ones but for the dims
    abbrev shape : Shape
    shape = shape_in o k s

    abbrev turned : Shape
    turned =
        record {
          kind = k;
          dim = dims_after t shape.dim;
          datatype = shape.datatype;
          bitpix = shape.bitpix;
          vox_offset = shape.vox_offset;
        }

    new_shape : shape_of new ≡ turned
    unfolding shape_in header_of header_after
    new_shape = (λ i. shape_in (new_order i) (new_kind i) new) ∙ ap shape_of_record new_header

    module _ (three : 3 ≤ axis_count old.dim) where
      few : axis_count old.dim ≤ 7
      unfolding header_of shape_in
      few = (record_sized old (shape_rows_lem s f.rules)).axes

      new_bytes : bytes_of_image turned ≡ bytes_of_image shape
      unfolding shape_in header_of entries_after
      new_bytes = bytes_after t shape.dim ht (axis_count shape.dim) three few (natural_of shape.bitpix / 8)

      pub new_image : image_of (shape_of new) ≡ image_of (shape_of s)
      new_image = ap image_of new_shape ∙ (λ i. record { offset = whole_of shape.vox_offset; bytes = new_bytes i })

      -- ---- the rules, and the list

      fields_new : Fields turned (length s)
      unfolding shape_in header_of entries_after
      fields_new =
          let r = f.rules.fields in
          record {
            axes = first_after t shape.dim ht (axis_count shape.dim) three r.axes;
            format = r.format;
            known = r.known;
            bits = r.bits;
            whole = r.whole;
            inside = r.inside;
            small = omega (arith, new_bytes, r.small);
          }

      rules_new : Rules new
      unfolding header_of header_after
      rules_new =
          let r = f.rules in
          let n = new_length in
          record {
            long = omega (arith, r.long);
            ordered = rw new_order new_holds;
            size = rw new_order (ap (λ (h : Header). h.key.sizeof_hdr) new_header ∙ r.size);
            magic = rw new_kind new_kinds.1;
            fields = rw (new_shape, n) fields_new;
            whole = (λ i. cut_short (new_kind i) (n i) (new_image i)) ∙ r.whole;
            extended = rw (new_kind, n) r.extended;
          }

      new_rest : has_extensions s ≡ true → rest_of new (end_of s) first_place ≡ rest_of s (end_of s) first_place
      new_rest e =
          let b = extended_region s f.rules e in
          drop-take first_place (end_of s) new
          ∙ new_part first_place (end_of s - first_place) (omega arith) (omega arith)
          ∙ sym (drop-take first_place (end_of s) s)

      walked_new : extensions_of (layout_of new) new ≡ listed xs
      unfolding extensions_in end_of
      walked_new =
          (λ i. cond (new_some i) (extensions_in (new_order i) (region_end (new_kind i) (new_image i) (new_length i)) new) (listed []))
          ∙ by (has_extensions s) refl
          ∙ f.walked
        where
          by : (b : Bool) → has_extensions s ≡ b
              → cond b (extensions_in o (end_of s) new) (listed []) ≡ cond b (extensions_in o (end_of s) s) (listed [])
          by true e = ap (walk o extension_limit first_place) (new_rest e)
          by false e = refl

      pub new_file : AcceptedFile new xs
      new_file = judged_file new xs (file_judged new xs rules_new walked_new)

      -- its reading
      pub new_reads : reading_of new ≡ record { verdict = no_refusal; header = completed (header_after t old); image = image_of (shape_of s) }
      new_reads =
          file_reads new xs new_file
          ∙ (λ i. record {
            verdict = no_refusal;
            header = completed (header_of (new_order i) (new_kind i) (length xs) (spans_of xs) new);
            image = new_image i;
          })
          ∙ (λ i. record { verdict = no_refusal; header = completed (new_header i); image = image_of (shape_of s) })

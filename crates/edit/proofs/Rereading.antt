-- The fresh file, read again: none of rules 1 to 15 holds of it, its extensions are the edited list, and its record is the old one after
-- the edit.
use Rattle.refusal.specs.Table.{no_refusal}
use Prim.Native.Nat.{ℕ, suc, ◌+◌, ◌-◌, ◌%◌, ◌≤◌, ◌<◌}
use mathlib.Core.Path.{◌≡◌, refl, sym, ap, ◌∙◌}
use mathlib.Core.Bool.{true, false, and-false}
use mathlib.Core.List.{List, [], ◌∷◌, ◌++◌, append_assoc}
use native.Mathlib.Omega.{arith}
use borrow.Author.Tests.{ltb-false, le-ltb}
use lib.Dec.{ltb}
use lib.IntN.{nat_abs}
use lib.ListN.{length, get_or, take, drop, length-append, length-drop}
use lib.Seq.{take_at, drop_at}
use mir.Syntax.{w32}
use mir.Val.{to_z}
use Rattle.field.specs.declared.Order.{Order}
use Rattle.field.specs.Numbers.{u32_at, i32_at, joined}
use Rattle.field.proofs.Tabulate.{bytes_at_part}
use Rattle.number.proofs.Lists.{drop-take}
use Rattle.offset.specs.Offset.{offset_limit, offset_bits, is_whole, whole_of, aligned_of}
use Rattle.offset.proofs.Back.{back_whole, back_value, back_aligned}
use Rattle.extension.specs.declared.Span.{Span}
use Rattle.extension.specs.Walk.{extension_limit, first_place, listed, extensions_in}
use Rattle.extension.specs.Listing.{spans_of}
use Rattle.extension.specs.Pieces.{pieces, AllComplete, none, one, spans_from}
use Rattle.extension.proofs.Pieces.{placed_listed, length-spans_from}
use Rattle.header.specs.declared.Kind.{Kind}
use Rattle.header.specs.declared.Kind.TheVariants.{Single, Pair}
use Rattle.header.specs.Fields.{header_of}
use Rattle.header.proofs.Distinct.{single_never}
use Rattle.rules.specs.declared.Shape.{Shape}
use Rattle.rules.specs.declared.Image.{Image}
use Rattle.rules.specs.Rules.{image_of, aligned_in, offset_outside, shape_of_record, completed, cut_short, region_end}
use Rattle.rules.proofs.Passed.{neither, Fields}
use Rattle.layout.specs.File.{order_of, kind_of, shape_in, shape_of, cut_extender, extender_of, says_some, has_extensions}
use Rattle.layout.specs.File.{aligned_file, layout_of, end_of}
use Rattle.reader.specs.declared.Reading.{Reading}
use Rattle.reader.specs.Reading.{extensions_of, reading_of}
use Rattle.reader.proofs.File.{region_of, Rules, AcceptedFile, judged_file, file_judged, file_reads}
use Rattle.edit_plan.specs.Fresh.{extension_list, tail_by, tail_of, extender_for, end_for, head_for, fresh_file}
use Rattle.edit_plan.specs.Planned.{aligned_after}
use Rattle.edit_plan.proofs.Planning.{length_extender, length_top, length-fresh}
use Rattle.edit.specs.After.{anew_in, read_after}
use Rattle.edit.proofs.Keeping.{agrees, same_holds, same_order, same_magic, same_kind, header_is}

-- the spans of complete extensions cut them out of their joined bytes again
pieces_joined : {order : Order} (at : ℕ) {xs : List (List ℕ)} → AllComplete order xs → pieces (spans_from order at xs) (joined xs) ≡ xs
unfolding pieces spans_from
pieces_joined at none = refl
pieces_joined {order} at (one {x} {xs} w ws) =
    let n : nat_abs (i32_at order x 0) ≡ length x = ap nat_abs w.size in
    rw (n, take_at x (joined xs) (length x) refl, drop_at x (joined xs) (length x) refl, pieces_joined (at + length x) ws)

-- ---- the fields

abbrev reshaped : ℕ → Shape → Shape
reshaped end s =
    record {
      kind = s.kind;
      dim = s.dim;
      datatype = s.datatype;
      bitpix = s.bitpix;
      vox_offset = anew_in s.kind (offset_bits end) s.vox_offset;
    }

-- where a region may end
pub record Ends (end : ℕ) : Type 0 where
  pub units : end % 16 ≡ 0
  pub least : first_place ≤ end
  pub most : end ≤ offset_limit

-- rules 8 and 9 of the new offset
offset_passes : (kind : Kind) (end bits len len' : ℕ) → Ends end → (kind ≡ Pair → len' ≤ offset_limit) → is_whole bits ≡ true
    → offset_outside kind (whole_of bits) len ≡ false
    → (is_whole (anew_in kind (offset_bits end) bits) ≡ true) × (offset_outside kind (whole_of (anew_in kind (offset_bits end) bits)) len' ≡ false)
offset_passes Single end bits len len' e p w o =
    (back_whole end e.units e.most, rw (back_value end e.units e.most, le-ltb end 352 e.least, le-ltb offset_limit end e.most))
offset_passes Pair end bits len len' e p w o =
    let n = neither (ltb offset_limit (whole_of bits)) (ltb offset_limit len) o in
    (w, rw (n.0, le-ltb offset_limit len' (p refl)))

fields_new : (end len len' : ℕ) (s : Shape) → Ends end → (s.kind ≡ Pair → len' ≤ offset_limit) → Fields s len → Fields (reshaped end s) len'
fields_new end len len' s e p t =
    let o = offset_passes s.kind end s.vox_offset len len' e p t.whole t.inside in
    record { axes = t.axes; format = t.format; known = t.known; bits = t.bits; whole = o.0; inside = o.1; small = t.small }

-- rules 11 and 12
short_by : (kind : Kind) (len : ℕ) (image : Image) → (kind ≡ Single → image.offset + image.bytes ≤ len) → cut_short kind len image ≡ false
short_by Single len image h = le-ltb len (image.offset + image.bytes) (h refl)
short_by Pair len image h = refl

extender_by : (kind : Kind) (len : ℕ) → first_place ≤ len → cut_extender kind len ≡ false
extender_by Single len h = refl
extender_by Pair len h = rw (le-ltb len 352 h) (and-false (ltb 348 len))

-- what rule 11 left known of the old file
long_by : (kind : Kind) (len : ℕ) (image : Image) → cut_short kind len image ≡ false → kind ≡ Single → image.offset + image.bytes ≤ len
long_by Single len image e k = ltb-false len (image.offset + image.bytes) e
long_by Pair len image e k = single_never (sym k)

-- T by the kind
tail_pair : (f : List ℕ) → kind_of f ≡ Pair → tail_of f ≡ []
unfolding tail_of
tail_pair f k = rw k

pub tail_single : (f : List ℕ) → kind_of f ≡ Single → tail_of f ≡ drop (image_of (shape_of f)).offset f
unfolding tail_of
tail_single f k = rw k

module _ (f : List ℕ) (xs : List (List ℕ)) (long : 348 ≤ length f) where
  abbrev g : List ℕ
  g = fresh_file f xs

  abbrev head : List ℕ
  head = head_for (kind_of f) (order_of f) (end_for xs) (take 348 f)

  -- the fields that rules 5 to 10 judge are the old ones but for a single file's vox_offset
  shape_is : shape_of g ≡ reshaped (end_for xs) (shape_of f)
  unfolding shape_in header_of
  shape_is = ap shape_of_record (header_is f xs long 0 [])

  -- ---- the bytes behind the header

  front_of_lem : g ≡ (head ++ extender_for f xs) ++ (joined xs ++ tail_of f)
  unfolding fresh_file
  front_of_lem = sym (append_assoc head (extender_for f xs) (joined xs ++ tail_of f))

  front_long : length (head ++ extender_for f xs) ≡ first_place
  front_long =
      let x = length_extender f xs in
      let l = length_top (kind_of f) (order_of f) (end_for xs) f long in
      length-append head (extender_for f xs) ∙ omega arith

  pub extender_at : extender_of g ≡ extender_for f xs
  unfolding fresh_file
  extender_at =
      let n = length-fresh f xs long in
      let l = length_top (kind_of f) (order_of f) (end_for xs) f long in
      bytes_at_part 348 4 g (omega arith)
      ∙ rw (drop_at head (extender_for f xs ++ (joined xs ++ tail_of f)) 348 l) (take_at (extender_for f xs) (joined xs ++ tail_of f) 4 (length_extender f xs))

  some_is : has_extensions g ≡ says_some (extender_for f xs)
  unfolding has_extensions
  some_is = ap says_some extender_at

  pub new_long : first_place ≤ length g
  new_long = let n = length-fresh f xs long in omega arith

  -- ---- the rules, and the list

  module _ (e : Ends (end_for xs)) where
    -- in a single file the image moves to the new region's end; it has the bytes that it had
    pub image_is : image_of (shape_of g) ≡ record { offset = anew_in (kind_of f) (end_for xs) (image_of (shape_of f)).offset; bytes = (image_of (shape_of f)).bytes }
    unfolding shape_in
    image_is = ap image_of shape_is ∙ (λ i. record { offset = by (kind_of f) i; bytes = (image_of (shape_of f)).bytes })
      where
        by : (k : Kind) → whole_of (anew_in k (offset_bits (end_for xs)) (u32_at (order_of f) f 108)) ≡ anew_in k (end_for xs) (whole_of (u32_at (order_of f) f 108))
        by Single = back_value (end_for xs) e.units e.most
        by Pair = refl

    -- and its offset is aligned; a pair's is what it was
    pub aligned_is : aligned_file g ≡ aligned_after (kind_of f) (aligned_file f)
    unfolding shape_in
    aligned_is = ap aligned_in shape_is ∙ by (kind_of f)
      where
        by : (k : Kind) → aligned_of (anew_in k (offset_bits (end_for xs)) (u32_at (order_of f) f 108)) ≡ aligned_after k (aligned_of (u32_at (order_of f) f 108))
        by Single = back_aligned (end_for xs) e.units e.most
        by Pair = refl

    image_moved : kind_of f ≡ Single → (image_of (shape_of g)).offset ≡ end_for xs
    image_moved k = ap (λ (i : Image). i.offset) image_is ∙ ap (λ (x : Kind). anew_in x (end_for xs) (image_of (shape_of f)).offset) k

    image_bytes_lem : (image_of (shape_of g)).bytes ≡ (image_of (shape_of f)).bytes
    image_bytes_lem = ap (λ (i : Image). i.bytes) image_is

    end_is : end_of g ≡ end_for xs
    unfolding end_of
    end_is = ap (λ (k : Kind). region_end k (image_of (shape_of g)) (length g)) (same_kind f xs long) ∙ by (kind_of f) refl
      where
        by : (k : Kind) → kind_of f ≡ k → region_end k (image_of (shape_of g)) (length g) ≡ end_for xs
        by Single k = image_moved k
        by Pair k = length-fresh f xs long ∙ rw (tail_pair f k) (omega arith)

    end_pair : kind_of f ≡ Pair → length g ≤ offset_limit
    end_pair k =
        let n : length g ≡ end_for xs + 0 = length-fresh f xs long ∙ rw (tail_pair f k) in
        let m = e.most in
        omega arith

    image_fits : cut_short (kind_of f) (length f) (image_of (shape_of f)) ≡ false → kind_of g ≡ Single
        → (image_of (shape_of g)).offset + (image_of (shape_of g)).bytes ≤ length g
    image_fits r k =
        let q : kind_of f ≡ Single = sym (same_kind f xs long) ∙ k in
        let o = (image_of (shape_of f)).offset in
        let t : length (tail_of f) ≡ length f - o = rw (tail_single f q) (length-drop o f) in
        let b = long_by (kind_of f) (length f) (image_of (shape_of f)) r q in
        omega (arith, length-fresh f xs long, image_moved q, image_bytes_lem, t, b)

    rules_new : Rules f → Rules g
    unfolding shape_in
    rules_new r =
        let l = new_long in
        record {
          long = omega arith;
          ordered = rw (same_order f xs long, same_holds f xs long (order_of f)) r.ordered;
          size = rw (same_order f xs long) (ap (λ (w : List ℕ). to_z w32 (get_or w 0 0)) ((agrees f xs long (order_of f)).words 0 1 refl) ∙ r.size);
          magic = rw (same_kind f xs long, same_magic f xs long (kind_of f)) r.magic;
          fields = rw shape_is (fields_new (end_for xs) (length f) (length g) (shape_of f) e end_pair r.fields);
          whole = short_by (kind_of g) (length g) (image_of (shape_of g)) (image_fits r.whole);
          extended = extender_by (kind_of g) (length g) l;
        }

    module _ (ws : AllComplete (order_of f) xs) (few : length xs ≤ extension_limit) where
      abbrev ss : List Span
      ss = spans_from (order_of f) first_place xs

      placed : 0 < length xs → extensions_in (order_of g) (end_of g) g ≡ listed ss
      placed some =
          (λ i. extensions_in (same_order f xs long i) (end_is i) (front_of_lem i))
          ∙ placed_listed (order_of f) (head ++ extender_for f xs) (tail_of f) front_long ws some few

      walked : extensions_of (layout_of g) g ≡ listed ss
      unfolding end_of spans_from
      walked = by xs refl
        where
          by : (ys : List (List ℕ)) → xs ≡ ys → extensions_of (layout_of g) g ≡ listed ss
          by [] q =
              let t : has_extensions g ≡ false = some_is ∙ ap (λ (zs : List (List ℕ)). says_some (extender_for f zs)) q in
              rw t (ap (λ (zs : List (List ℕ)). listed (spans_from (order_of f) first_place zs)) (sym q))
          by (y ∷ ys) q =
              let t : has_extensions g ≡ true = some_is ∙ ap (λ (zs : List (List ℕ)). says_some (extender_for f zs)) q in
              let n : length xs ≡ suc (length ys) = ap length q in
              rw t (placed (omega arith))

      -- it is accepted,
      pub new_file : Rules f → AcceptedFile g ss
      new_file r = judged_file g ss (file_judged g ss (rules_new r) walked)

      region_is : region_of g ≡ joined xs
      region_is =
          let h = head ++ extender_for f xs in
          let r = joined xs ++ tail_of f in
          let n : end_for xs - first_place ≡ length (joined xs) = omega arith in
          (λ i. drop first_place (take (end_is i) (front_of_lem i)))
          ∙ rw (drop-take first_place (end_for xs) (h ++ r), drop_at h r first_place front_long, n) (take_at (joined xs) (tail_of f) (length (joined xs)) refl)

      -- its extensions are the list,
      pub list_new : Rules f → extension_list g ≡ xs
      unfolding extension_list
      list_new r = rw ((new_file r).judged, region_is) (pieces_joined first_place ws)

      -- and its reading is the old one after the edit
      pub reads_new : (old : List Span) → AcceptedFile f old → reading_of g ≡ read_after (reading_of f) xs
      unfolding header_of shape_in
      reads_new old a =
          let n : length ss ≡ length xs = length-spans_from (order_of f) first_place xs in
          file_reads g ss (new_file a.rules)
          ∙ (λ i. record { verdict = no_refusal; header = completed (header_is f xs long (n i) (spans_of ss) i); image = image_is i })
          ∙ sym (ap (λ (r : Reading). read_after r xs) (file_reads f old a))

    pub tail_new : tail_of g ≡ tail_of f
    unfolding tail_of
    tail_new = ap (λ (k : Kind). tail_by k (image_of (shape_of g)).offset g) (same_kind f xs long) ∙ by (kind_of f) refl
      where
        by : (k : Kind) → kind_of f ≡ k → tail_by k (image_of (shape_of g)).offset g ≡ tail_by k (image_of (shape_of f)).offset f
        by Single k =
            let h = head ++ extender_for f xs in
            let n : length (h ++ joined xs) ≡ end_for xs = length-append h (joined xs) ∙ rw front_long in
            ap (λ (o : ℕ). drop o g) (image_moved k)
            ∙ ap (drop (end_for xs)) (front_of_lem ∙ sym (append_assoc h (joined xs) (tail_of f)))
            ∙ drop_at (h ++ joined xs) (tail_of f) (end_for xs) n
            ∙ tail_single f k
        by Pair k = refl

-- A file that reading accepts, cut into header, extensions and tail.
use Prim.Native.Nat.{ℕ, ◌+◌, ◌-◌, ◌≤◌, min, max}
use mathlib.Core.Path.{◌≡◌, refl, sym, ap, ◌∙◌}
use mathlib.Core.Bool.{Bool, true, false, not}
use mathlib.Core.List.{List, [], ◌++◌}
use native.Mathlib.Omega.{arith}
use borrow.Author.Tests.{ne_eqb}
use lib.Dec.{eqb}
use lib.ListN.{length, take, drop, length-drop, take-append-drop, drop_of_length-le}
use lib.Seq.{drop-append-le, length-take-le}
use Rattle.field.specs.Numbers.{joined}
use Rattle.extension.specs.declared.Span.{Span}
use Rattle.extension.specs.Walk.{first_place}
use Rattle.extension.specs.Pieces.{pieces, AllComplete, spans_from}
use Rattle.extension.proofs.Pieces.{length-spans_from}
use Rattle.extension.proofs.Regions.{length_rest}
use Rattle.header.specs.declared.Kind.{Kind}
use Rattle.header.specs.declared.Kind.TheVariants.{Single, Pair}
use Rattle.rules.specs.declared.Image.{Image}
use Rattle.rules.specs.Rules.{image_of, region_end}
use Rattle.layout.specs.File.{order_of, kind_of, shape_of, has_extensions, end_of}
use Rattle.reader.proofs.File.{region_of, AcceptedFile}
use Rattle.edit_plan.specs.Fresh.{extension_list, tail_by, tail_of}
use Rattle.edit_plan.proofs.Exchanging.{joined_some}

-- a file whose bytes from 352 on are its extensions and its tail
pub record Cut (f : List ℕ) : Type 0 where
  pub base : max (end_of f) first_place ≡ first_place + length (joined (extension_list f))
  pub rest : drop first_place f ≡ joined (extension_list f) ++ tail_of f
  pub whole : max (length f) first_place ≡ first_place + length (joined (extension_list f)) + length (tail_of f)

tail_by_lem : (kind : Kind) (image : Image) (f : List ℕ) → (kind ≡ Single → first_place ≤ image.offset)
    → drop (max (region_end kind image (length f)) first_place) f ≡ tail_by kind image.offset f
tail_by_lem Single image f b = let e : max image.offset first_place ≡ image.offset = omega (arith, b refl) in rw e
tail_by_lem Pair image f b = drop_of_length-le f {i = max (length f) first_place} (omega arith)

module _ (f : List ℕ) (ss : List Span) (a : AcceptedFile f ss) where
  -- its extensions with their bytes
  list_is : extension_list f ≡ pieces ss (region_of f)
  unfolding extension_list
  list_is = rw a.judged

  pub list_complete : AllComplete (order_of f) (extension_list f)
  list_complete = rw list_is a.complete

  pub list_spans : spans_from (order_of f) first_place (extension_list f) ≡ ss
  list_spans = rw list_is a.spans

  pub length_list : length (extension_list f) ≡ length ss
  length_list = sym (length-spans_from (order_of f) first_place (extension_list f)) ∙ ap length list_spans

  -- there are none exactly where the extender doesn't say that there are some
  pub none_listed : eqb (length ss) 0 ≡ not (has_extensions f)
  none_listed = by (has_extensions f) refl
    where
      by : (t : Bool) → has_extensions f ≡ t → eqb (length ss) 0 ≡ not t
      by true h = let s = a.some h in ne_eqb (length ss) 0 (λ z. omega arith)
      by false h = rw (a.none h)

  -- ---- the cut

  tail_is : drop (max (end_of f) first_place) f ≡ tail_of f
  unfolding end_of tail_of
  tail_is = tail_by_lem (kind_of f) (image_of (shape_of f)) f a.begins

  -- where extensions stand, or none do and nothing is between 352 and the region's end
  cut_some : has_extensions f ≡ true → Cut f
  cut_some h =
      let j : joined (extension_list f) ≡ region_of f = rw list_is (a.region h) in
      let i = a.end_inside in
      let l : length (joined (extension_list f)) ≡ min (end_of f) (length f) - first_place = ap length j ∙ length_rest f (end_of f) first_place in
      let s = joined_some list_complete (omega (arith, length_list, a.some h)) in
      let b : max (end_of f) first_place ≡ end_of f = omega arith in
      let n : length (take (end_of f) f) ≡ end_of f = length-take-le (end_of f) f i in
      let d : drop first_place f ≡ region_of f ++ drop (end_of f) f =
      ap (drop first_place) (sym (take-append-drop (end_of f) f)) ∙ drop-append-le first_place (take (end_of f) f) (drop (end_of f) f) (omega arith) in
      let t : drop (end_of f) f ≡ tail_of f = rw b at tail_is in
      let k : length (tail_of f) ≡ length f - end_of f = rw t at (length-drop (end_of f) f) in
      record { base = omega arith; rest = d ∙ rw (j, t); whole = omega arith }

  cut_none : has_extensions f ≡ false → end_of f ≤ first_place → Cut f
  unfolding pieces
  cut_none h e =
      let i = a.end_inside in
      let x : extension_list f ≡ [] = list_is ∙ rw (a.none h) in
      let b : max (end_of f) first_place ≡ first_place = omega arith in
      let t : drop first_place f ≡ tail_of f = rw b at tail_is in
      let k : length (tail_of f) ≡ length f - first_place = rw t at (length-drop first_place f) in
      record { base = rw x (omega arith); rest = rw x t; whole = rw x (omega arith) }

  pub cut : (has_extensions f ≡ false → end_of f ≤ first_place) → Cut f
  cut none_before = by (has_extensions f) refl
    where
      by : (t : Bool) → has_extensions f ≡ t → Cut f
      by true h = cut_some h
      by false h = cut_none h (none_before h)

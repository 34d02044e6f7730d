-- A swapped file as the reader sees it: every rule answers as it did, and the extensions are the same, so it is accepted and its
-- reading is the old one in the other byte order (`reading_swapped`).
use Rattle.refusal.specs.Table.{no_refusal}
use Prim.Native.Nat.{ℕ, ◌+◌, ◌-◌, ◌*◌, ◌≤◌, ◌<◌}
use mathlib.Core.Path.{◌≡◌, refl, sym, ap, ◌∙◌}
use mathlib.Core.Bool.{Bool, true, false}
use mathlib.Core.List.{List, [], ◌∷◌, ◌++◌}
use native.Mathlib.Omega.{arith}
use native.Mathlib.Nat.{mul-one}
use borrow.Author.Tests.{lt-leb, le-leb}
use lib.ListN.{length, take, drop, get_or, take-append-drop}
use lib.Seq.{get_or-drop}
use Rattle.field.specs.declared.Order.{Order}
use Rattle.field.specs.Numbers.{other, i32_at}
use Rattle.field.proofs.Tabulate.{tabulate_same}
use Rattle.number.proofs.Lists.{drop-take_add}
use Rattle.extension.specs.declared.Span.{Span}
use Rattle.extension.specs.Walk.{extension_limit, first_place, rest_of, walk, listed, extensions_in}
use Rattle.extension.specs.Listing.{spans_of}
use Rattle.extension.specs.Fills.{Fills}
use Rattle.header.specs.declared.Kind.{Kind}
use Rattle.header.specs.declared.Kind.TheVariants.{Single, Pair}
use Rattle.header.specs.Fields.{header_of, in_order}
use Rattle.rules.specs.declared.Image.{Image}
use Rattle.rules.specs.Rules.{image_of, completed, cut_short, region_end}
use Rattle.layout.specs.File.{holds_in, order_of, has_magic, kind_of, shape_in, shape_of, extender_of, has_extensions, cut_extender, layout_of, end_of}
use Rattle.reader.specs.Reading.{extensions_of, reading_of}
use Rattle.reader.proofs.File.{region_of, Rules, AcceptedFile, judged_file, file_judged, file_reads}
use Rattle.units.specs.Runs.{Run, run, turn_runs, header_runs}
use Rattle.units.proofs.Units.{turned_bytes}
use Rattle.units.proofs.Runs.{span_of, length-turn_runs, runs_append, runs_own, runs_behind, runs_middle, header_span}
use Rattle.units.proofs.Places.{units_at}
use Rattle.turning.specs.Turn.{unit_in, extension_runs}
use Rattle.turning.proofs.Turning.{fills_span}
use Rattle.byteswap.specs.Swap.{region_runs, own_image, file_runs}
use Rattle.byteswap.specs.Other.{read_in_other}
use Rattle.byteswap.proofs.Whole.{place_of, unit_for, room}
use Rattle.byteswap.proofs.Places.{text_same}
use Rattle.byteswap.proofs.Fields.{magic_same, kind_same, holds_same, order_other, size_same, shape_same, unit_same, header_same}
use Rattle.byteswap.proofs.Regions.{walk_turned}

-- ---- The extender

-- bytes that stay at the end
run_stays : (n : ℕ) (l : List ℕ) → turn_runs (run 1 n ∷ []) l ≡ l
unfolding turn_runs
run_stays n l = rw turned_bytes (take-append-drop (n * 1) l)

runs_stay : (rs : List Run) (n : ℕ) (l : List ℕ) → turn_runs (rs ++ (run 1 n ∷ [])) l ≡ turn_runs rs l
runs_stay rs n l =
    runs_append rs (run 1 n ∷ []) l
    ∙ ap (λ (d : List ℕ). turn_runs rs (take (span_of rs) l) ++ d) (run_stays n (drop (span_of rs) l))
    ∙ sym (runs_own rs l)

stay_at : (n : ℕ) (rs : List Run) → 4 ≤ n → units_at 1 4 348 (header_runs ++ (run 1 n ∷ rs)) ≡ true
stay_at n rs h = rw (mul-one n, lt-leb n 0 (omega arith), le-leb 4 n h)

-- a pair's header file may end at 348
extender_pair : (n : ℕ) (s : List ℕ) → span_of header_runs ≤ length s → extender_of (turn_runs (header_runs ++ (run 1 n ∷ [])) s) ≡ extender_of s
extender_pair n s room =
    let t : List ℕ = turn_runs header_runs s in
    let behind : drop 348 t ≡ drop 348 s = rw header_span at (runs_behind header_runs s room) in
    rw (runs_stay header_runs n s)
    (tabulate_same (λ i. get_or t (348 + i) 0) (λ i. get_or s (348 + i) 0) 4
    (λ i b. sym (get_or-drop 348 t i 0) ∙ ap (λ (l : List ℕ). get_or l i 0) behind ∙ get_or-drop 348 s i 0))

-- what follows the header's runs in a file's list
abbrev behind : Kind → Image → ℕ → ℕ → List Span → List Run
behind kind image unit len xs = region_runs (region_end kind image len) xs ++ own_image kind image unit

-- the four bytes behind the header stay
extender_same : (kind : Kind) (image : Image) (unit : ℕ) (s : List ℕ) (xs : List Span) → 348 ≤ length s
    → (kind ≡ Single → first_place ≤ image.offset) → span_of (header_runs ++ behind kind image unit (length s) xs) ≤ length s
    → extender_of (turn_runs (header_runs ++ behind kind image unit (length s) xs) s) ≡ extender_of s
extender_same kind image unit s (x ∷ xs) long begins room =
    text_same (header_runs ++ behind kind image unit (length s) (x ∷ xs)) s room 348 4 refl
extender_same Single image unit s [] long begins room =
    let least = begins refl in
    let own = own_image Single image unit in
    text_same (header_runs ++ behind Single image unit (length s) []) s room 348 4 (stay_at (image.offset - 348) own (omega arith))
extender_same Pair image unit s [] long begins room = extender_pair (length s - 348) s (rw header_span long)

-- ---- The extensions

rest_turned : (end : ℕ) (xs : List Span) (rs : List Run) (s : List ℕ) → 0 < length xs → Fills first_place end xs → end ≤ length s
    → rest_of (turn_runs (header_runs ++ (region_runs end xs ++ rs)) s) end first_place ≡ turn_runs (extension_runs xs) (rest_of s end first_place)
unfolding span_of
rest_turned end [] rs s some f h = absurd (omega arith)
rest_turned end (x ∷ xs) rs s some f h =
    let k : ℕ = span_of (extension_runs (x ∷ xs)) in
    let ends : 352 + k ≡ end = fills_span f in
    let t : List ℕ = turn_runs (header_runs ++ (region_runs end (x ∷ xs) ++ rs)) s in
    rw (← ends, drop-take_add 352 k t, drop-take_add 352 k s)
    (runs_middle (header_runs ++ (run 1 4 ∷ [])) (extension_runs (x ∷ xs)) rs s (omega arith))

-- ---- The reading

module _ {s : List ℕ} {xs : List Span} (f : AcceptedFile s xs) where
  abbrev rest : List Run
  rest = behind (kind_of s) (place_of s) (unit_for s) (length s) xs

  abbrev pub swapped : List ℕ
  swapped = turn_runs (header_runs ++ rest) s

  spans : span_of (header_runs ++ rest) ≤ length s
  unfolding file_runs
  spans = room f

  pub order_is : order_of swapped ≡ other (order_of s)
  order_is = order_other rest s spans f.rules.ordered

  pub kind_is : kind_of swapped ≡ kind_of s
  kind_is = kind_same rest s spans

  pub length-is : length swapped ≡ length s
  length-is = length-turn_runs (header_runs ++ rest) s

  pub shape_is : shape_of swapped ≡ shape_of s
  shape_is = (λ i. shape_in (order_is i) (kind_is i) swapped) ∙ shape_same rest s spans (order_of s) (kind_of s)

  pub unit_is : unit_for swapped ≡ unit_for s
  unit_is = ap (λ (o : Order). unit_in o swapped) order_is ∙ unit_same rest s spans (order_of s)

  -- the extender, and so what it says
  pub extender_is : extender_of swapped ≡ extender_of s
  extender_is = extender_same (kind_of s) (place_of s) (unit_for s) s xs f.rules.long f.begins spans

  some_is : has_extensions swapped ≡ has_extensions s
  unfolding has_extensions
  some_is = cc extender_is

  rules_are : Rules swapped
  rules_are =
      let r = f.rules in
      record {
        long = rw length-is r.long;
        ordered = ap (λ (o : Order). holds_in o swapped) order_is ∙ holds_same rest s spans (order_of s) ∙ r.ordered;
        size = ap (λ (o : Order). i32_at o swapped 0) order_is ∙ size_same rest s spans (order_of s) ∙ r.size;
        magic = ap (λ (k : Kind). has_magic k swapped) kind_is ∙ magic_same rest s spans (kind_of s) ∙ r.magic;
        fields = rw (shape_is, length-is) r.fields;
        whole = (λ i. cut_short (kind_is i) (length-is i) (image_of (shape_is i))) ∙ r.whole;
        extended = (λ i. cut_extender (kind_is i) (length-is i)) ∙ r.extended;
      }

  walked : has_extensions s ≡ true → extensions_in (order_of swapped) (region_end (kind_of swapped) (place_of swapped) (length swapped)) swapped ≡ listed xs
  unfolding extensions_in end_of
  walked h =
      (λ i. walk (order_is i) extension_limit first_place (rest_of swapped (region_end (kind_is i) (image_of (shape_is i)) (length-is i)) first_place))
      ∙ ap (walk (other (order_of s)) extension_limit first_place)
      (rest_turned (end_of s) xs (own_image (kind_of s) (place_of s) (unit_for s)) s (f.some h) (f.fills (f.some h)) f.end_inside)
      ∙ walk_turned (order_of s) first_place (region_of s) xs f.complete f.spans (f.region h) (f.some h) f.few

  extensions_are : extensions_of (layout_of swapped) swapped ≡ listed xs
  extensions_are = by (has_extensions s) refl
    where
      by : (t : Bool) → has_extensions s ≡ t → extensions_of (layout_of swapped) swapped ≡ listed xs
      by true h = rw (some_is, h) (walked h)
      by false h = rw (some_is, h) (ap listed (sym (f.none h)))

  pub swapped_file_lem : AcceptedFile swapped xs
  swapped_file_lem = judged_file swapped xs (file_judged swapped xs rules_are extensions_are)

  header_is : header_of (order_of swapped) (kind_of swapped) (length xs) (spans_of xs) swapped
      ≡ in_order (other (order_of s)) (header_of (order_of s) (kind_of s) (length xs) (spans_of xs) s)
  header_is =
      (λ i. header_of (order_is i) (kind_is i) (length xs) (spans_of xs) swapped)
      ∙ header_same rest s spans (order_of s) (kind_of s) (length xs) (spans_of xs)

  pub reading_swapped : reading_of swapped ≡ read_in_other (reading_of s)
  unfolding header_of
  reading_swapped =
      file_reads swapped xs swapped_file_lem
      ∙ (λ i. record { verdict = no_refusal; header = completed (header_is i); image = image_of (shape_is i) })
      ∙ sym (ap read_in_other (file_reads s xs f))

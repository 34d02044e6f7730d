-- What the swap answers, from what the outline of the file shows: the laws that the functions' proofs cite.
use Rattle.refusal.specs.declared.Rule.TheVariants.{ImageCut}
use Rattle.std.specs.Prelude.{Err}
use Prim.Native.Nat.{ℕ, ◌+◌, ◌/◌, ◌≤◌}
use mathlib.Core.Path.{◌≡◌, sym, ap, ◌∙◌}
use mathlib.Core.Bool.{Bool, true, false}
use mathlib.Core.List.{List}
use borrow.Author.Tests.{ltb-false}
use lib.ListN.{length, drop}
use lib.Seq.{drop-drop}
use Rattle.refusal.specs.declared.Refusal.{Refusal}
use Rattle.refusal.specs.Table.{refusal, no_refusal}
use Rattle.extension.specs.declared.Span.{Span}
use Rattle.extension.specs.Walk.{Walked, first_place, listed, stopped}
use Rattle.header.specs.declared.Kind.TheVariants.{Single, Pair}
use Rattle.rules.specs.Rules.{cut_short, image_cut, region_end}
use Rattle.layout.specs.declared.Layout.{Layout}
use Rattle.layout.specs.File.{kind_of, has_extensions, layout_of}
use Rattle.reader.specs.Reading.{extensions_of, judgement}
use Rattle.reader.proofs.File.{AcceptedFile}
use Rattle.outline.specs.declared.Outline.{Outline}
use Rattle.outline.specs.Outline.{outline_of}
use Rattle.outline.proofs.Outlines.{hidden_judged, Shows}
use Rattle.units.specs.Units.{turned_at}
use Rattle.units.specs.Runs.{turn_runs, turn_runs_at, header_runs}
use Rattle.units.proofs.Runs.{runs_behind, header_span}
use Rattle.turning.specs.Turn.{unit_in, extension_runs, runs_in, Standing}
use Rattle.turning.proofs.Turning.{Holds, listed_holds}
use Rattle.byteswap.specs.Swap.{unless_cut, swap_list, answer_by, turned_file, turned_image}
use Rattle.byteswap.specs.Swap.{Swaps, swap_answer, swapped_file, swapped_image}
use Rattle.byteswap.proofs.Whole.{place_of, unit_for, runs_of, image_runs_of, unit_some, single_turned, pair_turned, image_single, image_pair}

-- ---- A refused swap

module _ (s image : List ℕ) (r : Refusal) where
  pub swaps_stopped : swap_list s image ≡ stopped r → Swaps s image (Err r) s image
  unfolding swap_answer swapped_file swapped_image
  swaps_stopped e = (rw e, rw e, rw e)

  stops : judgement s ≡ stopped r → swap_list s image ≡ stopped r
  unfolding swap_list
  stops e = rw e

  pub swaps_hidden : outline_of 0 s ≡ Err r → Swaps s image (Err r) s image
  swaps_hidden e = swaps_stopped (stops (hidden_judged s 0 r e))

-- ---- A swap that is not refused: the runs of the file and of its image file are turned round

module _ (s image : List ℕ) (xs : List Span) (e : swap_list s image ≡ listed xs) where
  pub swaps_listed : no_refusal ≡ swap_answer s image
  unfolding swap_answer
  swaps_listed = sym (ap answer_by e)

  pub file_turned : swapped_file s image ≡ turn_runs (runs_of s xs) s
  unfolding swapped_file
  file_turned = ap (λ (w : Walked). turned_file w (layout_of s) s) e

  pub image_turned : swapped_image s image ≡ turn_runs (image_runs_of s) image
  unfolding swapped_image
  image_turned = ap (λ (w : Walked). turned_image w (layout_of s) s image) e

-- ---- An accepted file, by its outline

module _ {s : List ℕ} {o : Outline} (shown : Shows s 0 o) where
  pub file : AcceptedFile s shown.list
  file = shown.file

  layout : layout_of s ≡ o.layout
  layout = shown.layout

  -- what each step needs: the header is turned first, and the extensions stand behind it as they did
  module _ (s₁ : List ℕ) (e₁ : s₁ ≡ turn_runs_at 0 header_runs s) where
    behind_header : drop first_place s₁ ≡ drop first_place s
    unfolding turn_runs_at
    behind_header =
        let b = rw header_span at (runs_behind header_runs s (rw header_span file.rules.long)) in
        rw e₁ (sym (drop-drop 4 348 (turn_runs header_runs s)) ∙ ap (drop 4) b ∙ drop-drop 4 348 s)

    holds : Holds o.layout.order (drop first_place s₁) shown.list
    holds =
        let walked = sym (ap (λ (m : Layout). extensions_of m s) layout) ∙ file.walked in
        rw behind_header
        (listed_holds o.layout.order (region_end o.layout.kind o.layout.image (length s)) s shown.list (has_extensions s) walked)

    pub listed_stand : Standing o.layout.order o.count (drop first_place s₁)
    listed_stand = rw (← shown.counted) holds.stand

    listed_runs : runs_in o.layout.order o.count (drop first_place s₁) ≡ extension_runs shown.list
    listed_runs = ap (λ (n : ℕ). runs_in o.layout.order n (drop first_place s₁)) (sym shown.counted) ∙ holds.runs

  pub listed_unit : 1 ≤ unit_in o.layout.order s
  listed_unit = rw (← layout) (unit_some file)

  pub single_room : o.layout.kind ≡ Single → o.layout.image.offset + o.layout.image.bytes ≤ length s
  single_room k =
      let w : cut_short o.layout.kind (length s) o.layout.image ≡ false = rw (← layout) file.rules.whole in
      ltb-false (length s) (o.layout.image.offset + o.layout.image.bytes) (rw k at w)

  module _ (image : List ℕ) where
    lists_by : (c : Bool) → image_cut o.layout.kind (length image) o.layout.image ≡ c → swap_list s image ≡ unless_cut c (listed shown.list)
    unfolding swap_list
    lists_by c e = (λ i. unless_cut (image_cut (layout i).kind (length image) (layout i).image) (file.judged i)) ∙ rw e

    pub swaps_cut : image_cut o.layout.kind (length image) o.layout.image ≡ true → Swaps s image (Err (refusal ImageCut 0)) s image
    swaps_cut c = swaps_stopped s image (refusal ImageCut 0) (lists_by true c)

    module _ (c : image_cut o.layout.kind (length image) o.layout.image ≡ false) where
      pub pair_room : o.layout.kind ≡ Pair → o.layout.image.offset + o.layout.image.bytes ≤ length image
      pair_room k = ltb-false (length image) (o.layout.image.offset + o.layout.image.bytes) (rw k at c)

      swaps_by : (s' image' : List ℕ) → s' ≡ turn_runs (runs_of s shown.list) s → image' ≡ turn_runs (image_runs_of s) image
          → Swaps s image no_refusal s' image'
      swaps_by s' image' d e =
          let t = lists_by false c in
          (swaps_listed s image shown.list t, d ∙ sym (file_turned s image shown.list t), e ∙ sym (image_turned s image shown.list t))

      -- the steps of the code, in a single file and in a pair
      module _ (unit : ℕ) (u : unit ≡ unit_in o.layout.order s) (s₁ s₂ : List ℕ) (e₁ : s₁ ≡ turn_runs_at 0 header_runs s)
          (e₂ : s₂ ≡ turn_runs_at first_place (runs_in o.layout.order o.count (drop first_place s₁)) s₁) where
        list_turned : s₂ ≡ turn_runs_at first_place (extension_runs shown.list) s₁
        list_turned = rw (listed_runs s₁ e₁) at e₂

        pub swaps_single : o.layout.kind ≡ Single → (s₃ : List ℕ) → s₃ ≡ turned_at unit o.layout.image.offset (o.layout.image.bytes / unit) s₂
            → Swaps s image no_refusal s₃ image
        swaps_single k s₃ e₃ =
            let single : kind_of s ≡ Single = ap (λ (m : Layout). m.kind) layout ∙ k in
            swaps_by s₃ image
            (single_turned file s₁ s₂ e₁ list_turned single s₃ (rw (u, ← layout) at e₃))
            (image_single (kind_of s) (place_of s) (unit_for s) image single)

        pub swaps_pair : o.layout.kind ≡ Pair → (i : List ℕ) → i ≡ turned_at unit o.layout.image.offset (o.layout.image.bytes / unit) image
            → Swaps s image no_refusal s₂ i
        swaps_pair k i e₃ =
            let pair : kind_of s ≡ Pair = ap (λ (m : Layout). m.kind) layout ∙ k in
            swaps_by s₂ i
            (pair_turned file s₁ s₂ e₁ list_turned pair)
            (image_pair (kind_of s) (place_of s) (unit_for s) image i pair (rw (← layout) at c) (rw (u, ← layout) at e₃))

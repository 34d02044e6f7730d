-- A file's outline: from what its rules and the scan of its extensions answer, and what it says of the file's reading.
use Rattle.std.specs.Prelude.{Ok, Err, Result}
use Prim.Native.Nat.{ℕ, ◌≤◌}
use mathlib.Core.Path.{◌≡◌, refl, ap, sym, ◌∙◌}
use mathlib.Core.Bool.{Bool, true, false}
use mathlib.Core.List.{List}
use native.Mathlib.Omega.{arith}
use lib.ListN.{length, get_or}
use Rattle.refusal.specs.declared.Refusal.{Refusal}
use Rattle.refusal.specs.Table.{decided}
use Rattle.refusal.proofs.Rows.{Clear, accepted_clear}
use Rattle.extension.specs.declared.Span.{Span}
use Rattle.extension.specs.Walk.{extension_limit, first_place, Walked, listed, stopped}
use Rattle.extension.specs.Listing.{no_span, spans_of}
use Rattle.extension.proofs.Listings.{spans_of_at}
use Rattle.listing.specs.Scan.{scan_of}
use Rattle.header.specs.Fields.{header_of}
use Rattle.rules.specs.Rules.{shape_rows, aligned_in, completed, region_end, Measured}
use Rattle.rules.proofs.Sizes.{shape_measured}
use Rattle.layout.specs.declared.Layout.{Layout}
use Rattle.layout.specs.File.{shape_in, has_extensions, file_rows, layout_of, checked_in, checked_of, end_of}
use Rattle.layout.proofs.Checking.{checked_fits}
use Rattle.reader.specs.Reading.{extensions_of, judgement, refused_with, accepted_with, reading_by, reading_of, IsAccepted}
use Rattle.reader.proofs.Answers.{judgement_fits, judgement_breaks}
use Rattle.reader.proofs.File.{AcceptedFile, judged_file, clear_rules, extended_region, shape_rows_lem}
use Rattle.outline.specs.declared.Outline.{Outline}
use Rattle.outline.specs.Outline.{outlined_by, outline_of, checked_outline, outline_in}

-- ---- The outline, from the answers below it

-- what a scan tells of the walk
abbrev outlined_from : Layout → Result (ℕ × Span) Refusal → Result Outline Refusal
outlined_from l (Ok (n, x)) = Ok (record { layout = l; count = n; span = x })
outlined_from l (Err r) = Err r

from_walk : (s : List ℕ) (wanted : ℕ) (w : Walked) → outlined_from (layout_of s) (scan_of wanted w) ≡ outlined_by wanted s w
from_walk s wanted (listed xs) = refl
from_walk s wanted (stopped r) = refl

module _ (s : List ℕ) (layout : Layout) (fits : checked_of s ≡ Ok layout) where
  layout_is : layout_of s ≡ layout
  layout_is = (checked_fits s (length s) layout fits).1

  -- a region that is scanned lies in the file
  pub region_inside : has_extensions s ≡ true → (first_place ≤ region_end layout.kind layout.image (length s))
      × (region_end layout.kind layout.image (length s) ≤ length s)
  unfolding end_of
  region_inside h =
      rw (← layout_is) (extended_region s (clear_rules s (accepted_clear (file_rows s) (checked_fits s (length s) layout fits).0)) h)

  pub outlines : (wanted : ℕ) (x : Result (ℕ × Span) Refusal) → scan_of wanted (extensions_of layout s) ≡ x → outlined_from layout x ≡ outline_of wanted s
  unfolding outline_of
  outlines wanted x e =
      (λ i. outlined_from (sym layout_is i) (sym e i))
      ∙ from_walk s wanted (extensions_of layout s)
      ∙ ap (outlined_by wanted s) (sym (judgement_fits s layout fits))

pub outlines_broken : (s : List ℕ) (wanted : ℕ) (r : Refusal) → checked_of s ≡ Err r → Err r ≡ outline_of wanted s
unfolding outline_of
outlines_broken s wanted r e = rw (judgement_breaks s r e)

-- ---- What the outline says of the reading

-- a refused file: its reading is that refusal,
-- of a file's first bytes too
pub outlines_unread : (s : List ℕ) (len : ℕ) (whole : Bool) (wanted : ℕ) (r : Refusal) → (whole ≡ true → len ≡ length s)
    → checked_in s len ≡ Err r → Err r ≡ outline_in s len whole wanted
outlines_unread s len true wanted r h e = outlines_broken s wanted r (ap (checked_in s) (sym (h refl)) ∙ e)
outlines_unread s len false wanted r h e = rw e

-- and what these show is what rules 1 to 12 answer
pub checked_shown : (k : Result Layout Refusal) (o : Outline) → checked_outline k ≡ Ok o → k ≡ Ok o.layout
checked_shown (Ok l) o e = cc
checked_shown (Err r) o e = cc

pub checked_hidden : (k : Result Layout Refusal) (r : Refusal) → checked_outline k ≡ Err r → k ≡ Err r
checked_hidden (Ok l) r e = cc
checked_hidden (Err q) r e = cc

pub hidden_judged : (s : List ℕ) (wanted : ℕ) (r : Refusal) → outline_of wanted s ≡ Err r → judgement s ≡ stopped r
unfolding outline_of
hidden_judged s wanted r e = by (judgement s) e
  where
    by : (w : Walked) → outlined_by wanted s w ≡ Err r → w ≡ stopped r
    by (listed xs) d = let z : ◌≡◌ {A = ℕ} 0 1 = cc in absurd (omega arith)
    by (stopped q) d = cc

pub hidden_reading : (s : List ℕ) (wanted : ℕ) (r : Refusal) → outline_of wanted s ≡ Err r → reading_of s ≡ refused_with r
unfolding reading_of
hidden_reading s wanted r e = ap (reading_by s) (hidden_judged s wanted r e)

-- and an accepted one: with its extensions, of which the outline has the number and the one that is wanted
pub record Shows (s : List ℕ) (wanted : ℕ) (o : Outline) : Type 0 where
  pub list : List Span
  pub file : AcceptedFile s list
  pub layout : layout_of s ≡ o.layout
  pub counted : length list ≡ o.count
  pub span : get_or list wanted no_span ≡ o.span

pub shows : (s : List ℕ) (wanted : ℕ) (o : Outline) → outline_of wanted s ≡ Ok o → Shows s wanted o
unfolding outline_of
shows s wanted o e = by (judgement s) refl e
  where
    by : (w : Walked) → judgement s ≡ w → outlined_by wanted s w ≡ Ok o → Shows s wanted o
    by (listed xs) j d =
        let is : ◌≡◌ {A = Outline} (record { layout = layout_of s; count = length xs; span = get_or xs wanted no_span }) o = cc in
        record { list = xs; file = judged_file s xs j; layout = λ i. (is i).layout; counted = λ i. (is i).count; span = λ i. (is i).span }
    by (stopped q) j d = let z : ◌≡◌ {A = ℕ} 0 1 = cc in absurd (omega arith)

module _ (s : List ℕ) (wanted : ℕ) (o : Outline) (e : outline_of wanted s ≡ Ok o) where
  abbrev shown : Shows s wanted o
  shown = shows s wanted o e

  pub shown_long : 348 ≤ length s
  shown_long = shown.file.rules.long

  pub shown_few : o.count ≤ extension_limit
  shown_few = omega (arith, shown.counted, shown.file.few)

  -- what it says of the offset is what the offset's reading says
  pub shown_aligned : o.layout.aligned ≡ aligned_in (shape_in o.layout.order o.layout.kind s)
  shown_aligned = rw (← shown.layout)

  -- the fields that rules 5 to 10 judge have passed them, and their sizes can be computed
  pub shown_rows : Clear (shape_rows (shape_in o.layout.order o.layout.kind s))
  shown_rows = rw (← shown.layout) (shape_rows_lem s shown.file.rules)

  pub shown_measured : Measured (shape_in o.layout.order o.layout.kind s)
  shown_measured = shape_measured (shape_in o.layout.order o.layout.kind s) shown_rows

  -- its reading: the spans are those of the list
  pub shown_reading : reading_of s ≡ accepted_with s o.layout o.count (spans_of shown.list)
  unfolding reading_of
  shown_reading = ap (reading_by s) shown.file.judged ∙ (λ i. accepted_with s (shown.layout i) (shown.counted i) (spans_of shown.list))

  pub shown_accepted : IsAccepted s
  shown_accepted = rw shown_reading

  pub shown_header : completed (header_of o.layout.order o.layout.kind o.count (spans_of shown.list) s) ≡ (reading_of s).header
  shown_header i = (sym shown_reading i).header

  pub shown_span : get_or (spans_of shown.list) wanted no_span ≡ o.span
  shown_span = spans_of_at shown.list wanted ∙ shown.span

-- what a call answers by the reading's verdict: of a refused file, and of an accepted one
module _ {ℓ} {A : Type ℓ} (s : List ℕ) (wanted : ℕ) (a : A) (f : Refusal → A) where
  pub hidden_answer : (r : Refusal) → outline_of wanted s ≡ Err r → f r ≡ decided (reading_of s).verdict a f
  hidden_answer r e = rw (hidden_reading s wanted r e)

  pub shown_answer : (o : Outline) → outline_of wanted s ≡ Ok o → a ≡ decided (reading_of s).verdict a f
  shown_answer o e = rw (shown_accepted s wanted o e)

-- The reading of a file: rules 1 to 12, then its list of extensions with rules 13 to 15; its verdict, and the record and the image's
-- place beside it. 01-scope.md: "A file is accepted when none of 1..15 holds of its bytes"; "The record has all fields". Beside a
-- refusal the record is all zero.
use Rattle.std.specs.Prelude.{ℕ, ◌≡◌, cond, List, [], length, Err}
use Rattle.refusal.specs.declared.Refusal.{Refusal}
use Rattle.refusal.specs.Table.{verdict, decided, no_refusal}
use Rattle.extension.specs.declared.Span.{Span}
use Rattle.extension.specs.Walk.{Walked, listed, stopped, extensions_in}
use Rattle.extension.specs.Listing.{spans_of}
use Rattle.header.specs.Fields.{header_of, no_header}
use Rattle.rules.specs.declared.Image.{Image}
use Rattle.rules.specs.Rules.{completed, region_end}
use Rattle.layout.specs.declared.Layout.{Layout}
use Rattle.layout.specs.File.{has_extensions, file_rows, layout_of}
use Rattle.reader.specs.declared.Reading.{Reading}

-- "With a zero extender there are no extensions, and bytes from 352 are private and not read." Since P2 an extender is zero where its first
-- byte is (`has_extensions`, layout/File).
abbrev pub extensions_of : Layout → List ℕ → Walked
extensions_of l s = cond (has_extensions s) (extensions_in l.order (region_end l.kind l.image (length s)) s) (listed [])

-- a file's list of extensions, where none of 1..15 holds; else the first refusal
unfoldable pub judgement : List ℕ → Walked
judgement s = decided (verdict (file_rows s)) (extensions_of (layout_of s) s) stopped

abbrev pub no_image : Image
no_image = record { offset = 0; bytes = 0 }

abbrev pub refused_with : Refusal → Reading
refused_with r = record { verdict = Err r; header = no_header; image = no_image }

-- the record and the image of a file with this layout and these extensions; the record has its sizes (02-change-requests.md, P4) and the
-- aligned fact (P6)
abbrev pub accepted_with : List ℕ → Layout → ℕ → List Span → Reading
accepted_with s l count spans =
    record {
      verdict = no_refusal;
      header = completed (header_of l.order l.kind count spans s);
      image = l.image;
    }

abbrev pub reading_by : List ℕ → Walked → Reading
reading_by s (listed xs) = accepted_with s (layout_of s) (length xs) (spans_of xs)
reading_by s (stopped r) = refused_with r

unfoldable pub reading_of : List ℕ → Reading
reading_of s = reading_by s (judgement s)

-- a file that reading accepts
abbrev pub IsAccepted : List ℕ → Type 0
IsAccepted s = (reading_of s).verdict ≡ no_refusal

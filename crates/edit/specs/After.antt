-- The reading of a file after an edit, by its reading before and the edited list. Demand 3: "the same header fields, the extension list
-- with that one edit, .. with the voxel offset worked out anew in a single file". The law `edit_reads` says so of every edit.
use Rattle.std.specs.Prelude.{ℕ, List, length}
use Rattle.offset.specs.Offset.{offset_bits}
use Rattle.extension.specs.Walk.{first_place}
use Rattle.extension.specs.Listing.{spans_of}
use Rattle.extension.specs.Pieces.{spans_from}
use Rattle.header.specs.declared.Kind.{Kind}
use Rattle.header.specs.declared.Kind.TheVariants.{Single, Pair}
use Rattle.header.specs.Fields.{with_spans, with_offset}
use Rattle.rules.specs.Rules.{realigned}
use Rattle.reader.specs.declared.Reading.{Reading}
use Rattle.edit_plan.specs.Fresh.{end_for}

-- a number of a single file that an edit sets; in a pair it stays
abbrev pub anew_in : Kind → ℕ → ℕ → ℕ
anew_in Single new old = new
anew_in Pair new old = old

-- the same verdict and fields, the spans of the list from 352 on, and in a single file the new offset; the aligned fact is that of the
-- offset (02-change-requests.md, P6: "Swaps and edits leave it true of the offset")
abbrev pub read_after : Reading → List (List ℕ) → Reading
read_after r xs =
    record {
      verdict = r.verdict;
      header =
          with_spans (length xs) (spans_of (spans_from r.header.order first_place xs))
          (realigned
          (with_offset (anew_in r.header.kind (offset_bits (end_for xs)) r.header.scale.vox_offset) r.header));
      image = record { offset = anew_in r.header.kind (end_for xs) r.image.offset; bytes = r.image.bytes };
    }

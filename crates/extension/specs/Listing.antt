-- The spans of a file's extensions as the record holds them. 01-scope.md: "A span is start, size and code; spans past the count
-- are zeros. The record holds the eight dims and up to 64 extension spans."
use Rattle.refusal.specs.Table.{no_refusal}
use Rattle.std.specs.Prelude.{◌-◌, List, [], ◌++◌, pos, length, replicate, Err}
use Rattle.extension.specs.declared.Span.{Span}
use Rattle.extension.specs.declared.Listing.{Listing}
use Rattle.extension.specs.Walk.{Walked, listed, stopped, extension_limit}

abbrev pub no_span : Span
no_span = record { start = 0; size = pos 0; code = pos 0 }

-- a list of spans, with zeros up to the limit
unfoldable pub spans_of : List Span → List Span
spans_of xs = xs ++ replicate (extension_limit - length xs) no_span

-- a list read whole, with its length as the count; or the refusal beside no spans at all
unfoldable pub listing_of : Walked → Listing
listing_of (listed xs) = record { verdict = no_refusal; count = length xs; spans = spans_of xs }
listing_of (stopped r) = record { verdict = Err r; count = 0; spans = spans_of [] }

-- `list_in` meets its contract: the region's list where the extender says so, and else no extensions.
use mathlib.Core.Path.{sym, ◌∙◌}
use Rattle.extension.specs.Listing.{listing_of}
use Rattle.reader.proofs.list_in.Goals as goal

pub returns-then-has_extensions : goal.returns-then-has_extensions
returns-then-has_extensions c =
    let h = sym c.has_extensions.ensures ∙ c.if-has_extensions.true in
    rw h (rw c.region_end-end.ensures at c.list.ensures)

pub returns-else-has_extensions : goal.returns-else-has_extensions
unfolding listing_of
returns-else-has_extensions c =
    let h = sym c.has_extensions.ensures ∙ c.if-has_extensions.false in
    rw (h, c.no_spans.ensures)

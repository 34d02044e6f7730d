-- `scan_in` meets its contract: the region's scan where the extender says so, and else no extensions.
use mathlib.Core.Path.{sym, ◌∙◌}
use Rattle.outline.proofs.Outlines.{region_inside}
use Rattle.outline.proofs.scan_in.Goals as goal

pub scan-requires : goal.scan-requires
scan-requires c =
    rw c.region_end-end.ensures
    (region_inside c.args.file.now c.args.layout c.requires (sym c.has_extensions.ensures ∙ c.if-has_extensions.true))

pub returns-then-has_extensions : goal.returns-then-has_extensions
returns-then-has_extensions c =
    let h = sym c.has_extensions.ensures ∙ c.if-has_extensions.true in
    rw h (rw c.region_end-end.ensures at c.scan.ensures)

pub returns-else-has_extensions : goal.returns-else-has_extensions
returns-else-has_extensions c =
    let h = sym c.has_extensions.ensures ∙ c.if-has_extensions.false in
    rw h

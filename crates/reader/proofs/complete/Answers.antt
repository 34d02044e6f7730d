-- `complete` meets its contract: the sizes by bitpix are those by the datatype, and the fact is handed on.
use mathlib.Core.Path.{◌≡◌, sym, ◌∙◌}
use mir.Syntax.{w16}
use mir.Val.{to_z, of_z}
use Rattle.header.specs.Fields.{with_facts}
use Rattle.rules.specs.Rules.{shape_of_record}
use Rattle.rules.proofs.Sizes.{measured_sizes}
use borrow.Author.Rules.{rules}
use Rattle.reader.proofs.complete.Goals as goal

pub returns : goal.returns
returns c =
    let h = c.args.header in
    let same : to_z w16 (of_z w16 h.intent.bitpix) ≡ h.intent.bitpix = search rules in
    let sizes = rw same at c.sizes_in.ensures ∙ measured_sizes (shape_of_record h) c.requires.measured in
    λ i. with_facts (sizes i) (sym c.requires.header_value i) h

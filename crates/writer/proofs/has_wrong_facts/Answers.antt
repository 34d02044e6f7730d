-- `has_wrong_facts` meets its contract: the sizes by bitpix are those by the datatype, and the fact is compared with what was read.
use Rattle.std.proofs.Common.{◌≡◌, ◌∙◌, sym, ap, to_z, of_z, w16, Bool, not, rules}
use Rattle.std.specs.Bool.{beq}
use Rattle.grid.specs.Sizes.{same_sizes}
use Rattle.rules.specs.Rules.{shape_of_record}
use Rattle.rules.proofs.Sizes.{measured_sizes}
use Rattle.writer.proofs.has_wrong_facts.Goals as goal

pub returns-then-not-are_same : goal.returns-then-not-are_same
returns-then-not-are_same c =
    let h = c.args.header in
    let bits : to_z w16 (of_z w16 h.intent.bitpix) ≡ h.intent.bitpix = search rules in
    let right = rw bits at c.sizes_in-sizes.ensures ∙ measured_sizes (shape_of_record h) c.requires.measured in
    rw (sym (ap not (c.are_same.ensures ∙ ap (same_sizes h.sizes) right)) ∙ ap not c.if-not-are_same.true) (ap not c.if-not-are_same.true)

pub returns-else-not-are_same : goal.returns-else-not-are_same
returns-else-not-are_same c =
    let h = c.args.header in
    let bits : to_z w16 (of_z w16 h.intent.bitpix) ≡ h.intent.bitpix = search rules in
    let right = rw bits at c.sizes_in-sizes.ensures ∙ measured_sizes (shape_of_record h) c.requires.measured in
    rw (sym (ap not (c.are_same.ensures ∙ ap (same_sizes h.sizes) right)) ∙ ap not c.if-not-are_same.false)
    (ap (λ (a : Bool). not (beq h.aligned a)) (sym c.requires.header_value))

-- `span_at` meets its contract: the two numbers are those that stand there.
use mathlib.Core.Path.{◌∙◌}
use mir.Syntax.{w32}
use mir.ValLaws.{to_z-of_z}
use Rattle.extension.specs.Walk.{span}
use Rattle.listing.proofs.span_at.Goals as goal

pub returns : goal.returns
returns c =
    let size = c.read in
    let code = c.read-2 in
    let s = to_z-of_z w32 size.result (record { sfits = size.type_inv }) ∙ size.ensures in
    let d = to_z-of_z w32 code.result (record { sfits = code.type_inv }) ∙ code.ensures in
    λ i. span c.args.place (s i) (d i)

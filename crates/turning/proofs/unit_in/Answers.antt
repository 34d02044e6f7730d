-- `unit_in` meets its contract: the code that is looked up is the file's datatype.
use Rattle.std.proofs.Common.{◌≡◌, ap, ◌∙◌, arith}
use Rattle.std.proofs.lemmas.Grind.{common_steps}
use mir.Syntax.{w16}
use mir.Val.{to_z, of_z}
use mir.ValLaws.{to_z-of_z}
use Rattle.turning.specs.Turn.{unit_in}
use Rattle.datatype.specs.Datatypes.{datatype_of}
use Rattle.field.specs.Numbers.{i16_at}
use Rattle.turning.proofs.unit_in.Goals as goal

pub returns : goal.returns
unfolding unit_in
returns c =
    let code : to_z w16 (of_z w16 c.read.result) ≡ i16_at c.args.order c.args.file.now 70 = to_z-of_z w16 c.read.result (record { sfits = c.read.type_inv }) ∙ c.read.ensures in
    let known = c.datatype_of.ensures ∙ ap datatype_of code in
    grind (arith, common_steps, known)

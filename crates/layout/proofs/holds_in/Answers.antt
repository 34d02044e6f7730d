-- `holds_in` meets its contract: both tests are those of the signed number.
use mir.Syntax.{w16}
use mir.ValLaws.{to_z-of_z}
use Rattle.layout.specs.File.{holds_in}
use Rattle.layout.proofs.holds_in.Goals as goal

pub returns : goal.returns
unfolding holds_in
returns c =
    let n = c.read-n in
    rw (to_z-of_z w16 n.result (record { sfits = n.type_inv }), n.ensures)

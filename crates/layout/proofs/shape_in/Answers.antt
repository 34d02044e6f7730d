-- `shape_in` meets its contract: each field is read where `shape_in` has it.
use mathlib.Core.Path.{◌∙◌}
use mir.Syntax.{w16}
use mir.ValLaws.{to_z-of_z}
use Rattle.layout.specs.File.{shape_in}
use Rattle.layout.proofs.shape_in.Goals as goal

pub returns : goal.returns
unfolding shape_in
returns c =
    λ i. record {
      kind = c.args.kind;
      dim = c.dims.ensures i;
      datatype = (to_z-of_z w16 c.read.result (record { sfits = c.read.type_inv }) ∙ c.read.ensures) i;
      bitpix = (to_z-of_z w16 c.read-2.result (record { sfits = c.read-2.type_inv }) ∙ c.read-2.ensures) i;
      vox_offset = c.read-3.ensures i;
    }

-- `header_after` meets its contract: the parts are as each call says.
use Rattle.reorient_header.specs.After.{header_after}
use Rattle.reorient_header.proofs.header_after.Goals as goal

pub returns : goal.returns
unfolding header_after
returns c =
    rw (
      c.dims_after.ensures,
      c.key_after.ensures,
      c.scale_after.ensures,
      c.quatern_after.ensures,
      c.sform_after.ensures,
    )

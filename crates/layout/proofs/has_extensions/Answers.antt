-- `has_extensions` meets its contract: it asks the extender's first byte.
use Rattle.layout.specs.File.{has_extensions}
use Rattle.layout.proofs.has_extensions.Goals as goal

pub returns : goal.returns
unfolding has_extensions
returns c = rw c.byte_at.ensures

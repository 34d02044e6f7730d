-- `parse` meets its contract: the header's bytes state the record that the file states.
use mathlib.Core.Path.{◌∙◌}
use Rattle.header.proofs.Front.{header_front}
use Rattle.header.proofs.parse.Goals as goal

pub returns : goal.returns
returns c = c.parse_front.ensures ∙ rw c.copy_out.ensures (header_front _ _ _ _ _)

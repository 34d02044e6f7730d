-- `accepted` meets its contract: the record of the file's bytes, with its sizes and what was read of its offset.
use Rattle.refusal.specs.Table.{no_refusal}
use mathlib.Core.Path.{ap, ◌∙◌}
use Rattle.header.specs.Fields.{header_of}
use Rattle.rules.specs.Rules.{completed}
use Rattle.layout.specs.File.{shape_in}
use Rattle.reader.proofs.accepted.Goals as goal

-- the record's fields are the file's
pub complete-requires : goal.complete-requires
unfolding header_of shape_in
complete-requires c = record { measured = rw c.parse.ensures c.requires.measured; header_value = rw c.parse.ensures c.requires.file_value }

pub returns : goal.returns
returns c =
    let a = c.args in
    let header = c.complete.ensures ∙ ap completed c.parse.ensures in
    λ i. record { verdict = no_refusal; header = header i; image = a.layout.image }

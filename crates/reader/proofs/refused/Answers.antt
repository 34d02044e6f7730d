-- `refused` meets its contract: the record of no bytes.
use Rattle.std.specs.Prelude.{Err}
use Rattle.reader.specs.Reading.{no_image}
use Rattle.reader.proofs.refused.Goals as goal

pub returns : goal.returns
returns c =
    let header = rw c.no_spans.ensures at c.parse.ensures in
    λ i. record { verdict = Err c.args.r; header = header i; image = no_image }

-- `offers_negative` meets its contract: a removal offers no code.
use mir.Syntax.{w32}
use mir.ValLaws.{to_z-of_z}
use Rattle.change.proofs.offers_negative.Goals as goal

pub returns-in-Append : goal.returns-in-Append
returns-in-Append c = rw (c.in-Append.is, to_z-of_z w32 c.args.code c.ranges.code)

pub returns-in-Replace : goal.returns-in-Replace
returns-in-Replace c = rw (c.in-Replace.is, to_z-of_z w32 c.args.code c.ranges.code)

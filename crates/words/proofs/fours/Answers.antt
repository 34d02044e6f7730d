-- `fours` meets its contract: the halves of a unit of eight exchanged are two units of four, by the law of words/Exchange.
use Rattle.std.proofs.Common.{◌∙◌, arith}
use Rattle.words.proofs.Steps.{from_eight, halves_exchanged}
use Rattle.words.proofs.fours.Goals as goal

pub returns : goal.returns
returns c = c.rotate_left.ensures ∙ halves_exchanged c.eight.result (omega arith) ∙ from_eight c.args.word c.eight.result c.eight.ensures

-- `card` meets its contract: the card of what reading the file answers.
use Rattle.slice_card.proofs.card.Goals as goal

pub returns : goal.returns
returns c = rw (← c.read.ensures) c.card_of.ensures

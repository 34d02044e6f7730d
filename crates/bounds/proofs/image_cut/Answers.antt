-- `image_cut` meets its contract: only a pair is asked.
use Rattle.bounds.proofs.image_cut.Goals as goal

pub returns-in-Pair : goal.returns-in-Pair
returns-in-Pair c = rw c.in-Pair.is c.is_short.ensures

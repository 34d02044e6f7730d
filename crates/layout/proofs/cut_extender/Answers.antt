-- `cut_extender` meets its contract: only a pair is asked.
use Rattle.layout.proofs.cut_extender.Goals as goal

pub returns-in-Pair : goal.returns-in-Pair
returns-in-Pair c = rw c.in-Pair.is

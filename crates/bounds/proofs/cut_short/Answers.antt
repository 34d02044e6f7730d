-- `cut_short` meets its contract: only a single file is asked.
use Rattle.bounds.proofs.cut_short.Goals as goal

pub returns-in-Single : goal.returns-in-Single
returns-in-Single c = rw c.in-Single.is c.is_short.ensures

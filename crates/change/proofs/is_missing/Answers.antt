-- `is_missing` meets its contract: only a number that is given is asked.
use Rattle.change.proofs.is_missing.Goals as goal

pub returns-in-Replace : goal.returns-in-Replace
returns-in-Replace c = rw c.in-Replace.is

pub returns-in-Remove : goal.returns-in-Remove
returns-in-Remove c = rw c.in-Remove.is

-- `is_too_many` meets its contract: only an append adds one.
use Rattle.change.proofs.is_too_many.Goals as goal

pub returns-in-Append : goal.returns-in-Append
returns-in-Append c = rw c.in-Append.is

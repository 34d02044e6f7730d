-- `enters_bytes` meets its contract: only an append is asked.
use Rattle.change.proofs.enters_bytes.Goals as goal

pub returns-in-Append : goal.returns-in-Append
returns-in-Append c = rw c.in-Append.is

-- What came is within the buffer, and each turn reads something more.
use Rattle.std.proofs.Common.{◌-◌, ◌≤◌, length}
use Rattle.read_input.proofs.read_full.Given as goal

abbrev pub invariant-loop-n : goal.invariant-loop-n
invariant-loop-n g l = l.n ≤ length l.buffer

abbrev pub decreases-loop-n : goal.decreases-loop-n
decreases-loop-n g l = length l.buffer - l.n

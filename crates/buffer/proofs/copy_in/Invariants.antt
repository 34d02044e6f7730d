-- `copy_in` meets its contract: the bytes copied so far stand in the buffer, and each turn stores one more right behind them.
use mathlib.Core.Path.{◌≡◌}
use lib.ListN.{length, take}
use Rattle.buffer.specs.Put.{put}
use Rattle.buffer.proofs.copy_in.Given as goal

abbrev pub invariant-loop-j : goal.invariant-loop-j
invariant-loop-j l = (l.buf ≡ put l.initial.buf l.at (take l.j l.src)) × (length l.buf ≡ length l.initial.buf)

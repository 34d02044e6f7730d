-- `copy_run` meets its contract: each turn writes a line more, and the rest follows.
use mathlib.Core.Path.{◌≡◌}
use Prim.Native.Nat.{◌-◌, ◌≤◌}
use lib.ListN.{length, take, drop}
use Rattle.buffer.specs.Put.{put}
use Rattle.gather_row.proofs.copy_run.Given as goal

abbrev pub invariant-loop-done : goal.invariant-loop-done
invariant-loop-done l = (l.out ≡ put l.initial.out l.at (take l.done (drop l.from l.src))) × (l.done ≤ l.n) × (length l.out ≡ length l.initial.out)

abbrev pub decreases-loop-done : goal.decreases-loop-done
decreases-loop-done l = l.n - l.done

-- `backwards` meets its contract: each turn writes the voxels of one line more, right behind those that stand.
use mathlib.Core.Path.{◌≡◌}
use mathlib.Core.List.{[]}
use Prim.Native.Nat.{◌+◌, ◌-◌, ◌/◌}
use Rattle.gather_row.specs.Gather.{reach, gathered}
use Rattle.gather_row.proofs.Progress.{Progress}
use Rattle.gather_row.proofs.Lines.{back_of}
use Rattle.gather_row.proofs.backwards.Given as goal

abbrev pub invariant-loop-j : goal.invariant-loop-j
invariant-loop-j l =
    (l.side ≡ 64 / l.b) × Progress l.initial.out l.at (λ q. gathered l.b l.src (l.from + reach (back_of l.n l.b) q) []) l.n l.out l.to l.j

abbrev pub decreases-loop-j : goal.decreases-loop-j
decreases-loop-j l = l.n - l.j

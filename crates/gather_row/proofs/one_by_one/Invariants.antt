-- `one_by_one` meets its contract: each turn writes the voxel at the place right behind those that stand, and goes on to the next place.
use mathlib.Core.Path.{◌≡◌}
use mathlib.Core.List.{[]}
use Prim.Native.Nat.{◌+◌}
use Rattle.gather_row.specs.Gather.{reach, gathered}
use Rattle.gather_row.proofs.Progress.{Progress}
use Rattle.gather_row.proofs.one_by_one.Given as goal

abbrev pub invariant-loop-j : goal.invariant-loop-j
invariant-loop-j l =
    (l.last + 1 ≡ l.axis.length)
    × (l.place ≡ l.from + reach l.axis l.j)
    × Progress l.initial.out l.at (λ q. gathered l.b l.src (l.from + reach l.axis q) []) l.axis.length l.out l.to l.j

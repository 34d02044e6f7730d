-- `up_to` meets its contract: each turn of the loop writes one block more, by a call for one axis less.
use Rattle.std.proofs.Common.{◌≡◌, ◌+◌, ◌++◌, ◌∷◌, [], length, take}
use Rattle.gather_row.specs.Gather.{reach, gathered}
use Rattle.gather_row.proofs.Progress.{Progress}
use Rattle.gather.proofs.+up_to.Given as goal

abbrev pub decreases-up_to : goal.decreases-up_to
decreases-up_to l = l.k

abbrev pub invariant-loop-j : goal.invariant-loop-j
invariant-loop-j l =
    (take (l.k + 1) l.axes ≡ take l.k l.axes ++ (l.axis ∷ []))
    × Progress l.initial.out l.at (λ q. gathered l.b l.src (l.from + reach l.axis q) (take l.k l.axes)) l.axis.length l.out l.to l.j
    × (length l.block ≡ length l.initial.block)

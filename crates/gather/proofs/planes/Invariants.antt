-- `planes` meets its contract: each turn lays one plane more.
use mathlib.Core.Path.{◌≡◌}
use mathlib.Core.List.{[], ◌∷◌}
use Prim.Native.Nat.{◌+◌}
use lib.ListN.{length}
use Rattle.gather_row.specs.Gather.{reach, gathered}
use Rattle.gather.specs.Rows.{stacked}
use Rattle.gather.proofs.planes.Given as goal

abbrev pub invariant-loop-k : goal.invariant-loop-k
invariant-loop-k l =
    (l.out ≡ stacked l.at l.lift l.pitch (λ q j. gathered l.b l.src (l.from + reach l.z q + reach l.y j) (l.x ∷ [])) l.y.length l.k l.initial.out)
    × (length l.out ≡ length l.initial.out)
    × (length l.block ≡ length l.initial.block)

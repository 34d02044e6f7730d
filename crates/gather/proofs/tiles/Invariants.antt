-- `tiles` meets its contract: each turn lays the rows of one tile more.
use mathlib.Core.Path.{◌≡◌}
use mathlib.Core.List.{[], ◌∷◌}
use Prim.Native.Nat.{◌+◌, ◌-◌, ◌/◌, ◌≤◌}
use lib.ListN.{length}
use Rattle.gather_row.specs.Gather.{reach, gathered}
use Rattle.gather.specs.Rows.{laid}
use Rattle.gather.proofs.tiles.Given as goal

abbrev pub invariant-loop-j : goal.invariant-loop-j
invariant-loop-j l =
    (l.n ≡ l.y.length)
    × (l.side ≡ 64 / l.b)
    × (l.out ≡ laid l.at l.pitch (λ q. gathered l.b l.src (l.from + reach l.y q) (l.x ∷ [])) l.j l.initial.out)
    × (l.j ≤ l.n)
    × (length l.out ≡ length l.initial.out)
    × (length l.block ≡ length l.initial.block)

abbrev pub decreases-loop-j : goal.decreases-loop-j
decreases-loop-j l = l.n - l.j

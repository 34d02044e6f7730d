-- `rows` meets its contract: each turn lays one row more.
use mathlib.Core.Path.{◌≡◌}
use mathlib.Core.List.{[], ◌∷◌}
use Prim.Native.Nat.{◌+◌}
use lib.ListN.{length}
use Rattle.gather_row.specs.Gather.{reach, gathered}
use Rattle.gather.specs.Rows.{laid}
use Rattle.gather.proofs.rows.Given as goal

abbrev pub invariant-loop-j : goal.invariant-loop-j
invariant-loop-j l =
    (l.out ≡ laid l.at l.pitch (λ q. gathered l.b l.src (l.from + reach l.y q) (l.x ∷ [])) l.j l.initial.out)
    × (length l.out ≡ length l.initial.out)

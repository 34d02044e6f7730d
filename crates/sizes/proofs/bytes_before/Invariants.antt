-- `bytes_before` meets its contract: what is left of the index, from axis k on, decides whether it is inside; and the sum so far, with what
-- is left, is right as far as rule 10 asks, each product being small.
use mathlib.Core.Path.{◌≡◌}
use Prim.Native.Nat.{◌+◌, ◌*◌, ◌≤◌}
use lib.ListN.{drop}
use Rattle.grid.specs.Grid.{within}
use Rattle.grid.specs.Axes.{image_limit, capped, seven_axes}
use Rattle.grid.specs.Sizes.{bytes_before}
use Rattle.sizes.proofs.bytes_before.Given as goal

abbrev pub invariant-loop-k : goal.invariant-loop-k
invariant-loop-k l =
    (l.sum ≤ l.k * (32767 * (image_limit + 1)))
    × (within (seven_axes l.dim l.n) l.index ≡ within (drop l.k (seven_axes l.dim l.n)) (drop l.k l.index))
    × (capped (l.sum + bytes_before (drop l.k l.steps) (drop l.k l.index)) ≡ capped (bytes_before l.steps l.index))

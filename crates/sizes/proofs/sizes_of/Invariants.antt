-- `sizes_of` meets its contract: after k turns the array has the steps of axes 1 to k, and `step` is the next one.
use mathlib.Core.Path.{◌≡◌}
use Prim.Native.Nat.{◌-◌}
use mathlib.Core.List.{◌++◌}
use lib.ListN.{replicate}
use Rattle.grid.specs.Sizes.{step_after, steps_to}
use Rattle.sizes.proofs.sizes_of.Given as goal

abbrev pub invariant-loop-k : goal.invariant-loop-k
invariant-loop-k l =
    (l.step ≡ step_after l.dim l.n l.bytes l.k) × (l.steps ≡ steps_to l.dim l.n l.bytes l.k ++ replicate (7 - l.k) 0)

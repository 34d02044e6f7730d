-- `numbers_out` meets its contract: at each turn the first i places hold the numbers, and the rest is as it was.
use Rattle.std.proofs.Common.{◌≡◌, ◌+◌, ◌*◌, ◌++◌}
use Rattle.std.specs.Prelude.{drop}
use Rattle.field.specs.Numbers.{tabulate}
use Rattle.field.proofs.numbers_out.Given as goal

abbrev pub invariant-loop-i : goal.invariant-loop-i
invariant-loop-i g l = l.out ≡ tabulate (λ k. g.T.Number.number_at l.order l.s (l.at + k * g.T.Number.WIDTH)) l.i ++ drop l.i l.initial.out

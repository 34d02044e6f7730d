-- `pad_out` meets its contract: at each turn the first i places hold the bytes, and the rest is as it was.
use Rattle.std.proofs.Common.{◌≡◌, ◌+◌, ◌++◌, get_or}
use Rattle.std.specs.Prelude.{drop}
use Rattle.field.specs.Numbers.{tabulate}
use Rattle.field.proofs.pad_out.Given as goal

abbrev pub invariant-loop-i : goal.invariant-loop-i
invariant-loop-i l = l.out ≡ tabulate (λ k. get_or l.s (l.at + k) 0) l.i ++ drop l.i l.initial.out

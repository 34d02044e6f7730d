-- `run_in` meets its contract: after k turns the first k lines are drawn.
use mathlib.Core.Path.{◌≡◌}
use lib.ListN.{length}
use Rattle.line_run.proofs.Drawn.{Drawn}
use Rattle.line_run.proofs.run_in.Given as goal

abbrev pub invariant-loop-k : goal.invariant-loop-k
invariant-loop-k g l = Drawn l.header l.file l.axis l.initial.out l.k l.out l.most × (length l.out ≡ length l.initial.out)

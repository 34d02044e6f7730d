-- `put_number` meets its contract: the byte behind the number is stored first, and then the digits from the last one on.
use Rattle.decimal.proofs.Writing.{Written}
use Rattle.decimal.proofs.put_number.Given as goal

abbrev pub invariant-loop-rest : goal.invariant-loop-rest
invariant-loop-rest l = Written l.initial.out l.at l.n l.out l.i l.rest

abbrev pub decreases-loop-rest : goal.decreases-loop-rest
decreases-loop-rest l = l.rest

-- `put_bytes` meets its contract: after i turns the first i bytes are stored.
use Rattle.std.proofs.Common.{◌≡◌, get_or}
use Rattle.std.proofs.lemmas.List.Edits.{sets}
use Rattle.field.specs.Numbers.{tabulate}
use Rattle.store.proofs.put_bytes.Given as goal

abbrev pub invariant-loop-i : goal.invariant-loop-i
invariant-loop-i l = l.buf ≡ sets l.initial.buf l.at (tabulate (λ k. get_or l.src k 0) l.i)

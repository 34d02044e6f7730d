-- `put_numbers` meets its contract: after i turns the first i numbers are stored.
use Rattle.std.proofs.Common.{◌≡◌, get_or}
use Rattle.std.proofs.lemmas.List.Edits.{sets}
use Rattle.field.specs.Numbers.{tabulate, joined, bytes_of}
use Rattle.store.proofs.put_numbers.Given as goal

abbrev pub invariant-loop-i : goal.invariant-loop-i
invariant-loop-i g l =
    let t = g.T.Number in
    l.buf ≡ sets l.initial.buf l.at (joined (tabulate (λ k. bytes_of l.order t.WIDTH (t.number_bits (get_or l.src k t.number_zero))) l.i))

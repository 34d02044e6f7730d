-- `put_numbers` meets its contract: after i turns the first i numbers are stored.
use Rattle.std.proofs.Common.{ℕ, List, get_or}
use Rattle.field.specs.Numbers.{bytes_of}
use Rattle.field.proofs.Stores.{run_turn, length-bytes_of}
use Rattle.store.proofs.put_numbers.Goals as goal

pub loop-i-preserved : goal.loop-i-preserved
loop-i-preserved g c =
    let t = g.T.Number in
    let a = c.args in
    let piece : ℕ → List ℕ = λ k. bytes_of a.order t.WIDTH (t.number_bits (get_or a.src.now k t.number_zero)) in
    rw (c.put.ensures, c.WIDTH.ensures, c.number_of.ensures)
    (run_turn piece t.WIDTH (λ i. length-bytes_of _ _ _) _ _ _ _ c.loop-i.invariant)

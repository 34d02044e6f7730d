-- `numbers_out` meets its contract: at each turn the first i places hold the numbers, and the rest is as it was.
use Rattle.std.specs.Prelude.{◌<◌, ◌+◌, ◌*◌, length}
use Rattle.field.proofs.Tabulate.{tabulate_turn}
use Rattle.field.proofs.numbers_out.Goals as goal

pub loop-i-preserved : goal.loop-i-preserved
loop-i-preserved g c =
    let t = g.T.Number in
    let l = c.args.out.now in
    let room : c.loop-i.i < length l = c.loop-i-test.true in
    tabulate_turn (λ k. t.number_at c.args.order c.args.s.now (c.args.at + k * t.WIDTH)) c.index-out-i.result l c.loop-i.out c.loop-i.i c.read.result room c.loop-i.invariant (rw c.WIDTH.ensures at c.read.ensures)

-- `lines_width` meets its contract: what the lines so far have, and then one line more.
use mathlib.Core.Path.{◌≡◌, sym, ap}
use native.Mathlib.Omega.{arith}
use lib.ListN.{length}
use Rattle.card_lines.proofs.Texts.{length-next, no_lines}
use Rattle.card_lines.proofs.lines_width.Goals as goal

pub loop-rank-init : goal.loop-rank-init
loop-rank-init c = (sym (ap length (no_lines c.args.a)), omega arith)

pub loop-rank-preserved : goal.loop-rank-preserved
loop-rank-preserved c =
    let i = c.loop-rank in
    (omega (arith, c.line_width-width.ensures.0, i.invariant.0, length-next c.args.a i.rank), omega (arith, c.line_width-width.ensures.1))

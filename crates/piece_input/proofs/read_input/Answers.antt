-- Each piece that is taken is not empty, and counts.
use Rattle.std.proofs.Common.{sym, ◌∙◌, arith}
use Rattle.pieces.proofs.Theorems.{accepted_taken}
use Rattle.piece_input.proofs.read_input.Goals as goal

pub loop-input-smaller : goal.loop-input-smaller
loop-input-smaller g c =
    grind (arith, accepted_taken _ _ (sym c.take.ensures.answer ∙ c.in_default.is), c.take.ensures.state, c.if-n-eq0)

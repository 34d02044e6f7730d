-- The measure is what may still come of the total.
use Rattle.std.proofs.Common.{◌-◌}
use Rattle.pieces.specs.Pieces.{total_limit}
use Rattle.piece_input.proofs.read_input.Given as goal

abbrev pub decreases-loop-input : goal.decreases-loop-input
decreases-loop-input g l = total_limit - l.pieces.taken

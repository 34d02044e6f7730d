-- `turn_twos` meets its contract: a loop over blocks of four units (proofs/Blocks.antt).
use Rattle.word_turns.proofs.Blocks.{Left}
use Rattle.word_turns.proofs.turn_twos.Given as goal

abbrev pub invariant-loop-left : goal.invariant-loop-left
invariant-loop-left l = Left 2 l.start l.count l.initial.buf l.end l.left l.buf

abbrev pub decreases-loop-left : goal.decreases-loop-left
decreases-loop-left l = l.left

-- `turn_many` meets its contract: each arm is what its call ensures, at the width that the arm's number says.
use Rattle.word_blocks.specs.Blocks.{fours, eights, sixteens}
use Rattle.word_turns.proofs.turn_many.Goals as goal

pub turn_twos-requires : goal.turn_twos-requires
turn_twos-requires c = rw c.in-2.is at c.requires

pub turn_wide-requires : goal.turn_wide-requires
turn_wide-requires c = (fours, rw c.in-4.is at c.requires)

pub turn_wide-requires-in-8 : goal.turn_wide-requires-in-8
turn_wide-requires-in-8 c = (eights, rw c.in-8.is at c.requires)

pub turn_wide-requires-in-16 : goal.turn_wide-requires-in-16
turn_wide-requires-in-16 c = (sixteens, rw c.in-16.is at c.requires)

pub returns-in-2 : goal.returns-in-2
returns-in-2 c = rw c.in-2.is c.turn_twos.ensures

pub returns-in-4 : goal.returns-in-4
returns-in-4 c = rw c.in-4.is c.turn_wide.ensures

pub returns-in-8 : goal.returns-in-8
returns-in-8 c = rw c.in-8.is c.turn_wide-in-8.ensures

pub returns-in-16 : goal.returns-in-16
returns-in-16 c = rw c.in-16.is c.turn_wide-in-16.ensures

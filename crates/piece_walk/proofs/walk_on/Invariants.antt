-- `walk_on` meets its contract: what the start comes to is what the walk so far comes to (proofs/Passing.antt). The measure is how many
-- extensions may still come.
use Rattle.std.proofs.Common.{◌≡◌, ◌-◌}
use Rattle.extension.specs.Walk.{extension_limit}
use Rattle.piece_walk.proofs.Passing.{comes_to}
use Rattle.piece_walk.proofs.walk_on.Given as goal

abbrev pub invariant-loop-x : goal.invariant-loop-x
invariant-loop-x l =
    comes_to l.initial.walker l.fn.walk.coming l.fn.taken l.fn.piece l.initial.marks ≡ comes_to l.walker l.fn.walk.coming l.fn.taken l.fn.piece l.marks

abbrev pub decreases-loop-x : goal.decreases-loop-x
decreases-loop-x l = extension_limit - l.walker.count

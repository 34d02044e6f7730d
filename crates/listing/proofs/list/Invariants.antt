-- `list` meets its contract: at each turn the spans so far and the walk that is left are the whole walk (proofs/Filled.antt).
-- The measure is how many extensions may still come.
use Rattle.extension.specs.Walk.{extensions_in}
use Rattle.extension.proofs.Walks.{before}
use Rattle.listing.proofs.Filled.{Filled}
use Rattle.listing.proofs.list.Given as goal

abbrev pub invariant-loop-x : goal.invariant-loop-x
invariant-loop-x l = Filled (extensions_in l.initial.walker.order l.initial.walker.end l.file) l.file l.walker l.spans

abbrev pub decreases-loop-x : goal.decreases-loop-x
decreases-loop-x l = before l.walker.count

-- `scan` meets its contract: at each turn the extensions passed and the walk that is left are the whole walk, and the place is that of
-- the one that is wanted, where it is among those passed (proofs/Filled.antt). The measure is how many extensions may still come.
use Rattle.extension.specs.Walk.{extensions_in}
use Rattle.extension.proofs.Walks.{before}
use Rattle.listing.proofs.Filled.{Kept}
use Rattle.listing.proofs.scan.Given as goal

abbrev pub invariant-loop-x : goal.invariant-loop-x
invariant-loop-x l =
    Kept (extensions_in l.initial.walker.order l.initial.walker.end l.file) l.file l.wanted l.walker l.place

abbrev pub decreases-loop-x : goal.decreases-loop-x
decreases-loop-x l = before l.walker.count

-- `has_magic` meets its contract: each kind's four bytes.
use Rattle.layout.specs.File.{has_magic}
use Rattle.layout.proofs.has_magic.Goals as goal

pub returns-in-Single : goal.returns-in-Single
unfolding has_magic
returns-in-Single c = rw c.in-Single.is c.is_four.ensures

pub returns-in-Pair : goal.returns-in-Pair
unfolding has_magic
returns-in-Pair c = rw c.in-Pair.is c.is_four-in-Pair.ensures

-- `kind_of` meets its contract: a single file by its magic, and else a pair.
use mathlib.Core.Path.{sym, ◌∙◌}
use Rattle.layout.specs.File.{kind_of}
use Rattle.layout.proofs.kind_of.Goals as goal

pub returns-then-has_magic : goal.returns-then-has_magic
unfolding kind_of
returns-then-has_magic c = rw (sym c.has_magic.ensures ∙ c.if-has_magic.true)

pub returns-else-has_magic : goal.returns-else-has_magic
unfolding kind_of
returns-else-has_magic c = rw (sym c.has_magic.ensures ∙ c.if-has_magic.false)

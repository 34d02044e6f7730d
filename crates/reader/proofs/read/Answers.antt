-- `read` meets its contract: rules 1 to 12, and then the extensions.
use mathlib.Core.Path.{sym, ◌∙◌}
use Rattle.reader.proofs.Answers.{reads_broken}
use Rattle.reader.proofs.read.Goals as goal

pub read_list-requires : goal.read_list-requires
read_list-requires c = sym c.check.ensures ∙ c.in-Ok.is

pub returns-in-Err : goal.returns-in-Err
returns-in-Err c =
    c.refused.ensures ∙ reads_broken c.args.file.now c.in-Err.r (sym c.check.ensures ∙ c.in-Err.is)

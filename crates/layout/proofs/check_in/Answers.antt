-- `check_in` meets its contract: rules 1 to 4, and then the rest.
use mathlib.Core.Path.{sym, ◌∙◌}
use borrow.Author.Rules.{rules}
use Rattle.layout.proofs.Checking.{checks_start}
use Rattle.layout.proofs.check_in.Goals as goal

pub check_fields-requires : goal.check_fields-requires
check_fields-requires c = (c.requires, sym c.start_in.ensures ∙ c.in_ok-order.was)

pub returns-in_err-order : goal.returns-in_err-order
returns-in_err-order c =
    rw (← checks_start c.args.file.now c.args.len _ (sym c.start_in.ensures ∙ c.in_err-order.was)) (search rules)

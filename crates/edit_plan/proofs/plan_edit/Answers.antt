-- `plan_edit` meets its contract: reading's refusal, or the list's plan.
use mathlib.Core.Path.{sym, ◌∙◌}
use borrow.Author.Rules.{rules}
use Rattle.edit_plan.proofs.Deciding.{stops_unread}
use Rattle.edit_plan.proofs.plan_edit.Goals as goal

pub returns-in_err-outline : goal.returns-in_err-outline
returns-in_err-outline c =
    let a = c.args in
    let e = rw c.number_of.ensures at (sym c.outline_of.ensures ∙ c.in_err-outline.was) in
    rw (← stops_unread a.file.now a.room a.change a.code a.payload.now c.in_err-outline.field-0.0 e) (search rules)

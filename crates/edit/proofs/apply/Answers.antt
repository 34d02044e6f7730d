-- `apply` meets its contract: 24 is tested first, and then the plan decides (proofs/Outcomes.antt); the splice leaves the settled buffer.
use Rattle.std.specs.Prelude.{Ok, Err}
use mathlib.Core.Path.{sym, ap, ◌∙◌}
use lib.ListN.{length, take}
use mir.Syntax.{w32}
use mir.ValLaws.{to_z-of_z}
use borrow.Author.Rules.{rules}
use Rattle.edit_plan.specs.declared.Plan.{Plan}
use Rattle.edit_plan.proofs.Deciding.{planned}
use Rattle.edit.specs.Outcome.{edit_answer, buffer_after}
use Rattle.edit.proofs.Outcomes.{outcome_24, outcome_stop, outcome_go}
use Rattle.edit.proofs.Theorems.{plan_aligned}
use Rattle.edit.proofs.apply.Goals as goal

pub returns-then-buf-len : goal.returns-then-buf-len
returns-then-buf-len c =
    let a = c.args in
    let e = outcome_24 a.buf.now a.len a.change a.code a.payload.now c.if-buf-len.true in
    record { answer = ap Err c.at.ensures ∙ ap edit_answer (sym e); content = ap (buffer_after a.buf.now a.len) (sym e) }

pub splice-length-requires : goal.splice-length-requires
splice-length-requires c =
    let planned-is = rw (to_z-of_z w32 c.args.code c.ranges.code) at (sym c.plan_edit.ensures ∙ c.in_ok-plan.was) in
    rw (to_z-of_z w32 c.args.code c.ranges.code) (c.if-buf-len.false, planned-is)

pub returns-in_err-plan : goal.returns-in_err-plan
returns-in_err-plan c =
    let a = c.args in
    let planned-is = rw (to_z-of_z w32 a.code c.ranges.code) at (sym c.plan_edit.ensures ∙ c.in_err-plan.was) in
    let e = outcome_stop a.buf.now a.len a.change a.code a.payload.now c.if-buf-len.false c.in_err-plan.field-0.0 planned-is in
    record { answer = rw e (search rules); content = ap (buffer_after a.buf.now a.len) (sym e) }

pub returns : goal.returns
returns c =
    let a = c.args in
    let q = to_z-of_z w32 a.code c.ranges.code in
    let planned-is = rw (q) at (sym c.plan_edit.ensures ∙ c.in_ok-plan.was) in
    let e = outcome_go a.buf.now a.len a.change a.code a.payload.now c.if-buf-len.false c.in_ok-plan.plan planned-is in
    let long = rw q at c.splice-length.ensures.answer in
    let held = rw q at c.splice-length.ensures.content in
    let f = take a.len a.buf.now in
    let go = planned f (length a.buf.now) a.change a.code a.payload.now c.in_ok-plan.plan planned-is in
    let x =
    sym (ap (λ (y : Plan). y.aligned) go.1)
    ∙ plan_aligned f (length a.buf.now) a.change a.code a.payload.now c.ranges.code go.0 in
    record { answer = rw e (λ i. Ok (record { length = long i; aligned = x i })); content = rw e held }

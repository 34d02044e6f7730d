-- `write` meets its contract: the record's rules, its sizes and aligned fact, then the buffer's length, and then the header's stores.
use Rattle.std.proofs.Common.{sym, ap, ◌∙◌, Err, arith, rules}
use Rattle.refusal.proofs.Rows.{accepted_clear}
use Rattle.rules.specs.Rules.{record_rows, shape_of_record}
use Rattle.rules.proofs.Passed.{record_passed_is}
use Rattle.rules.proofs.Sizes.{shape_measured}
use Rattle.writer.proofs.Writing.{writes_failed, writes_26, writes_22, writes_all}
use Rattle.writer.proofs.write.Goals as goal

pub returns-in_err-aligned : goal.returns-in_err-aligned
returns-in_err-aligned c =
    let w = writes_failed c.args.header c.args.buf.now _ (sym c.judge_record.ensures ∙ c.in_err-aligned.was) in
    record { answer = search rules ∙ w.0; content = w.1 }

pub has_wrong_facts-requires : goal.has_wrong_facts-requires
has_wrong_facts-requires c =
    let h = c.args.header in
    let p = record_passed_is h _ _ (sym c.judge_record.ensures ∙ c.in_ok-aligned.was) in
    record { measured = shape_measured (shape_of_record h) (accepted_clear (record_rows h) p.0); header_value = p.2 }

pub returns-then-has_wrong_facts : goal.returns-then-has_wrong_facts
returns-then-has_wrong_facts c =
    let passed = sym c.judge_record.ensures ∙ c.in_ok-aligned.was in
    let w = writes_26 c.args.header c.args.buf.now _ _ passed (sym c.has_wrong_facts.ensures ∙ c.if-has_wrong_facts.true) in
    record { answer = ap Err c.at.ensures ∙ w.0; content = w.1 }

pub returns-then-buf-lt348 : goal.returns-then-buf-lt348
returns-then-buf-lt348 c =
    let passed = sym c.judge_record.ensures ∙ c.in_ok-aligned.was in
    let right = sym c.has_wrong_facts.ensures ∙ c.if-has_wrong_facts.false in
    let w = writes_22 c.args.header c.args.buf.now _ _ passed right c.if-buf-lt348.true in
    record { answer = ap Err c.at-then-buf-lt348.ensures ∙ w.0; content = w.1 }

pub returns : goal.returns
returns c =
    let passed = sym c.judge_record.ensures ∙ c.in_ok-aligned.was in
    let right = sym c.has_wrong_facts.ensures ∙ c.if-has_wrong_facts.false in
    let w = writes_all c.args.header c.args.buf.now _ _ passed right (omega arith) in
    record { answer = w.0; content = c.write_header.ensures ∙ w.1 }

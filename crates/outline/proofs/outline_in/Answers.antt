-- `outline_in` meets its contract: rules 1 to 12, and then the rest.
use mathlib.Core.Path.{sym, ap, ◌∙◌}
use borrow.Author.Rules.{rules}
use Rattle.layout.specs.File.{checked_in}
use Rattle.outline.proofs.Outlines.{outlines_unread}
use Rattle.outline.proofs.outline_in.Goals as goal

pub outline_checked-requires : goal.outline_checked-requires
outline_checked-requires c =
    let a = c.args in
    ap (checked_in a.file.now) (sym (c.requires.1 c.if-whole.true)) ∙ sym c.check_in.ensures ∙ c.in_ok-layout.was

pub returns-then-whole : goal.returns-then-whole
returns-then-whole c = rw c.if-whole.true c.outline_checked.ensures

pub returns-in_err-layout : goal.returns-in_err-layout
returns-in_err-layout c =
    let a = c.args in
    rw (← outlines_unread a.file.now a.len a.whole a.wanted _ c.requires.1 (sym c.check_in.ensures ∙ c.in_err-layout.was)) (search rules)

pub returns : goal.returns
returns c = rw (c.if-whole.false, sym c.check_in.ensures ∙ c.in_ok-layout.was)

-- `outline_checked` meets its contract: the scan's answer decides, by the laws of proofs/Outlines.antt.
use mathlib.Core.Path.{sym, ◌∙◌}
use borrow.Author.Rules.{rules}
use Rattle.outline.proofs.Outlines.{outlines}
use Rattle.outline.proofs.outline_checked.Goals as goal

pub returns-in_err-count : goal.returns-in_err-count
returns-in_err-count c =
    rw (← outlines c.args.file.now c.args.layout c.requires c.args.wanted _ (sym c.scan_in.ensures ∙ c.in_err-count.was)) (search rules)

pub returns : goal.returns
returns c = outlines c.args.file.now c.args.layout c.requires c.args.wanted _ (sym c.scan_in.ensures ∙ c.in_ok-count.was)

-- `line_width` meets its contract: the digits of the rank and of the slice, the space and the line feed; where there is no slice, nothing.
use Rattle.std.specs.Prelude.{Ok}
use mathlib.Core.Path.{sym, ap, ◌∙◌}
use native.Mathlib.Omega.{arith}
use lib.ListN.{length}
use Rattle.card_lines.proofs.Texts.{shown_length, unstated_text, refused_text}
use Rattle.card_lines.proofs.line_width.Goals as goal

pub returns-in-Ok-Some : goal.returns-in-Ok-Some
returns-in-Ok-Some c =
    let a = c.args in
    let n = shown_length a.a a.rank _ (sym c.ranked_by.ensures ∙ c.in-Ok-Some.is ∙ ap Ok c.in-Ok-Some.field-0-is) in
    (omega (arith, n, c.width-in-Ok-Some.ensures.0, c.width.ensures.0), omega (arith, c.width-in-Ok-Some.ensures.1, c.width.ensures.1))

pub returns-in-Ok-None : goal.returns-in-Ok-None
returns-in-Ok-None c =
    let a = c.args in
    (sym (ap length (unstated_text a.a a.rank (sym c.ranked_by.ensures ∙ c.in-Ok-None.is ∙ ap Ok c.in-Ok-None.field-0-is))), omega arith)

pub returns-in-Err : goal.returns-in-Err
returns-in-Err c =
    let a = c.args in
    (sym (ap length (refused_text a.a a.rank _ (sym c.ranked_by.ensures ∙ c.in-Err.is))), omega arith)

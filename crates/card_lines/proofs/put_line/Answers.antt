-- `put_line` meets its contract: the rank and a space, then the slice and a line feed; where there is no slice, nothing.
use Rattle.std.specs.Prelude.{Ok}
use mathlib.Core.Path.{sym, ap, ◌∙◌}
use native.Mathlib.Omega.{arith}
use Rattle.card_lines.proofs.Texts.{shown_length, unstated_text, refused_text, none_written, line_written}
use Rattle.card_lines.proofs.put_line.Goals as goal

pub put_number-next-requires : goal.put_number-next-requires
put_number-next-requires c =
    let n = shown_length c.args.a c.args.rank _ (sym c.ranked_by.ensures ∙ c.in-Ok-Some.is ∙ ap Ok c.in-Ok-Some.field-0-is) in
    omega (arith, n, c.requires)

pub put_number-requires : goal.put_number-requires
put_number-requires c =
    let p = c.put_number-next in
    let n = shown_length c.args.a c.args.rank _ (sym c.ranked_by.ensures ∙ c.in-Ok-Some.is ∙ ap Ok c.in-Ok-Some.field-0-is) in
    omega (arith, n, c.requires, p.ensures.0, p.auto.out)

pub returns-in-Ok-Some : goal.returns-in-Ok-Some
returns-in-Ok-Some c =
    let q = c.put_number in
    let p = c.put_number-next in
    let a = c.args in
    line_written a.a a.rank a.out.now _ _ a.at _ _ _ (sym c.ranked_by.ensures ∙ c.in-Ok-Some.is ∙ ap Ok c.in-Ok-Some.field-0-is)
    c.requires p.ensures.0 p.ensures.1 q.ensures.0 q.ensures.1

pub returns-in-Ok-None : goal.returns-in-Ok-None
returns-in-Ok-None c =
    let a = c.args in
    none_written a.a a.rank a.out.now a.at (unstated_text a.a a.rank (sym c.ranked_by.ensures ∙ c.in-Ok-None.is ∙ ap Ok c.in-Ok-None.field-0-is))

pub returns-in-Err : goal.returns-in-Err
returns-in-Err c =
    let a = c.args in
    none_written a.a a.rank a.out.now a.at (refused_text a.a a.rank _ (sym c.ranked_by.ensures ∙ c.in-Err.is))

-- `turn` meets its contract: a refused file is left, and of an accepted one `turn_shown` does all.
use mathlib.Core.Path.{sym, ◌∙◌}
use borrow.Author.Rules.{rules}
use Rattle.turn.proofs.Shown.{turns_hidden}
use Rattle.turn.proofs.turn.Goals as goal

pub returns-in_err-outline : goal.returns-in_err-outline
returns-in_err-outline c =
    let a = c.args in
    let e = sym c.outline_of.ensures ∙ c.in_err-outline.was in
    let h = turns_hidden a.file.now a.image.now a.t a.out.now a.out_image.now c.in_err-outline.field-0.0 e in
    (rw (← h.0) (search rules), h.1, h.2)

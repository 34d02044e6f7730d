-- `swap` meets its contract: a refused file refuses the swap.
use mathlib.Core.Path.{sym, ◌∙◌}
use borrow.Author.Rules.{rules}
use Rattle.byteswap.proofs.Answers.{swaps_hidden}
use Rattle.byteswap.proofs.swap.Goals as goal

pub returns-in_err-outline : goal.returns-in_err-outline
returns-in_err-outline g c =
    let a = c.args in
    let e = sym c.outline_of.ensures ∙ c.in_err-outline.was in
    let h = swaps_hidden a.file.now a.image.now c.in_err-outline.field-0.0 e in
    (rw (← h.0) (search rules), h.1, h.2)

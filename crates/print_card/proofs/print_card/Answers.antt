-- What is printed is what the card's call has written.
use Rattle.std.proofs.Common.{sym, ◌∙◌, ◌≤◌, length-take-le, arith}
use Rattle.print_card.proofs.Room.{written_fits}
use Rattle.print_card.proofs.print_card.Goals as goal

pub slice_bounds-text-end : goal.slice_bounds-text-end
slice_bounds-text-end g c =
    let h : c.in-Ok.n ≤ 393216 = written_fits c.args.reading _ _ (sym c.card_of.ensures.0 ∙ c.in-Ok.is) in
    omega (arith, h, c.card_of.auto.out)

pub slice_bounds-put-end : goal.slice_bounds-put-end
slice_bounds-put-end g c =
    let h : c.in-Ok.n ≤ 393216 = written_fits c.args.reading _ _ (sym c.card_of.ensures.0 ∙ c.in-Ok.is) in
    sym (length-take-le _ _ (omega (arith, h, c.card_of.auto.out)))

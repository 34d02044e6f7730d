-- `card_of` meets its contract: the reading's refusal, and else the card by the fields of its record.
use Rattle.std.proofs.Common.{subst, rules}
use lib.ListN.{length}
use Rattle.buffer.specs.Fill.{Fills}
use Rattle.timing.specs.declared.Acquisition.{Acquisition}
use Rattle.slice_card.specs.Card.{card_text, room_for}
use Rattle.slice_card.proofs.Calls.{reading_refused, reading_accepted}
use Rattle.slice_card.proofs.card_of.Goals as goal

pub returns-in_err-reading : goal.returns-in_err-reading
returns-in_err-reading c =
    let refused = reading_refused c.args.reading c.args.out.now _ c.in_err-reading.was in
    (rw (← refused.0) (search rules), refused.1)

pub returns : goal.returns
returns c =
    let a = c.args in
    let k = c.card_by in
    reading_accepted a.reading a.out.now c.in_ok-reading.was _ _
    (subst (λ (x : Acquisition). Fills (room_for (card_text x) (length a.out.now)) (card_text x) a.out.now k.result k.new.out)
    c.acquisition_of.ensures k.ensures)

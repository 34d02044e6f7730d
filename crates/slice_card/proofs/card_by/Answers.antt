-- `card_by` meets its contract: which of the two cards it is.
use mathlib.Core.Path.{sym, ◌∙◌}
use Rattle.slice_card.proofs.Calls.{card_stated, card_unstated}
use Rattle.slice_card.proofs.card_by.Goals as goal

pub returns-then-is_stated : goal.returns-then-is_stated
returns-then-is_stated c =
    rw (card_stated c.args.a (sym c.is_stated.ensures ∙ c.if-is_stated.true)) c.put_stated.ensures

pub returns-else-is_stated : goal.returns-else-is_stated
returns-else-is_stated c =
    rw (card_unstated c.args.a (sym c.is_stated.ensures ∙ c.if-is_stated.false)) c.put_unstated.ensures

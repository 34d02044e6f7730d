-- `put_unstated` meets its contract: 22, or the one line.
use mathlib.Core.Path.{refl}
use native.Mathlib.Omega.{arith}
use mathlib.Core.List.{[], ◌∷◌}
use Rattle.card_lines.specs.Lines.{ended}
use Rattle.slice_card.specs.Card.{no_timing}
use Rattle.slice_card.proofs.Calls.{fills_none, fills_whole}
use Rattle.slice_card.proofs.put_unstated.Goals as goal

pub returns-then-out-lt10 : goal.returns-then-out-lt10
unfolding ended
returns-then-out-lt10 c = rw c.at.ensures (fills_none c.args.out.now (ended (no_timing ∷ [])) (omega arith))

pub returns : goal.returns
unfolding ended
returns c =
    fills_whole c.args.out.now (ended (no_timing ∷ [])) _ 10 (omega (arith, c.if-out-lt10.false)) refl c.copy_in.ensures

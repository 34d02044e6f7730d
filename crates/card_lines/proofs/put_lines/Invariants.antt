-- `put_lines` meets its contract: the lines so far stand at the front, and each goes right behind them.
use mathlib.Core.Path.{◌≡◌}
use lib.ListN.{length}
use Rattle.buffer.specs.Put.{put}
use Rattle.card_lines.specs.Lines.{lines_text}
use Rattle.card_lines.proofs.put_lines.Given as goal

abbrev pub invariant-loop-rank : goal.invariant-loop-rank
invariant-loop-rank l =
    (l.at ≡ length (lines_text l.a l.rank)) × (l.out ≡ put l.initial.out 0 (lines_text l.a l.rank)) × (length l.out ≡ length l.initial.out)

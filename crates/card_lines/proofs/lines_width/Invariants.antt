-- `lines_width` meets its contract: what the lines so far have, and then one line more.
use mathlib.Core.Path.{◌≡◌}
use Prim.Native.Nat.{◌*◌, ◌≤◌}
use lib.ListN.{length}
use Rattle.card_lines.specs.Lines.{lines_text}
use Rattle.card_lines.proofs.lines_width.Given as goal

abbrev pub invariant-loop-rank : goal.invariant-loop-rank
invariant-loop-rank l = (l.width ≡ length (lines_text l.a l.rank)) × (l.width ≤ 42 * l.rank)

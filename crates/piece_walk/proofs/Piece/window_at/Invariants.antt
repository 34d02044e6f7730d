-- `window_at` meets its contract: so far the window's first bytes are stored.
use Rattle.std.proofs.Common.{◌≡◌, ◌++◌, length, drop}
use Rattle.field.specs.Numbers.{tabulate}
use Rattle.piece_walk.specs.Window.{window_byte}
use Rattle.piece_walk.proofs.Piece.window_at.Given as goal

abbrev pub invariant-loop-i : goal.invariant-loop-i
invariant-loop-i l =
    (length l.out ≡ 8) × (length l.initial.out ≡ 8) × (l.out ≡ tabulate (λ k. window_byte l.at l.end l.self.taken l.self.old l.self.bytes.now k) l.i ++ drop l.i l.initial.out)

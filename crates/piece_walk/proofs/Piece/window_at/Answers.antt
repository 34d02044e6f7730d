-- `window_at` meets its contract: so far the window's first bytes are stored.
use Rattle.std.proofs.Common.{arith, length-set}
use Rattle.field.proofs.Tabulate.{tabulate_turn, tabulate_done}
use Rattle.piece_walk.specs.Window.{window}
use Rattle.piece_walk.proofs.Piece.window_at.Goals as goal

pub loop-i-preserved : goal.loop-i-preserved
loop-i-preserved c =
    let inv = c.loop-i.invariant in
    (simp length-set inv.0, inv.1, tabulate_turn _ 0 _ _ _ _ (omega arith) inv.2 c.window_byte.ensures)

pub returns : goal.returns
unfolding window
returns c =
    let l = c.loop-i in
    tabulate_done _ _ _ l.i (omega arith) (omega arith) l.invariant.2

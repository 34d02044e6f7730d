-- `turn_wide` meets its contract: thirty-two bytes after thirty-two.
use Prim.Native.Nat.{◌/◌}
use native.Mathlib.Omega.{arith}
use Rattle.word_blocks.proofs.Stored.{turned_join}
use Rattle.word_blocks.proofs.Blocks.{wide_thirty_two, wide_twice_again}
use Rattle.word_blocks.proofs.turn_wide.Goals as goal

pub returns : goal.returns
returns c =
    let a = c.args in
    let w = c.requires.0 in
    rw (← wide_twice_again w)
    (turned_join a.unit a.at 32 (32 / a.unit) (32 / a.unit) a.buf.now c.turn_both.new.buf c.turn_both-2.new.buf (wide_thirty_two w)
    (omega (arith, c.requires.1)) c.turn_both.ensures c.turn_both-2.ensures)

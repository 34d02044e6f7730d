-- `turn_both` meets its contract: sixteen bytes after sixteen.
use Prim.Native.Nat.{◌/◌}
use native.Mathlib.Omega.{arith}
use Rattle.word_blocks.proofs.Stored.{turned_join}
use Rattle.word_blocks.proofs.Blocks.{wide_sixteen, wide_twice}
use Rattle.word_blocks.proofs.turn_both.Goals as goal

pub returns : goal.returns
returns c =
    let a = c.args in
    let w = c.requires.0 in
    rw (← wide_twice w)
    (turned_join a.unit a.at 16 (16 / a.unit) (16 / a.unit) a.buf.now c.turn_pairs.new.buf c.turn_words.new.buf (wide_sixteen w)
    (omega (arith, c.requires.1)) c.turn_pairs.ensures c.turn_words.ensures)

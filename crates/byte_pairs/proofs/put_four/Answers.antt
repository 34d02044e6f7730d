-- `put_four` meets its contract: each pair is stored behind those before it.
use Rattle.byte_pairs.proofs.Pairs.{four_stored}
use Rattle.byte_pairs.proofs.put_four.Goals as goal

pub returns : goal.returns
returns c =
    let a = c.args in
    four_stored a.at a.a a.b a.c a.d a.buf.now c.put_pair.new.buf c.put_pair-2.new.buf c.put_pair-3.new.buf
    c.put_pair-4.new.buf c.put_pair.ensures c.put_pair-2.ensures c.put_pair-3.ensures c.put_pair-4.ensures

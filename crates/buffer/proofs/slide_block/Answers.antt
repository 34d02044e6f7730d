-- `slide_block` meets its contract: what is copied out to the local array and back is what stood there.
use Prim.Native.Nat.{◌+◌, ◌-◌}
use native.Mathlib.Omega.{arith}
use Rattle.buffer.proofs.Moves.{by_way_of}
use Rattle.buffer.proofs.slide_block.Goals as goal

pub returns : goal.returns
returns c =
    let a = c.args in
    by_way_of a.buf.now _ _ _ a.from a.to a.n (a.from + a.n - a.from) a.n (omega arith) (omega arith) (omega arith)
    c.copy_in.ensures
    c.copy_in-2.ensures

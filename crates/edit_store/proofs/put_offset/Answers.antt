-- `put_offset` meets its contract: in a pair there is nothing to write.
use mathlib.Core.Path.{◌≡◌, ◌∙◌}
use native.Mathlib.Omega.{arith}
use lib.Seq.{sets}
use Rattle.field.specs.Numbers.{bytes_of}
use Rattle.field.proofs.Stores.{length-bytes_of}
use Rattle.offset.specs.Offset.{offset_bits}
use Rattle.buffer.proofs.Laws.{sets-put}
use Rattle.edit_store.proofs.put_offset.Goals as goal

pub returns-in-Single : goal.returns-in-Single
returns-in-Single c =
    let a = c.args in
    let w = bytes_of a.order 4 (offset_bits a.end) in
    let b = length-bytes_of a.order 4 (offset_bits a.end) in
    let e : c.put.new.buf ≡ sets a.buf.now 108 w =
    rw c.encode.ensures at c.put.ensures in
    e ∙ sets-put a.buf.now 108 w (omega arith) ∙ rw c.in-Single.is

-- `put_extension` meets its contract: four writes, one right behind the other (proofs/Storing.antt).
use Prim.Native.Nat.{◌+◌}
use mathlib.Core.Path.{◌≡◌}
use native.Mathlib.Omega.{arith}
use lib.ListN.{length}
use lib.Seq.{sets}
use mir.Syntax.{w32}
use mir.Val.{of_z}
use mir.ValLaws.{to_z-of_z}
use Rattle.field.specs.Numbers.{bytes_of}
use Rattle.change.specs.Change.{size_for}
use Rattle.edit_store.proofs.Storing.{stored_put}
use Rattle.edit_store.proofs.put_extension.Goals as goal

pub returns : goal.returns
returns c =
    let a = c.args in
    let size : c.size_for-size.result ≡ size_for (length a.payload.now) = omega (arith, c.size_for-size.ensures, c.requires) in
    let q = to_z-of_z w32 a.code c.ranges.code in
    let e : c.put-2.new.buf ≡ sets c.put.new.buf (a.at + 4) (bytes_of a.order 4 (of_z w32 a.code)) =
    rw q at c.put-2.ensures in
    stored_put a.buf.now a.at a.order a.code a.payload.now c.put.new.buf c.put-2.new.buf c.copy_in.new.buf
    c.clear.new.buf c.requires.0 c.put.auto.buf (rw size at c.put.ensures) e c.copy_in.ensures
    (rw size at c.clear.ensures)

-- `splice` meets its contract: its four steps are those of the law `spliced` (proofs/Splicing.antt).
use Prim.Native.Nat.{◌+◌, ◌≤◌}
use mathlib.Core.Path.{sym}
use native.Mathlib.Omega.{arith}
use lib.ListN.{length, take}
use mir.Syntax.{w32}
use mir.Val.{to_z, of_z}
use mir.ValLaws.{to_z-of_z}
use Rattle.offset.specs.Offset.{offset_limit}
use Rattle.layout.specs.File.{order_of}
use Rattle.change.specs.Change.{new_size}
use Rattle.edit_plan.proofs.Planning.{length_new}
use Rattle.edit.proofs.Splicing.{known, spliced}
use Rattle.edit.proofs.splice.Goals as goal

pub make_room-requires : goal.make_room-requires
make_room-requires c =
    let s = (known c.requires.0 c.requires.1).sizes in
    let w = c.max-whole.ensures in
    (rw w s.out, (rw w s.inside, rw w s.room))

pub put_new-requires : goal.put_new-requires
put_new-requires c =
    let a = c.args in
    let k = known c.requires.0 c.requires.1 in
    let n = length_new a.plan.order a.change (to_z w32 (of_z w32 a.code)) a.payload.now in
    let o = length_new (order_of (take a.len a.buf.now)) a.change a.code a.payload.now in
    let s = k.sizes in
    let x = k.carries.new_is in
    let out = s.out in
    let room = s.room in
    let y : a.plan.at + new_size a.change (length a.payload.now) ≤ length a.buf.now = omega (arith, x, o, room, out) in
    let z : a.plan.at + new_size a.change (length a.payload.now) ≤ offset_limit = omega (arith, x, o, s.new_inside, s.end_limit) in
    (omega (arith, n, y, c.make_room.auto.buf), omega (arith, n, z))

pub put_extender-requires : goal.put_extender-requires
put_extender-requires c =
    let s = (known c.requires.0 c.requires.1).sizes.inside in
    omega (arith, c.put_new.auto.buf, c.make_room.auto.buf)

pub put_offset-requires : goal.put_offset-requires
put_offset-requires c =
    let s = (known c.requires.0 c.requires.1).sizes in
    let inside = s.inside in
    (omega (arith, c.put_extender.auto.buf, c.put_new.auto.buf, c.make_room.auto.buf), s.end_limit)

pub overflow_sub-result : goal.overflow_sub-result
overflow_sub-result c =
    let s = (known c.requires.0 c.requires.1).sizes.out in
    omega (arith, c.max-whole.ensures)

pub overflow_add-result : goal.overflow_add-result
overflow_add-result c =
    let s = (known c.requires.0 c.requires.1).sizes in
    let room = s.room in
    let out = s.out in
    let w = c.max-whole.ensures in
    record { fits = omega arith }

pub returns : goal.returns
returns c =
    let a = c.args in
    let k = known c.requires.0 c.requires.1 in
    let w = c.max-whole.ensures in
    let q = to_z-of_z w32 a.code c.ranges.code in
    record {
      answer = rw w (sym k.sizes.result);
      content =
          spliced a.buf.now a.len a.change a.code a.payload.now a.plan c.requires.0 k.allowed k.carries
          c.ranges.code _ _ _ _ _ w c.make_room.ensures (rw q at c.put_new.ensures) c.put_extender.ensures c.put_offset.ensures;
    }

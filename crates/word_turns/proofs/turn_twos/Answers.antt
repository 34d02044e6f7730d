-- `turn_twos` meets its contract: a loop over blocks of four units (proofs/Blocks.antt).
use Prim.Native.Nat.{◌+◌, ◌*◌}
use native.Mathlib.Nat.{div-mul-le_self}
use native.Mathlib.Omega.{arith}
use mathlib.Core.Path.{refl}
use Rattle.word_turns.proofs.Blocks.{left_all, left_next, left_rest}
use Rattle.word_turns.proofs.turn_twos.Goals as goal

pub loop-left-init : goal.loop-left-init
loop-left-init c =
    let a = c.args in
    left_all 2 a.start a.count a.buf.now (omega arith) c.requires

pub loop-left-preserved : goal.loop-left-preserved
loop-left-preserved c =
    let v = c.loop-left in
    let a = c.args in
    left_next 2 a.start a.count a.buf.now (omega arith) 4 8 refl (a.start + a.count * 2)
    v.left v.buf v.invariant c.loop-left-test.true
    c.turn_twos.new.buf c.turn_twos.auto.buf c.turn_twos.ensures

pub turn_units-requires : goal.turn_units-requires
turn_units-requires c =
    let v = c.loop-left in
    omega (arith, v.invariant.within, v.invariant.room, div-mul-le_self v.left 2)

pub returns : goal.returns
returns c =
    let v = c.loop-left in
    let a = c.args in
    left_rest 2 a.start a.count a.buf.now (omega arith) (a.start + a.count * 2)
    v.left v.buf c.turn_units.new.buf v.invariant c.turn_units.ensures

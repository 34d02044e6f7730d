-- `turn_wide` meets its contract: a loop over blocks of sixty-four bytes (proofs/Blocks.antt).
use Prim.Native.Nat.{◌+◌, ◌*◌, ◌/◌}
use native.Mathlib.Nat.{div-mul-le_self}
use native.Mathlib.Omega.{arith}
use Rattle.word_turns.proofs.Blocks.{left_all, left_next, left_rest, wide_positive, wide_fills}
use Rattle.word_turns.proofs.turn_wide.Goals as goal

pub loop-left-init : goal.loop-left-init
loop-left-init c =
    let a = c.args in
    left_all a.unit a.start a.count a.buf.now (wide_positive c.requires.0) c.requires.1

pub loop-left-preserved : goal.loop-left-preserved
loop-left-preserved c =
    let v = c.loop-left in
    let a = c.args in
    left_next a.unit a.start a.count a.buf.now (wide_positive c.requires.0) (64 / a.unit) 64 (wide_fills c.requires.0) (a.start + a.count * a.unit)
    v.left v.buf v.invariant c.loop-left-test.true
    c.turn_wide.new.buf c.turn_wide.auto.buf c.turn_wide.ensures

pub nonzero_div-left : goal.nonzero_div-left
nonzero_div-left c = wide_positive c.requires.0

pub turn_units-requires : goal.turn_units-requires
turn_units-requires c =
    let v = c.loop-left in
    omega (arith, v.invariant.within, v.invariant.room, div-mul-le_self v.left c.args.unit)

pub returns : goal.returns
returns c =
    let v = c.loop-left in
    let a = c.args in
    left_rest a.unit a.start a.count a.buf.now (wide_positive c.requires.0) (a.start + a.count * a.unit)
    v.left v.buf c.turn_units.new.buf v.invariant c.turn_units.ensures

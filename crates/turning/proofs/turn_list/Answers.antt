-- `turn_list` meets its contract. The invariant: the extensions that are left, turned round, come to what the whole was to be at
-- the start (proofs/Turning.antt).
use Prim.Native.Nat.{◌-◌}
use mathlib.Core.Path.{◌≡◌, ◌∙◌}
use native.Mathlib.Omega.{arith}
use Rattle.turning.proofs.Turning.{turn_room, turn_next, turn_left, turn_done}
use Rattle.turning.proofs.turn_list.Goals as goal

pub read-size-requires : goal.read-size-requires
read-size-requires c = omega (arith, turn_room (turn_left c.loop-test.true c.loop.invariant.1.1))

pub turn_units-requires : goal.turn_units-requires
turn_units-requires c = omega (arith, turn_room (turn_left c.loop-test.true c.loop.invariant.1.1))

pub overflow_add-at : goal.overflow_add-at
overflow_add-at c = omega (arith, turn_room (turn_left c.loop-test.true c.loop.invariant.1.1))

pub loop-preserved : goal.loop-preserved
loop-preserved c =
    let t = turn_left c.loop-test.true c.loop.invariant.1.1 in
    let after = c.turn_units in
    (omega arith, (after.auto.buf ∙ c.loop.invariant.1.0, rw c.read-size.ensures (turn_next t _ after.ensures)))

pub returns : goal.returns
returns c =
    let none : c.args.count - c.loop.counter ≡ 0 = omega arith in
    turn_done (rw none at c.loop.invariant.1.1)

-- `turn_each` meets its contract. The invariant: the units that are left, turned round from where the next begins, come to what the whole was to be at
-- the start. A turn of the loop is `turned_next`, since a part reversed in place is one unit turned round.
use lib.ListN.{length}
use Prim.Native.Nat.{◌+◌, ◌*◌, ◌-◌}
use mathlib.Core.Path.{◌≡◌}
use Rattle.units.specs.Units.{turned_at}
use Rattle.units.proofs.turn_each.Given as goal

abbrev pub invariant-loop-k : goal.invariant-loop-k
invariant-loop-k l =
    (length l.buf ≡ length l.initial.buf)
    × (turned_at l.unit l.start l.count l.initial.buf ≡ turned_at l.unit (l.start + l.k * l.unit) (l.count - l.k) l.buf)

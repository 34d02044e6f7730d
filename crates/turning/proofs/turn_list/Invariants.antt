-- `turn_list` meets its contract. The invariant: the extensions that are left, turned round, come to what the whole was to be at
-- the start (proofs/Turning.antt).
use Prim.Native.Nat.{◌-◌, ◌≤◌}
use mathlib.Core.Path.{◌≡◌}
use lib.ListN.{length, drop}
use Rattle.extension.specs.Walk.{first_place}
use Rattle.units.specs.Runs.{turn_runs_at}
use Rattle.turning.specs.Turn.{runs_in}
use Rattle.turning.proofs.Turning.{Turning}
use Rattle.turning.proofs.turn_list.Given as goal

abbrev pub invariant-loop : goal.invariant-loop
invariant-loop l =
    let s = l.initial.file in
    (l.counter ≤ l.count)
    × ((length l.file ≡ length s)
    × Turning (turn_runs_at first_place (runs_in l.order l.count (drop first_place s)) s) l.order (l.count - l.counter) l.at l.file)

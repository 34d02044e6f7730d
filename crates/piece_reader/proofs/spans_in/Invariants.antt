-- `spans_in` meets its contract: so far the spans are those of the marks so far, and the next one starts where they end.
use Prim.Native.Nat.{◌+◌, ◌*◌, ◌≤◌}
use mathlib.Core.Path.{◌≡◌}
use lib.ListN.{take}
use Rattle.extension.specs.Walk.{first_place}
use Rattle.extension.specs.Listing.{spans_of}
use Rattle.piece_walk.specs.Marks.{place_by, spans_by}
use Rattle.piece_reader.proofs.spans_in.Given as goal

abbrev pub invariant-loop-i : goal.invariant-loop-i
invariant-loop-i l =
    (l.spans ≡ spans_of (spans_by first_place (take l.i l.marks))) × (l.start ≡ place_by first_place (take l.i l.marks))
    × (l.start ≤ first_place + l.i * 2147483647)

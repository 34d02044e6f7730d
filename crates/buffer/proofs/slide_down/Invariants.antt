-- `slide_down` meets its contract: what was to slide in all is what is left to slide, since a slide downwards is one of its first block
-- and then one of the others (`down_in_two`).
use mathlib.Core.Path.{◌≡◌}
use Prim.Native.Nat.{◌+◌, ◌≤◌}
use lib.ListN.{length, take, drop}
use Rattle.buffer.specs.Put.{put}
use Rattle.buffer.proofs.slide_down.Given as goal

abbrev pub invariant-loop-left : goal.invariant-loop-left
invariant-loop-left l =
    (l.target ≤ l.source)
    × (l.source + l.left ≤ length l.buf)
    × (length l.buf ≡ length l.initial.buf)
    × (put l.initial.buf l.to (take l.n (drop l.from l.initial.buf)) ≡ put l.buf l.target (take l.left (drop l.source l.buf)))

abbrev pub decreases-loop-left : goal.decreases-loop-left
decreases-loop-left l = l.left

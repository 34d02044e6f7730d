-- `turn_each` meets its contract: a turn of the loop is `turned_next`, since a part reversed in place is one unit turned round.
use native.Mathlib.Omega.{arith}
use native.Mathlib.Nat.{one-mul, add-mul}
use lib.ListN.{length}
use borrow.Rule.Slice.PartMut.{put_mid}
use Prim.Native.Nat.{ℕ, ◌+◌, ◌*◌, ◌-◌, ◌≤◌}
use mathlib.Core.Path.{ap, ap₂, ◌≡◌, sym, ◌∙◌}
use Rattle.units.specs.Units.{turned_at}
use Rattle.units.proofs.Units.{turned_done, turned_next, turned-reverse, length-turned_at}
use Rattle.units.proofs.turn_each.Goals as goal

pub loop-k-preserved : goal.loop-k-preserved
loop-k-preserved c =
    let a = c.args in
    let v = c.loop-k in
    let u = a.unit in
    let at : ℕ = a.start + v.k * u in
    let left : ℕ = a.count - v.k in
    let size : at + u - at ≡ u = omega arith in
    let turned = put_mid at (at + u - at) v.buf c.reverse.new.self in
    let one = turned-reverse u at _ v.buf c.reverse.new.self size c.reverse.ensures.after in
    let all : v.k + left ≡ a.count = omega arith in
    let room : at + left * u ≤ length v.buf = omega (arith, add-mul v.k left u, ap (λ (n : ℕ). n * u) all, v.invariant.0) in
    let next = rw one-mul at (turned_next u at 1 left v.buf _ (omega arith) room one) in
    let on : at + u ≡ a.start + (v.k + 1) * u = omega (arith, add-mul v.k 1 u) in
    let less : left - 1 ≡ a.count - (v.k + 1) = omega arith in
    (ap length one ∙ length-turned_at u at 1 v.buf ∙ v.invariant.0, v.invariant.1 ∙ next ∙ ap₂ (λ (x y : ℕ). turned_at u x y turned) on less)

pub returns : goal.returns
returns c =
    let v = c.loop-k in
    sym (v.invariant.1 ∙ turned_done c.args.unit _ _ v.buf (omega arith))

-- `grid::first_below_one` meets its contract: none of dim[1] to dim[i] is below 1, and the first that is stays the first.
use mathlib.Core.Path.{◌≡◌, refl, sym, ◌∙◌}
use mathlib.Core.Bool.{true, false}
use Prim.Native.Nat.{suc}
use native.Mathlib.Omega.{arith}
use native.Mathlib.Numerals.{add-one}
use borrow.Author.Tests.{le-ltb, lt-ltb}
use Rattle.number.specs.Natural.{natural_of}
use Rattle.grid.specs.Axes.{dim_at, below_one, first_below}
use Rattle.grid.proofs.Axes.{first_found, first_passed, first_stays}
use Rattle.grid.proofs.Entry.{below_natural}
use Rattle.grid.proofs.first_below_one.Goals as goal

pub loop-i-init : goal.loop-i-init
unfolding first_below
loop-i-init c = refl

pub returns-then-axis_length-lt1 : goal.returns-then-axis_length-lt1
returns-then-axis_length-lt1 c =
    let dim = c.args.dim.now in
    let i = c.loop-i.i in
    let e = rw add-one at c.axis_length.ensures.0 in
    let d = dim_at dim (suc i) in
    let here : below_one d ≡ true = below_natural d ∙ lt-ltb (natural_of d) 1 (omega arith) in
    add-one i ∙ sym (first_stays dim (suc i) c.args.n i (omega arith) (first_found dim i c.loop-i.invariant here))

pub loop-i-preserved : goal.loop-i-preserved
loop-i-preserved c =
    let dim = c.args.dim.now in
    let i = c.loop-i.i in
    let e = rw add-one at c.axis_length.ensures.0 in
    let d = dim_at dim (suc i) in
    let here : below_one d ≡ false = below_natural d ∙ le-ltb (natural_of d) 1 (omega arith) in
    rw add-one (first_passed dim i c.loop-i.invariant here)

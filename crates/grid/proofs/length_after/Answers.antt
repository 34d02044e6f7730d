-- `grid::length_after` meets its contract.
use mathlib.Core.Path.{sym, ◌∙◌}
use native.Mathlib.Omega.{arith}
use native.Mathlib.Numerals.{add-one}
use borrow.Author.Tests.{lt-ltb, le-ltb}
use Rattle.grid.proofs.Axes.{seven_at}
use Rattle.grid.proofs.length_after.Goals as goal

pub returns-then-k-n : goal.returns-then-k-n
returns-then-k-n c =
    let a = c.args in
    let at = seven_at a.dim.now a.n a.k c.requires in
    let e = rw (add-one a.k) at c.axis_length.ensures.0 in
    (e ∙ sym (at ∙ rw (lt-ltb a.k a.n c.if-k-n.true)), c.axis_length.ensures.1)

pub returns-else-k-n : goal.returns-else-k-n
returns-else-k-n c =
    let a = c.args in
    let at = seven_at a.dim.now a.n a.k c.requires in
    (sym (at ∙ rw (le-ltb a.k a.n (omega arith))), omega arith)

-- `shown_extension` meets its contract: 18 past the count, and else the outline's span.
use mathlib.Core.Path.{◌≡◌}
use native.Mathlib.Omega.{arith}
use borrow.Author.Tests.{lt-ltb, le-ltb}
use mir.Syntax.{w32}
use mir.Val.{to_z, of_z}
use borrow.Author.Rules.{rules}
use Rattle.answers.proofs.shown_extension.Goals as goal

pub returns-then-outline-number : goal.returns-then-outline-number
returns-then-outline-number c =
    let a = c.args in
    rw (le-ltb a.number a.outline.count c.if-outline-number.true, c.into.ensures, c.at.ensures)

pub returns : goal.returns
returns c =
    let a = c.args in
    let x = a.outline.span in
    let size : to_z w32 (of_z w32 x.size) ≡ x.size = search rules in
    let code : to_z w32 (of_z w32 x.code) ≡ x.code = search rules in
    rw (lt-ltb a.number a.outline.count (omega arith))
    (λ i. record { refusal = 0; place = 0; start = x.start; size = size i; code = code i })

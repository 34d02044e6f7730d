-- `Walker::step_over` meets its contract: what is found depends on the rest's length and its first two numbers, and of fewer than
-- 16 bytes on their number alone.
use mathlib.Core.Path.{◌≡◌, ap, ◌∙◌}
use lib.IntN.{pos}
use lib.ListN.{length}
use mir.Syntax.{w32}
use mir.Val.{to_z, of_z}
use mir.ValLaws.{to_z-of_z}
use Rattle.field.specs.Numbers.{i32_at}
use Rattle.extension.specs.Walk.{found, step_from}
use Rattle.extension.proofs.Found.{found_short}
use Rattle.extension.proofs.Walker.step_over.Goals as goal

pub returns-then-rest-lt16 : goal.returns-then-rest-lt16
unfolding found
returns-then-rest-lt16 c =
    let a = c.args in
    let rest = a.rest.now in
    c.step_by.ensures
    ∙ ap (step_from a.self)
    (found_short a.self.count a.self.at (length rest) (pos 0) (pos 0) (i32_at a.self.order rest 0) (i32_at a.self.order rest 4)
    c.if-rest-lt16.true)

pub returns : goal.returns
unfolding found
returns c =
    let size = c.read-size in
    let code = c.read-code in
    let s : to_z w32 (of_z w32 size.result) ≡ size.result = to_z-of_z w32 size.result (record { sfits = size.type_inv }) in
    let d : to_z w32 (of_z w32 code.result) ≡ code.result = to_z-of_z w32 code.result (record { sfits = code.type_inv }) in
    rw (s, d, size.ensures, code.ensures) at c.step_by-2.ensures

-- `not_finite` meets its contract: without a sform nothing is asked, and of one `stay_finite` tells.
use mathlib.Core.Path.{◌≡◌, sym, ◌∙◌}
use mathlib.Core.Bool.{true, false}
use lib.IntN.{pos}
use lib.Signed.{le_z}
use mir.Syntax.{w16}
use mir.Val.{to_z, of_z}
use Rattle.reorient_header.specs.After.{not_finite}
use borrow.Author.Rules.{rules}
use Rattle.reorient_header.proofs.not_finite.Goals as goal

pub returns-then-header-le0 : goal.returns-then-header-le0
unfolding not_finite
returns-then-header-le0 c =
    let code_same : let z = c.args.header.quatern.sform_code in to_z w16 (of_z w16 z) ≡ z = search rules in
    let unset : le_z c.args.header.quatern.sform_code (pos 0) ≡ true = (λ i. le_z (sym code_same i) (pos 0)) ∙ c.if-header-le0.true in
    rw unset

pub returns : goal.returns
unfolding not_finite
returns c =
    let code_same : let z = c.args.header.quatern.sform_code in to_z w16 (of_z w16 z) ≡ z = search rules in
    let above : le_z c.args.header.quatern.sform_code (pos 0) ≡ false = (λ i. le_z (sym code_same i) (pos 0)) ∙ c.if-header-le0.false in
    rw (above, c.stay_finite.ensures)

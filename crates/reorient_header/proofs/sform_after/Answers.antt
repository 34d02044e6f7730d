-- `sform_after` meets its contract: without a sform the rows stay, and of one `rows_after` makes the new ones.
use mathlib.Core.Path.{◌≡◌, sym, ◌∙◌}
use mathlib.Core.Bool.{true, false}
use lib.IntN.{pos}
use lib.Signed.{le_z}
use mir.Syntax.{w16}
use mir.Val.{to_z, of_z}
use borrow.Author.Rules.{rules}
use Rattle.reorient_header.specs.After.{sform_after}
use Rattle.reorient_header.proofs.Made.{sform_finite}
use Rattle.reorient_header.proofs.sform_after.Goals as goal

pub returns-then-header-le0 : goal.returns-then-header-le0
unfolding sform_after
returns-then-header-le0 c =
    let code_same : let z = c.args.header.quatern.sform_code in to_z w16 (of_z w16 z) ≡ z = search rules in
    let unset : le_z c.args.header.quatern.sform_code (pos 0) ≡ true = (λ i. le_z (sym code_same i) (pos 0)) ∙ c.if-header-le0.true in
    rw unset

pub rows_after-requires : goal.rows_after-requires
rows_after-requires c =
    let code_same : let z = c.args.header.quatern.sform_code in to_z w16 (of_z w16 z) ≡ z = search rules in
    let above : le_z c.args.header.quatern.sform_code (pos 0) ≡ false = (λ i. le_z (sym code_same i) (pos 0)) ∙ c.if-header-le0.false in
    record { t_value = c.requires.t_value; rows_value = sform_finite _ _ above c.requires.header_value }

pub returns : goal.returns
unfolding sform_after
returns c =
    let code_same : let z = c.args.header.quatern.sform_code in to_z w16 (of_z w16 z) ≡ z = search rules in
    let above : le_z c.args.header.quatern.sform_code (pos 0) ≡ false = (λ i. le_z (sym code_same i) (pos 0)) ∙ c.if-header-le0.false in
    rw above c.rows_after.ensures

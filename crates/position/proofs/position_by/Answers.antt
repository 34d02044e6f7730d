-- `position_by` meets its contract: behind rule 17 and sform_code the answer is what affine places.
use Rattle.std.proofs.Common.{◌≡◌, sym, ◌∙◌, false, pos, rules}
use Rattle.std.specs.Prelude.{ok_or}
use lib.Signed.{le_z}
use mir.Syntax.{w16}
use mir.Val.{to_z, of_z}
use Rattle.position.proofs.Answers.{position_placed}
use Rattle.position.proofs.position_by.Goals as goal

pub returns : goal.returns
returns c =
    let a = c.args in
    let code_same : let z = c.args.f.sform_code in to_z w16 (of_z w16 z) ≡ z = search rules in
    let above : le_z c.args.f.sform_code (pos 0) ≡ false = (λ n. le_z (sym code_same n) (pos 0)) ∙ c.if-f-le0.false in
    c.ok_or.ensures.value
    ∙ (λ n. ok_or (c.place-placed.ensures n) (c.at-2.ensures n))
    ∙ position_placed a.f a.i a.j a.k (sym c.is_inside.ensures.is ∙ c.if-not-is_inside.false) above

-- `vestumbral_voxel_in` meets its contract: the struct's own refusal first, and else its dims, offset, sizes and kind.
use mathlib.Core.Path.{ap, ◌∙◌}
use mathlib.Core.List.{[], ◌∷◌}
use borrow.Author.Tests.{eq-eqb, ne_eqb}
use Rattle.header.specs.declared.Kind.{Kind}
use Rattle.voxel.specs.Steps.{volume, stepped_by}
use Rattle.answers.specs.Answers.{voxel_reply}
use Rattle.voxel_answers.specs.Answers.{voxel_in}
use Rattle.vestumbral.proofs.vestumbral_voxel_in.Goals as goal

pub returns-then-file-ne0 : goal.returns-then-file-ne0
unfolding voxel_in
returns-then-file-ne0 c = rw (ne_eqb c.args.file.refusal 0 c.if-file-ne0.true) c.own_refusal.ensures

pub returns : goal.returns
unfolding voxel_in
returns c =
    let a = c.args in
    let f = a.file in
    let index = a.i1 ∷ a.i2 ∷ a.i3 ∷ a.i4 ∷ a.i5 ∷ a.i6 ∷ a.i7 ∷ [] in
    let by = ap (λ (x : Kind). stepped_by (volume f.dim f.data_offset f.data_bytes f.step x) a.image_len index) c.kind_by-kind.ensures in
    rw (eq-eqb f.refusal 0 c.if-file-ne0.false) (c.into.ensures ∙ ap voxel_reply (c.locate_at.ensures ∙ by))

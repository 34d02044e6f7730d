-- `walk_on` meets its contract (proofs/Passing.antt).
use Rattle.std.proofs.Common.{◌≡◌, ◌∙◌, sym, ap, Ok, None}
use Rattle.piece_walk.specs.Walking.{walked_on}
use Rattle.piece_walk.proofs.Passing.{so_far, comes_more, comes_end, comes_halt}
use Rattle.piece_walk.proofs.walk_on.Goals.{in_default, in_default-2}
use Rattle.piece_walk.proofs.walk_on.Goals as goal

pub loop-x-preserved : goal.loop-x-preserved
loop-x-preserved c =
    let step_is = sym c.step.ensures ∙ c.in-Ok-Some.is ∙ ap Ok c.in-Ok-Some.field-0-is in
    c.loop-x.invariant ∙ comes_more _ _ _ _ _ _ _ _ step_is c.into.ensures

pub returns : goal.returns
unfolding walked_on
returns c =
    let l = c.loop-x in
    let a = c.args in
    let w = l.walker in
    let last = so_far w a.walk.coming a.taken a.piece.now l.marks in
    elim c.match-step.branch [
      | in_default b ↦
          let none : b.in_default.field-0 ≡ None = cc in
          let end = comes_end w a.walk.coming a.taken a.piece.now l.marks (sym c.step.ensures ∙ b.in_default.is ∙ ap Ok none) in
          (λ i. record last { coming = c.window_at.ensures i }) ∙ sym (l.invariant ∙ end)
      | in_default-2 b ↦
          let end = comes_halt w a.walk.coming a.taken a.piece.now l.marks _ (sym c.step.ensures ∙ b.in_default.is) in
          (λ i. record last { coming = c.window_at.ensures i }) ∙ sym (l.invariant ∙ end)
    ]

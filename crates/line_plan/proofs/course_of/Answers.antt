-- `course_of` meets its contract: its sums are those of proofs/Places.antt.
use Prim.Native.Nat.{◌+◌, ◌-◌}
use native.Mathlib.Nat.{mul-le-mul}
use native.Mathlib.Omega.{arith}
use mathlib.Core.Path.{sym, ◌∙◌}
use mathlib.Core.Logic.{inl, inr}
use lib.ListN.{get_or}
use Rattle.grid.specs.Axes.{image_limit}
use Rattle.refusal.specs.Table.{verdict}
use Rattle.line_plan.proofs.Places.{sums}
use borrow.Author.Rules.{rules}
use Rattle.line_plan.proofs.course_of.Goals as goal

pub overflow_sub-last : goal.overflow_sub-last
overflow_sub-last c =
    let s = sums c.args.v c.args.axis c.args.index c.args.before (search rules) c.requires in
    omega arith

pub overflow_sub-last-2 : goal.overflow_sub-last-2
overflow_sub-last-2 c =
    let s = sums c.args.v c.args.axis c.args.index c.args.before (search rules) c.requires in
    omega arith

pub overflow_mul-last : goal.overflow_mul-last
overflow_mul-last c =
    let product = mul-le-mul {n₁ = c.axis_length-count.result - 1 - get_or c.args.index (c.args.axis - 1) 0} {m₁ = c.limited.result} {n₂ = 32766} {m₂ = image_limit + 1} (omega arith) (omega arith) in
    record { fits = omega (arith, product) }

pub overflow_add-last : goal.overflow_add-last
overflow_add-last c =
    let s = sums c.args.v c.args.axis c.args.index c.args.before (search rules) c.requires in
    let product = mul-le-mul {n₁ = c.axis_length-count.result - 1 - get_or c.args.index (c.args.axis - 1) 0} {m₁ = c.limited.result} {n₂ = 32766} {m₂ = image_limit + 1} (omega arith) (omega arith) in
    record { fits = omega (arith, product) }

pub returns-then-strays : goal.returns-then-strays
unfolding verdict
returns-then-strays c =
    let s = sums c.args.v c.args.axis c.args.index c.args.before (search rules) c.requires in
    let far = (rw (c.axis_length-count.ensures.0, c.limited.ensures) at c.strays.ensures) ∙ s.far in
    elim c.then-strays.either [
      | inl e ↦ search rules
      | inr e ↦ search rules
    ]

pub returns-then-out-count : goal.returns-then-out-count
unfolding verdict
returns-then-out-count c =
    let s = sums c.args.v c.args.axis c.args.index c.args.before (search rules) c.requires in
    let far = (rw (c.axis_length-count.ensures.0, c.limited.ensures) at c.strays.ensures) ∙ s.far in
    search rules

pub overflow_mul-first : goal.overflow_mul-first
overflow_mul-first c =
    let s = sums c.args.v c.args.axis c.args.index c.args.before (search rules) c.requires in
    let far = (rw (c.axis_length-count.ensures.0, c.limited.ensures) at c.strays.ensures) ∙ s.far in
    let e = s.exact (sym far ∙ c.if-strays.false) in
    record { fits = omega arith }

pub overflow_sub-first : goal.overflow_sub-first
overflow_sub-first c =
    let s = sums c.args.v c.args.axis c.args.index c.args.before (search rules) c.requires in
    let far = (rw (c.axis_length-count.ensures.0, c.limited.ensures) at c.strays.ensures) ∙ s.far in
    let e = s.exact (sym far ∙ c.if-strays.false) in
    omega arith

pub returns : goal.returns
unfolding verdict
returns c =
    let s = sums c.args.v c.args.axis c.args.index c.args.before (search rules) c.requires in
    let far = (rw (c.axis_length-count.ensures.0, c.limited.ensures) at c.strays.ensures) ∙ s.far in
    let e = s.exact (sym far ∙ c.if-strays.false) in
    search rules

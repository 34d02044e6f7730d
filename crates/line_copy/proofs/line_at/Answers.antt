-- `line_at` meets its contract: what was planned is copied from the file that holds the image.
use mathlib.Core.Path.{sym, ◌∙◌}
use lib.ListN.{length}
use Rattle.line_plan.proofs.Places.{line_lies}
use Rattle.line_copy.proofs.Engines.{copies_none, planned_along, copies_all}
use borrow.Author.Rules.{rules}
use Rattle.line_copy.proofs.line_at.Goals as goal

pub returns-in_err-course : goal.returns-in_err-course
returns-in_err-course g c =
    let a = c.args in
    let h = copies_none a.v a.file.now a.image.now a.axis a.index a.out.now c.in_err-course.field-0.0 (sym c.plan.ensures ∙ c.in_err-course.was) in
    (rw (← h.0) (search rules), h.1)

pub copy-requires : goal.copy-requires
copy-requires g c =
    let a = c.args in
    let passed = planned_along a.v a.file.now a.image.now a.axis a.index a.out.now c.in_ok-course.course (sym c.plan.ensures ∙ c.in_ok-course.was) in
    let lies = line_lies a.v a.file.now a.image.now a.axis a.index (length a.out.now) (search rules) passed.0 in
    record { lies = rw c.holder-src.ensures lies; index_value = passed.1 }

pub returns : goal.returns
returns g c =
    let a = c.args in
    let passed = planned_along a.v a.file.now a.image.now a.axis a.index a.out.now c.in_ok-course.course (sym c.plan.ensures ∙ c.in_ok-course.was) in
    copies_all a.v a.file.now a.image.now a.axis a.index a.out.now _ _ _ passed.0 (sym c.holder-src.ensures) c.copy.ensures.0 c.copy.ensures.1

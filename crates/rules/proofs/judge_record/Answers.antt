-- `judge_record` meets its contract: rule 2 by the number of axes, and then the rules of the fields.
use Rattle.std.specs.Prelude.{Err}
use Prim.Native.Nat.{ℕ}
use mathlib.Core.Path.{◌≡◌, ap, ◌∙◌}
use mathlib.Core.Bool.{true, false}
use native.Mathlib.Omega.{arith}
use borrow.Author.Tests.{le-leb, lt-leb}
use Rattle.grid.specs.Axes.{dim_at}
use Rattle.rules.specs.declared.Shape.{Shape}
use Rattle.rules.specs.Rules.{one_to_seven, axis_count, judged_of}
use Rattle.rules.proofs.Seven.{seven_natural, record_2, record_rest}
use Rattle.rules.proofs.judge_record.Goals as goal

pub returns-then-n-lt1 : goal.returns-then-n-lt1
returns-then-n-lt1 c =
    let record-in = c.args.h in
    let count-is : c.axis_count-n.result ≡ axis_count record-in.dim = c.axis_count-n.ensures.0 ∙ ap (λ (f : Shape). axis_count f.dim) c.shape_of-shape.ensures in
    let few : one_to_seven (dim_at record-in.dim 0) ≡ false =
    let d = record-in.dim in
    seven_natural (dim_at d 0) ∙ rw (lt-leb 1 (axis_count d) (omega (arith, count-is))) in
    ap Err c.at.ensures ∙ record_2 record-in few

pub returns-then-n-gt7 : goal.returns-then-n-gt7
returns-then-n-gt7 c =
    let record-in = c.args.h in
    let count-is : c.axis_count-n.result ≡ axis_count record-in.dim = c.axis_count-n.ensures.0 ∙ ap (λ (f : Shape). axis_count f.dim) c.shape_of-shape.ensures in
    let many : one_to_seven (dim_at record-in.dim 0) ≡ false =
    let d = record-in.dim in
    let n : ℕ = axis_count d in
    let e = count-is in
    seven_natural (dim_at d 0) ∙ rw (le-leb 1 n (omega arith), lt-leb n 7 (omega arith)) in
    ap Err c.at-then-n-gt7.ensures ∙ record_2 record-in many

pub returns : goal.returns
returns c =
    let record-in = c.args.h in
    let count-is : c.axis_count-n.result ≡ axis_count record-in.dim = c.axis_count-n.ensures.0 ∙ ap (λ (f : Shape). axis_count f.dim) c.shape_of-shape.ensures in
    let held : one_to_seven (dim_at record-in.dim 0) ≡ true =
    let d = record-in.dim in
    let n : ℕ = axis_count d in
    let e = count-is in
    seven_natural (dim_at d 0) ∙ rw (le-leb 1 n (omega arith), le-leb n 7 (omega arith)) in
    c.judge.ensures
    ∙ ap (λ (f : Shape). judged_of f 0) c.shape_of-shape.ensures
    ∙ record_rest record-in held

-- `judge` meets its contract: rule 5 by the first entry below 1, which is at most dim[0], and rule 6 by the datatype's table.
use Rattle.std.specs.Prelude.{Err}
use Prim.Native.Nat.{◌≤◌}
use mathlib.Core.Path.{◌≡◌, sym, ◌∙◌, ap}
use native.Mathlib.Omega.{arith}
use mir.Syntax.{w16}
use mir.Val.{to_z, of_z}
use Rattle.rules.specs.Rules.{first_bad}
use Rattle.rules.proofs.Judging.{first_most, judged_5, judged_6}
use borrow.Author.Rules.{rules}
use Rattle.rules.proofs.judge.Goals as goal

pub overflow_mul-bad : goal.overflow_mul-bad
overflow_mul-bad c =
    let bad-most : c.first_below_one-bad.result ≤ 32767 =
    let a = c.args in
    omega (arith, c.first_below_one-bad.ensures, first_most a.shape.dim c.axis_count.result, c.axis_count.ensures.1) in
    record { fits = omega (arith, bad-most) }

pub overflow_add-bad : goal.overflow_add-bad
overflow_add-bad c =
    let bad-most : c.first_below_one-bad.result ≤ 32767 =
    let a = c.args in
    omega (arith, c.first_below_one-bad.ensures, first_most a.shape.dim c.axis_count.result, c.axis_count.ensures.1) in
    record { fits = omega (arith, bad-most) }

pub returns-then-bad-gt0 : goal.returns-then-bad-gt0
returns-then-bad-gt0 c =
    let bad-is : c.first_below_one-bad.result ≡ first_bad c.args.shape = c.first_below_one-bad.ensures ∙ rw c.axis_count.ensures.0 in
    ap Err c.at.ensures ∙ (rw bad-is (judged_5 c.args.shape c.args.len (rw bad-is at c.if-bad-gt0.true)))

pub judge_format-requires : goal.judge_format-requires
judge_format-requires c =
    let bad-is : c.first_below_one-bad.result ≡ first_bad c.args.shape = c.first_below_one-bad.ensures ∙ rw c.axis_count.ensures.0 in
    let code = c.args.shape.datatype in
    let code_same : to_z w16 (of_z w16 code) ≡ code = search rules in
    let none : c.first_below_one-bad.result ≡ 0 = omega arith in (
      sym bad-is ∙ none,
      rw code_same at (sym c.datatype_of-datatype.ensures ∙ c.in-Some.is),
    )

pub returns-in-None : goal.returns-in-None
returns-in-None c =
    let bad-is : c.first_below_one-bad.result ≡ first_bad c.args.shape = c.first_below_one-bad.ensures ∙ rw c.axis_count.ensures.0 in
    let code = c.args.shape.datatype in
    let code_same : to_z w16 (of_z w16 code) ≡ code = search rules in
    let none : c.first_below_one-bad.result ≡ 0 = omega arith in
    ap Err c.at-in-None.ensures
    ∙ judged_6 c.args.shape c.args.len (sym bad-is ∙ none)
    (rw code_same at (sym c.datatype_of-datatype.ensures ∙ c.in-None.is))

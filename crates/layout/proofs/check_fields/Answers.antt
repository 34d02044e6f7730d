-- `check_fields` meets its contract: rules 5 to 10, then 11 and 12, by the laws of proofs/Checking.antt.
use mathlib.Core.Path.{◌≡◌, sym, ◌∙◌}
use native.Mathlib.Omega.{arith}
use borrow.Author.Rules.{rules}
use Rattle.rules.specs.Rules.{judged_of}
use Rattle.layout.specs.File.{shape_in}
use Rattle.layout.proofs.Checking.{began, began_long, checks_fields, checks_end, checks_all}
use Rattle.layout.proofs.check_fields.Goals as goal

pub shape_in-requires : goal.shape_in-requires
shape_in-requires c =
    omega (arith, c.requires.0, began_long c.args.file.now c.args.len c.args.order c.args.kind c.requires.1)

pub returns-in_err-image : goal.returns-in_err-image
returns-in_err-image c =
    let a = c.args in
    let s = a.file.now in
    let judged-is : c.judge.result ≡ judged_of (shape_in a.order a.kind s) a.len = rw c.shape_in.ensures at c.judge.ensures in
    let b = began s a.len a.order a.kind c.requires.1 in
    rw (← checks_fields s a.len a.order a.kind b _ (sym judged-is ∙ c.in_err-image.was)) (search rules)

pub returns-in_err-check_end : goal.returns-in_err-check_end
returns-in_err-check_end c =
    let a = c.args in
    let s = a.file.now in
    let judged-is : c.judge.result ≡ judged_of (shape_in a.order a.kind s) a.len = rw c.shape_in.ensures at c.judge.ensures in
    let b = began s a.len a.order a.kind c.requires.1 in
    let ends = checks_end s a.len a.order a.kind b c.in_ok-image.image c.in_ok-image.aligned (sym judged-is ∙ c.in_ok-image.was) in
    rw (← ends _ (sym c.check_end.ensures ∙ c.in_err-check_end.was)) (search rules)

pub returns : goal.returns
returns c =
    let a = c.args in
    let s = a.file.now in
    let judged-is : c.judge.result ≡ judged_of (shape_in a.order a.kind s) a.len = rw c.shape_in.ensures at c.judge.ensures in
    let b = began s a.len a.order a.kind c.requires.1 in
    let all = checks_all s a.len a.order a.kind b c.in_ok-image.image c.in_ok-image.aligned (sym judged-is ∙ c.in_ok-image.was) in
    all (sym c.check_end.ensures ∙ c.in_ok-check_end.was)

-- `judge` meets its contract: each test in its order, by the laws of proofs/Judging.antt.
use Rattle.std.specs.Prelude.{Err}
use mathlib.Core.Path.{sym, ap, ◌∙◌}
use native.Mathlib.Omega.{arith}
use Rattle.turn.proofs.Judging.{gives_16, gives_29, gives_30, gives_23, gives_22, gives_22_image, gives_none}
use Rattle.turn.proofs.judge.Goals as goal

pub returns-then-image_cut : goal.returns-then-image_cut
returns-then-image_cut c =
    let a = c.args in
    ap Err c.at.ensures
    ∙ gives_16 a.header a.t a.file a.image a.out a.out_image a.place c.requires (sym c.image_cut.ensures ∙ c.if-image_cut.true)

pub returns-then-axis_count-lt3 : goal.returns-then-axis_count-lt3
returns-then-axis_count-lt3 c =
    let a = c.args in
    ap Err c.at-then-axis_count-lt3.ensures
    ∙ gives_29 a.header a.t a.file a.image a.out a.out_image a.place c.requires (sym c.image_cut.ensures ∙ c.if-image_cut.false)
    (omega (arith, c.axis_count.ensures.0, c.if-axis_count-lt3.true))

pub returns-then-not-is_permutation : goal.returns-then-not-is_permutation
returns-then-not-is_permutation c =
    let a = c.args in
    ap Err c.at-then-not-is_permutation.ensures
    ∙ gives_30 a.header a.t a.file a.image a.out a.out_image a.place c.requires (sym c.image_cut.ensures ∙ c.if-image_cut.false)
    (omega (arith, c.axis_count.ensures.0, c.if-axis_count-lt3.false)) (sym c.is_permutation.ensures ∙ c.if-not-is_permutation.true)

pub returns-then-not_finite : goal.returns-then-not_finite
returns-then-not_finite c =
    let a = c.args in
    ap Err c.at-then-not_finite.ensures
    ∙ gives_23 a.header a.t a.file a.image a.out a.out_image a.place c.requires (sym c.image_cut.ensures ∙ c.if-image_cut.false)
    (omega (arith, c.axis_count.ensures.0, c.if-axis_count-lt3.false)) (sym c.is_permutation.ensures ∙ c.if-not-is_permutation.false)
    (sym c.not_finite.ensures ∙ c.if-not_finite.true)

pub returns-then-out-file : goal.returns-then-out-file
returns-then-out-file c =
    let a = c.args in
    ap Err c.at-then-out-file.ensures
    ∙ gives_22 a.header a.t a.file a.image a.out a.out_image a.place c.requires (sym c.image_cut.ensures ∙ c.if-image_cut.false)
    (omega (arith, c.axis_count.ensures.0, c.if-axis_count-lt3.false)) (sym c.is_permutation.ensures ∙ c.if-not-is_permutation.false)
    (sym c.not_finite.ensures ∙ c.if-not_finite.false) c.if-out-file.true

pub returns-then-is_longer : goal.returns-then-is_longer
returns-then-is_longer c =
    let a = c.args in
    ap Err c.at-then-is_longer.ensures
    ∙ gives_22_image a.header a.t a.file a.image a.out a.out_image a.place c.requires (sym c.image_cut.ensures ∙ c.if-image_cut.false)
    (omega (arith, c.axis_count.ensures.0, c.if-axis_count-lt3.false)) (sym c.is_permutation.ensures ∙ c.if-not-is_permutation.false)
    (sym c.not_finite.ensures ∙ c.if-not_finite.false) c.if-out-file.false (sym c.is_longer.ensures ∙ c.if-is_longer.true)

pub returns : goal.returns
returns c =
    let a = c.args in
    gives_none a.header a.t a.file a.image a.out a.out_image a.place c.requires (sym c.image_cut.ensures ∙ c.if-image_cut.false)
    (omega (arith, c.axis_count.ensures.0, c.if-axis_count-lt3.false)) (sym c.is_permutation.ensures ∙ c.if-not-is_permutation.false)
    (sym c.not_finite.ensures ∙ c.if-not_finite.false) c.if-out-file.false (sym c.is_longer.ensures ∙ c.if-is_longer.false)

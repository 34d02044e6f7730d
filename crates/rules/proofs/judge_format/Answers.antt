-- `judge_format` meets its contract: rule 7 by the two numbers' bits, rule 8 and the upper bound of rule 9 by what the offset's
-- decoder answers, and what it says of a whole offset is handed on.
use Rattle.std.specs.Prelude.{Err}
use mathlib.Core.Path.{ap, sym, ◌∙◌}
use mir.Syntax.{w16}
use mir.Val.{SFits}
use Rattle.datatype.proofs.Sound.{known_sound}
use Rattle.rules.proofs.Judging.{bits_differ, bits_agree, judged_7, judged_refused}
use borrow.Author.Rules.{rules}
use Rattle.rules.proofs.judge_format.Goals as goal

pub returns-then-shape-format : goal.returns-then-shape-format
returns-then-shape-format c =
    let a = c.args in
    let bitpix-fits : SFits w16 a.shape.bitpix = record { sfits = search rules } in
    ap Err c.at.ensures
    ∙ judged_7 a.shape a.len a.format (record { axes = c.requires.0; known = c.requires.1 })
    (bits_differ a.format a.shape.bitpix (known_sound a.shape.datatype a.format c.requires.1) bitpix-fits c.if-shape-format.true)

pub judge_image-requires : goal.judge_image-requires
judge_image-requires c =
    let a = c.args in
    let bitpix-fits : SFits w16 a.shape.bitpix = record { sfits = search rules } in
    let agree = bits_agree a.format a.shape.bitpix (known_sound a.shape.datatype a.format c.requires.1) bitpix-fits c.if-shape-format.false in
    (c.requires.0, c.requires.1, agree, sym c.decode.ensures ∙ c.in_ok-offset.was)

pub returns-in_err-offset : goal.returns-in_err-offset
returns-in_err-offset c =
    let a = c.args in
    let bitpix-fits : SFits w16 a.shape.bitpix = record { sfits = search rules } in
    let agree = bits_agree a.format a.shape.bitpix (known_sound a.shape.datatype a.format c.requires.1) bitpix-fits c.if-shape-format.false in
    rw (← judged_refused a.shape a.len a.format (record { axes = c.requires.0; known = c.requires.1 }) agree _ (sym c.decode.ensures ∙ c.in_err-offset.was))
    (search rules)

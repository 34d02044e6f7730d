-- `judge_image` meets its contract: rule 9, then rule 10 by the capped product, which tells apart what the limit does.
use Rattle.std.specs.Prelude.{Ok, Err}
use mathlib.Core.Path.{◌≡◌, ap, sym, ◌∙◌}
use native.Mathlib.Omega.{arith}
use Rattle.offset.proofs.Answer.{known_reads}
use Rattle.rules.specs.Rules.{bytes_of_image, passed}
use Rattle.rules.proofs.Judging.{offered, judged_9, judged_10, judged_passed, image_is}
use Rattle.rules.proofs.judge_image.Goals as goal

pub returns-then-offset_outside : goal.returns-then-offset_outside
returns-then-offset_outside c =
    let a = c.args in
    let offer = offered a.shape a.format a.offset c.whole-at.result c.requires.0 c.requires.1 c.requires.2 c.requires.3 c.whole-at.ensures in
    ap Err c.at.ensures ∙ judged_9 a.shape a.len a.format c.whole-at.result offer (sym c.offset_outside.ensures ∙ c.if-offset_outside.true)

pub returns-then-bytes-gt-LIMIT : goal.returns-then-bytes-gt-LIMIT
returns-then-bytes-gt-LIMIT c =
    let a = c.args in
    let at = c.whole-at.result in
    let offer = offered a.shape a.format a.offset at c.requires.0 c.requires.1 c.requires.2 c.requires.3 c.whole-at.ensures in
    let inside = sym c.offset_outside.ensures ∙ c.if-offset_outside.false in
    let total = c.image_bytes-bytes.ensures ∙ image_is a.shape a.len a.format at offer c.axis_count.ensures.0 in
    ap Err c.at-then-bytes-gt-LIMIT.ensures ∙ judged_10 a.shape a.len a.format at offer inside (omega (arith, total))

pub returns : goal.returns
returns c =
    let a = c.args in
    let at = c.whole-at.result in
    let offer = offered a.shape a.format a.offset at c.requires.0 c.requires.1 c.requires.2 c.requires.3 c.whole-at.ensures in
    let inside = sym c.offset_outside.ensures ∙ c.if-offset_outside.false in
    let total = c.image_bytes-bytes.ensures ∙ image_is a.shape a.len a.format at offer c.axis_count.ensures.0 in
    let same : c.image_bytes-bytes.result ≡ bytes_of_image a.shape = omega (arith, total) in
    let fact = c.is_aligned.ensures ∙ sym (known_reads a.shape.vox_offset a.offset c.requires.3).fact in
    (λ i. passed (record { offset = sym offer.value i; bytes = same i }) (fact i))
    ∙ judged_passed a.shape a.len a.format at offer inside (omega (arith, total))

-- `offset::decode` meets its contract: each return cites the law of its range of bit patterns (Ranges.antt).
-- Assumes nothing.
use Rattle.std.proofs.Common.{◌∙◌, ap, arith, Err}
use Rattle.offset.proofs.Ranges.{zero_answer, high_answer, low_answer, huge_answer, part_answer, above_answer, aligned_answer, unaligned_answer}
use Rattle.offset.proofs.decode.Goals as goal

pub returns-then-bits-eq0 : goal.returns-then-bits-eq0
returns-then-bits-eq0 c = zero_answer _ c.if-bits-eq0.true

pub returns-then-bits-ge2139095040 : goal.returns-then-bits-ge2139095040
returns-then-bits-ge2139095040 c = ap Err c.at.ensures ∙ high_answer _ c.if-bits-eq0.false c.if-bits-ge2139095040.true (omega arith)

pub returns-then-bits-lt1065353216 : goal.returns-then-bits-lt1065353216
returns-then-bits-lt1065353216 c = ap Err c.at-then-bits-lt1065353216.ensures ∙ low_answer _ c.if-bits-eq0.false c.if-bits-lt1065353216.true

pub returns-then-exponent-ge155 : goal.returns-then-exponent-ge155
returns-then-exponent-ge155 c = ap Err c.at-then-exponent-ge155.ensures ∙ huge_answer _ c.if-exponent-ge155.true (omega arith)

pub returns-then-scaled-ne0 : goal.returns-then-scaled-ne0
returns-then-scaled-ne0 c = ap Err c.at-then-scaled-ne0.ensures ∙ part_answer _ (omega arith) (omega arith) c.if-scaled-ne0.true

pub returns-then-whole-gt-LIMIT : goal.returns-then-whole-gt-LIMIT
returns-then-whole-gt-LIMIT c = ap Err c.at-then-whole-gt-LIMIT.ensures ∙ above_answer _ (omega arith) (omega arith) c.if-scaled-ne0.false c.if-whole-gt-LIMIT.true

pub returns-then-whole-eq0 : goal.returns-then-whole-eq0
returns-then-whole-eq0 c = aligned_answer _ (omega arith) (omega arith) c.if-scaled-ne0.false c.if-whole-gt-LIMIT.false c.if-whole-eq0.true

pub returns-else-whole-eq0 : goal.returns-else-whole-eq0
returns-else-whole-eq0 c = unaligned_answer _ (omega arith) (omega arith) c.if-scaled-ne0.false c.if-whole-gt-LIMIT.false c.if-whole-eq0.false

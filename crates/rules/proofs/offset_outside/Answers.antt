-- `offset_outside` meets its contract: above the limit in either kind, and below it by the kind's own test.
use mathlib.Core.Path.{sym}
use native.Mathlib.Omega.{arith}
use Rattle.rules.proofs.Judging.{beyond, single_outside, pair_outside}
use Rattle.rules.proofs.offset_outside.Goals as goal

pub returns-then-offset-gt-LIMIT : goal.returns-then-offset-gt-LIMIT
returns-then-offset-gt-LIMIT c = sym (beyond c.args.kind c.args.offset c.args.len c.if-offset-gt-LIMIT.true)

pub returns-in-Single : goal.returns-in-Single
returns-in-Single c =
    let a = c.args in
    rw c.in-Single.is (single_outside a.offset a.len (omega arith))

pub returns-in-Pair : goal.returns-in-Pair
returns-in-Pair c =
    let a = c.args in
    rw c.in-Pair.is (pair_outside a.offset a.len (omega arith))

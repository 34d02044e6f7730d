-- `width` meets its contract: between two powers of ten all numbers have as many digits.
use mathlib.Core.Path.{ap}
use native.Mathlib.Nat.{pow-succ'}
use native.Mathlib.Omega.{arith}
use lib.ListN.{length}
use Rattle.decimal.proofs.Decimals.{decimal_one, decimal_most, decimal_least}
use Rattle.decimal.proofs.width.Goals as goal

pub returns-then-n-eq0 : goal.returns-then-n-eq0
returns-then-n-eq0 c = (omega (arith, ap length (decimal_one c.args.n (omega arith))), omega arith)

pub returns : goal.returns
returns c =
    let k = c.ilog10.result in
    let e = c.ilog10.ensures in
    let most = decimal_most k c.args.n (omega (arith, pow-succ' 10 k, e.next_power_gt)) in
    let least = decimal_least k c.args.n e.power_le in
    (omega arith, omega (arith, e.bound))

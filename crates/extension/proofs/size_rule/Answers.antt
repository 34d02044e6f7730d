-- `size_rule` meets its contract: each return is one test of the size rule (proofs/Signs.antt).
use Prim.Native.Nat.{◌%◌}
use mathlib.Core.Path.{◌≡◌, sym}
use mathlib.Core.Bool.{Bool}
use native.Mathlib.Omega.{arith}
use borrow.Author.Tests.{ne_eqb, eq-eqb}
use lib.IntN.{ℤ, pos, nat_abs}
use lib.Signed.{le_z}
use mir.Syntax.{w32}
use mir.Val.{SFits, to_z, of_z}
use mir.ValLaws.{to_z-of_z}
use Rattle.extension.proofs.Signs.{rule_short, rule_below, rule_above, positive_is}
use Rattle.extension.proofs.size_rule.Goals as goal

-- the size as it is tested is the size that was handed in
tested : {z : ℤ} {t : Bool} → SFits w32 z → le_z (to_z w32 (of_z w32 z)) (pos 0) ≡ t → le_z z (pos 0) ≡ t
tested {z} f e = rw (to_z-of_z w32 z f) at e

pub returns-then-left-lt16 : goal.returns-then-left-lt16
returns-then-left-lt16 c = sym (rule_short c.args.size c.args.left c.if-left-lt16.true)

pub returns-then-size-le0 : goal.returns-then-size-le0
returns-then-size-le0 c =
    sym (rule_below c.args.size c.args.left (tested c.ranges.size c.if-size-le0.true))

pub overflow_cast-n : goal.overflow_cast-n
overflow_cast-n c =
    let p = positive_is c.args.size c.ranges.size (tested c.ranges.size c.if-size-le0.false) in
    rw (to_z-of_z w32 c.args.size c.ranges.size) (rw p.0 (tt, record { fits = omega (arith, p.1) }))

pub returns-then-n-ne0 : goal.returns-then-n-ne0
returns-then-n-ne0 c =
    let z = c.args.size in
    let n = rw (to_z-of_z w32 z c.ranges.size) at c.if-n-ne0.true in
    rw (rule_above z c.args.left (omega arith) (tested c.ranges.size c.if-size-le0.false), ne_eqb (nat_abs z % 16) 0 n)

pub returns : goal.returns
returns c =
    let z = c.args.size in
    let n = rw (to_z-of_z w32 z c.ranges.size) at c.if-n-ne0.false in
    rw (
      to_z-of_z w32 z c.ranges.size,
      rule_above z c.args.left (omega arith) (tested c.ranges.size c.if-size-le0.false),
      eq-eqb (nat_abs z % 16) 0 n,
    )

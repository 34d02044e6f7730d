-- `Walker::step_by` meets its contract: each return is one outcome of `found_by` (proofs/Found.antt).
use Rattle.std.specs.Prelude.{Ok, Some}
use Prim.Native.Nat.{◌+◌}
use mathlib.Core.Path.{◌≡◌, sym, ◌∙◌}
use mathlib.Core.Bool.{Bool, true}
use native.Mathlib.Omega.{arith}
use lib.IntN.{pos, nat_abs}
use lib.Signed.{lt_z}
use mir.Syntax.{w32}
use mir.Val.{to_z, of_z}
use mir.ValLaws.{to_z-of_z}
use Rattle.extension.specs.Walk.{size_rule, span}
use Rattle.extension.proofs.Signs.{Ruled, ruled}
use Rattle.extension.proofs.Found.{found_none, found_ended, found_limit, found_size, found_code, found_extension}
use Rattle.extension.proofs.Walker.step_by.Goals as goal

pub returns-then-count-eq0 : goal.returns-then-count-eq0
returns-then-count-eq0 c =
    let self = c.args.self in
    let n = c.args.n in
    let size = c.args.size in
    let code = c.args.code in
    rw (found_none self.count self.at n size code (omega arith) (omega arith), c.at.ensures)

pub returns-then-n-eq0 : goal.returns-then-n-eq0
returns-then-n-eq0 c =
    let self = c.args.self in
    let n = c.args.n in
    let size = c.args.size in
    let code = c.args.code in
    rw (found_ended self.count self.at n size code (omega arith) (omega arith))

pub returns-then-count-ge-LIMIT : goal.returns-then-count-ge-LIMIT
returns-then-count-ge-LIMIT c =
    let self = c.args.self in
    let n = c.args.n in
    let size = c.args.size in
    let code = c.args.code in
    rw (found_limit self.count self.at n size code (omega arith) (omega arith), c.at-then-count-ge-LIMIT.ensures)

pub returns-then-not-sized : goal.returns-then-not-sized
returns-then-not-sized c =
    let self = c.args.self in
    let n = c.args.n in
    let size = c.args.size in
    let code = c.args.code in
    let size_same : to_z w32 (of_z w32 size) ≡ size = to_z-of_z w32 size c.ranges.size in
    let rule-is : c.size_rule-sized.result ≡ size_rule size n = rw size_same at c.size_rule-sized.ensures in
    let broken = sym rule-is ∙ c.if-not-sized.true in
    rw (found_size self.count self.at n size code (omega arith) (omega arith) broken, c.at-then-not-sized.ensures)

pub overflow_add-at : goal.overflow_add-at
overflow_add-at c =
    let n = c.args.n in
    let size = c.args.size in
    let size_same : to_z w32 (of_z w32 size) ≡ size = to_z-of_z w32 size c.ranges.size in
    let rule-is : c.size_rule-sized.result ≡ size_rule size n = rw size_same at c.size_rule-sized.ensures in
    let held : size_rule size n ≡ true = sym rule-is ∙ c.if-not-sized.false in
    let size_is : Ruled size n = ruled size n held in
    omega (arith, size_is)

pub returns-then-code-lt0 : goal.returns-then-code-lt0
returns-then-code-lt0 c =
    let self = c.args.self in
    let n = c.args.n in
    let size = c.args.size in
    let code = c.args.code in
    let size_same : to_z w32 (of_z w32 size) ≡ size = to_z-of_z w32 size c.ranges.size in
    let code_same : to_z w32 (of_z w32 code) ≡ code = to_z-of_z w32 code c.ranges.code in
    let rule-is : c.size_rule-sized.result ≡ size_rule size n = rw size_same at c.size_rule-sized.ensures in
    let held : size_rule size n ≡ true = sym rule-is ∙ c.if-not-sized.false in
    let coded : (t : Bool) → lt_z (to_z w32 (of_z w32 code)) (pos 0) ≡ t → lt_z code (pos 0) ≡ t = λ t e. rw code_same at e in
    rw (found_code self.count self.at n size code (omega arith) (omega arith) held (coded _ c.if-code-lt0.true), c.at-then-code-lt0.ensures)

pub overflow_cast-past : goal.overflow_cast-past
overflow_cast-past c =
    let n = c.args.n in
    let size = c.args.size in
    let size_same : to_z w32 (of_z w32 size) ≡ size = to_z-of_z w32 size c.ranges.size in
    let rule-is : c.size_rule-sized.result ≡ size_rule size n = rw size_same at c.size_rule-sized.ensures in
    let held : size_rule size n ≡ true = sym rule-is ∙ c.if-not-sized.false in
    let size_is : Ruled size n = ruled size n held in
    let r = size_is in
    rw size_same (rw r.whole (tt, record { fits = omega (arith, r.within) }))

pub overflow_add-past : goal.overflow_add-past
overflow_add-past c =
    let n = c.args.n in
    let size = c.args.size in
    let size_same : to_z w32 (of_z w32 size) ≡ size = to_z-of_z w32 size c.ranges.size in
    let rule-is : c.size_rule-sized.result ≡ size_rule size n = rw size_same at c.size_rule-sized.ensures in
    let held : size_rule size n ≡ true = sym rule-is ∙ c.if-not-sized.false in
    let size_is : Ruled size n = ruled size n held in
    let r = size_is in
    rw size_same (record { fits = omega (arith, r.within) })

pub returns : goal.returns
returns c =
    let self = c.args.self in
    let n = c.args.n in
    let size = c.args.size in
    let code = c.args.code in
    let size_same : to_z w32 (of_z w32 size) ≡ size = to_z-of_z w32 size c.ranges.size in
    let code_same : to_z w32 (of_z w32 code) ≡ code = to_z-of_z w32 code c.ranges.code in
    let rule-is : c.size_rule-sized.result ≡ size_rule size n = rw size_same at c.size_rule-sized.ensures in
    let held : size_rule size n ≡ true = sym rule-is ∙ c.if-not-sized.false in
    let coded : (t : Bool) → lt_z (to_z w32 (of_z w32 code)) (pos 0) ≡ t → lt_z code (pos 0) ≡ t = λ t e. rw code_same at e in
    rw (found_extension self.count self.at n size code (omega arith) (omega arith) held (coded _ c.if-code-lt0.false))
    (λ i.
    Ok (Some (span self.at (size_same i) (code_same i), record { order = self.order; end = self.end; at = self.at + nat_abs (size_same i); count = self.count + 1 })))

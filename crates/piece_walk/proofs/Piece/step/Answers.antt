-- `Piece::step` meets its contract (proofs/Stepping.antt).
use Prim.Native.Nat.{◌+◌, ◌-◌, ◌≤◌, min}
use mathlib.Core.Path.{◌≡◌, ap, ◌∙◌}
use native.Mathlib.Omega.{arith}
use lib.IntN.{pos}
use lib.ListN.{length}
use mir.Syntax.{w32}
use mir.Val.{to_z, of_z}
use mir.ValLaws.{to_z-of_z}
use Rattle.field.specs.Numbers.{i32_at}
use Rattle.piece_walk.proofs.Stepping.{step_short, step_with, number_in}
use Rattle.piece_walk.proofs.Piece.step.Goals as goal

pub returns-then-n-lt16 : goal.returns-then-n-lt16
returns-then-n-lt16 c =
    let left_is : let a = c.args in c.saturating_sub-n.result ≡ min a.walker.end (a.self.now.taken + length a.self.now.bytes.now) - a.walker.at = rw c.min.ensures at c.saturating_sub-n.ensures in
    c.step_by.ensures ∙ step_short c.args.walker _ _ _ left_is (pos 0) (pos 0) c.if-n-lt16.true

pub returns : goal.returns
returns c =
    let left_is : let a = c.args in c.saturating_sub-n.result ≡ min a.walker.end (a.self.now.taken + length a.self.now.bytes.now) - a.walker.at = rw c.min.ensures at c.saturating_sub-n.ensures in
    let a = c.args in
    let w = a.walker in
    let size = c.read-size in
    let code = c.read-code in
    let s : to_z w32 (of_z w32 size.result) ≡ size.result = to_z-of_z w32 size.result (record { sfits = size.type_inv }) in
    let d : to_z w32 (of_z w32 code.result) ≡ code.result = to_z-of_z w32 code.result (record { sfits = code.type_inv }) in
    let from : a.self.now.taken ≤ w.at = omega (arith, c.if-at-self.false) in
    let room : w.at + 8 ≤ w.end = omega (arith, left_is, c.if-n-lt16.false) in
    let k : w.at - a.self.now.taken ≡ w.at - a.self.now.taken + 0 = omega arith in
    c.step_by-2.ensures
    ∙ step_with w _ _ _ left_is _ _
    (s ∙ size.ensures ∙ ap (i32_at w.order a.self.now.bytes.now) k ∙ number_in w.at w.end a.self.now.taken a.self.now.old a.self.now.bytes.now from room w.order 0 (omega arith))
    (d ∙ code.ensures ∙ number_in w.at w.end a.self.now.taken a.self.now.old a.self.now.bytes.now from room w.order 4 (omega arith))

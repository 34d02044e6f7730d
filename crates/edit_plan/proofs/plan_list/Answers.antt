-- `plan_list` meets its contract: each return is one law of proofs/Deciding.antt.
use Rattle.std.specs.Prelude.{Ok, Err}
use Prim.Native.Nat.{◌+◌, ◌-◌}
use mathlib.Core.Path.{sym, ap, ◌∙◌}
use native.Mathlib.Omega.{arith}
use mir.Syntax.{w32}
use mir.ValLaws.{to_z-of_z}
use Rattle.edit_plan.proofs.Planning.{out_inside}
use Rattle.edit_plan.proofs.Deciding.{on_18, on_19, on_20, on_21, on_22, on_go, known}
use Rattle.edit_plan.proofs.plan_list.Goals as goal

pub returns-then-is_missing : goal.returns-then-is_missing
returns-then-is_missing c =
    let a = c.args in
    ap Err c.at.ensures
    ∙ on_18 a.file.now a.room a.change a.code a.payload.now a.outline c.requires (sym c.is_missing.ensures ∙ c.if-is_missing.true)

pub returns-then-offers_negative : goal.returns-then-offers_negative
returns-then-offers_negative c =
    let a = c.args in
    ap Err c.at-then-offers_negative.ensures
    ∙ on_19 a.file.now a.room a.change a.code a.payload.now a.outline c.requires (sym c.is_missing.ensures ∙ c.if-is_missing.false)
    (rw (to_z-of_z w32 a.code c.ranges.code) at (sym c.offers_negative.ensures ∙ c.if-offers_negative.true))

pub returns-then-enters_bytes : goal.returns-then-enters_bytes
returns-then-enters_bytes c =
    let a = c.args in
    ap Err c.at-then-enters_bytes.ensures
    ∙ on_20 a.file.now a.room a.change a.code a.payload.now a.outline c.requires (sym c.is_missing.ensures ∙ c.if-is_missing.false)
    (rw (to_z-of_z w32 a.code c.ranges.code) at (sym c.offers_negative.ensures ∙ c.if-offers_negative.false))
    (rw (c.max-end.ensures, c.region_end.ensures) at (sym c.enters_bytes.ensures ∙ c.if-enters_bytes.true))

pub overflow_sub-next : goal.overflow_sub-next
overflow_sub-next c =
    let k =
    known c.ranges.code c.requires c.is_missing.ensures c.if-is_missing.false c.offers_negative.ensures c.if-offers_negative.false
    c.region_end.ensures c.max-end.ensures c.enters_bytes.ensures c.if-enters_bytes.false c.slot_for-out.ensures c.new_size-new.ensures in
    let o = out_inside c.args.file.now c.args.change k.0.present k.0.cut in
    omega (arith, k.1.end_is, k.1.old_is)

pub overflow_add-next : goal.overflow_add-next
overflow_add-next c =
    let k =
    known c.ranges.code c.requires c.is_missing.ensures c.if-is_missing.false c.offers_negative.ensures c.if-offers_negative.false
    c.region_end.ensures c.max-end.ensures c.enters_bytes.ensures c.if-enters_bytes.false c.slot_for-out.ensures c.new_size-new.ensures in
    let small = k.0.small in
    record { fits = omega (arith, k.1.end_is, k.1.new_is) }

pub returns-then-is_too_many-next : goal.returns-then-is_too_many-next
returns-then-is_too_many-next c =
    let k =
    known c.ranges.code c.requires c.is_missing.ensures c.if-is_missing.false c.offers_negative.ensures c.if-offers_negative.false
    c.region_end.ensures c.max-end.ensures c.enters_bytes.ensures c.if-enters_bytes.false c.slot_for-out.ensures c.new_size-new.ensures in
    let a = c.args in
    ap Err c.at-then-is_too_many-next.ensures
    ∙ on_21 a.file.now a.room a.change a.code a.payload.now a.outline c.requires k.0 _ _ _ _ k.1
    (rw c.is_too_many.ensures at c.if-is_too_many-next.true)

pub overflow_sub-max : goal.overflow_sub-max
overflow_sub-max c =
    let k =
    known c.ranges.code c.requires c.is_missing.ensures c.if-is_missing.false c.offers_negative.ensures c.if-offers_negative.false
    c.region_end.ensures c.max-end.ensures c.enters_bytes.ensures c.if-enters_bytes.false c.slot_for-out.ensures c.new_size-new.ensures in
    let o = out_inside c.args.file.now c.args.change k.0.present k.0.cut in
    let cut = k.0.cut in
    omega (arith, k.1.old_is, cut.base, cut.whole, c.max.ensures)

pub returns-then-room-max : goal.returns-then-room-max
returns-then-room-max c =
    let k =
    known c.ranges.code c.requires c.is_missing.ensures c.if-is_missing.false c.offers_negative.ensures c.if-offers_negative.false
    c.region_end.ensures c.max-end.ensures c.enters_bytes.ensures c.if-enters_bytes.false c.slot_for-out.ensures c.new_size-new.ensures in
    let a = c.args in
    ap Err c.at-then-room-max.ensures
    ∙ on_22 a.file.now a.room a.change a.code a.payload.now a.outline c.requires k.0 _ _ _ _ k.1
    (rw c.is_too_many.ensures at c.if-is_too_many-next.false) (rw c.max.ensures at c.if-room-max.true)

pub returns : goal.returns
returns c =
    let k =
    known c.ranges.code c.requires c.is_missing.ensures c.if-is_missing.false c.offers_negative.ensures c.if-offers_negative.false
    c.region_end.ensures c.max-end.ensures c.enters_bytes.ensures c.if-enters_bytes.false c.slot_for-out.ensures c.new_size-new.ensures in
    let a = c.args in
    let out = c.slot_for-out.result in
    let new = c.new_size-new.result in
    (λ i.
    Ok (record {
      order = a.outline.layout.order;
      kind = a.outline.layout.kind;
      at = out.at;
      old = out.old;
      new = new;
      end = c.max-end.result - out.old + new;
      aligned = c.aligned_after.ensures i;
    }))
    ∙ on_go a.file.now a.room a.change a.code a.payload.now a.outline c.requires k.0 _ _ _ _ k.1
    (rw c.is_too_many.ensures at c.if-is_too_many-next.false) (rw c.max.ensures at c.if-room-max.false)

-- `put_stated` meets its contract: 22, or the lines of the acquired slices and the last line behind them.
use mathlib.Core.Path.{◌≡◌}
use Prim.Native.Nat.{◌+◌}
use native.Mathlib.Omega.{arith}
use lib.ListN.{length}
use Rattle.card_lines.specs.Lines.{ended}
use Rattle.slice_card.specs.Card.{stated_lines}
use Rattle.slice_card.proofs.Calls.{fills_none, fills_whole, stated_length, stated_written}
use Rattle.slice_card.proofs.put_stated.Goals as goal

pub returns-then-out-width : goal.returns-then-out-width
returns-then-out-width c =
    let width_is : c.lines_width.result + c.width.result + 8 ≡ length (ended (stated_lines c.args.a)) =
    let n = c.acquired_count-n in
    let p = c.padded_count-count in
    omega (arith, stated_length c.args.a n.result p.result n.ensures.0 p.ensures, c.lines_width.ensures.0, c.width.ensures.0) in
    let a = c.args in
    rw c.at.ensures (fills_none a.out.now (ended (stated_lines a.a)) (omega (arith, width_is, c.if-out-width.true)))

pub returns : goal.returns
returns c =
    let width_is : c.lines_width.result + c.width.result + 8 ≡ length (ended (stated_lines c.args.a)) =
    let n = c.acquired_count-n in
    let p = c.padded_count-count in
    omega (arith, stated_length c.args.a n.result p.result n.ensures.0 p.ensures, c.lines_width.ensures.0, c.width.ensures.0) in
    let n = c.acquired_count-n in
    let p = c.padded_count-count in
    let k = c.put_lines-at in
    let e = c.put_padded in
    let a = c.args in
    fills_whole a.out.now (ended (stated_lines a.a)) _ _
    (omega (arith, width_is, c.if-out-width.false))
    (omega (arith, stated_length a.a n.result p.result n.ensures.0 p.ensures, e.ensures.0, k.ensures.0))
    (stated_written a.a n.result p.result n.ensures.0 p.ensures a.out.now _ _ k.result k.ensures.0 k.ensures.1 e.ensures.1)

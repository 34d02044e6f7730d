-- `put_lines` meets its contract: the lines so far stand at the front, and each goes right behind them.
use mathlib.Core.Path.{◌≡◌, refl, sym, ap, ◌∙◌}
use Prim.Native.Nat.{◌+◌}
use native.Mathlib.Omega.{arith}
use lib.ListN.{length}
use Rattle.buffer.proofs.Laws.{put_nil}
use Rattle.card_lines.proofs.Texts.{length-next, lines_upto, no_lines, next_written}
use Rattle.card_lines.proofs.put_lines.Goals as goal

pub loop-rank-init : goal.loop-rank-init
loop-rank-init c = let e = no_lines c.args.a in (sym (ap length e), rw e (sym (put_nil _ 0)), refl)

pub put_line-at-requires : goal.put_line-at-requires
put_line-at-requires c =
    let i = c.loop-rank in
    omega (arith, c.requires, i.invariant.0, i.invariant.2, length-next c.args.a i.rank, lines_upto c.args.a (i.rank + 1) c.args.n (omega arith))

pub loop-rank-preserved : goal.loop-rank-preserved
loop-rank-preserved c =
    let p = c.put_line-at in
    let i = c.loop-rank in (
      omega (arith, p.ensures.0, i.invariant.0, length-next c.args.a i.rank),
      next_written c.args.a c.args.out.now _ _ i.at i.rank i.invariant.0 i.invariant.1 p.ensures.1,
      p.auto.out ∙ i.invariant.2,
    )

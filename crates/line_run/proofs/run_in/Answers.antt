-- `run_in` meets its contract: after k turns the first k lines are drawn.
use mathlib.Core.Path.{◌≡◌, refl}
use native.Mathlib.Omega.{arith}
use Rattle.line_run.proofs.Drawn.{drawn_none, drawn_next}
use Rattle.line_run.proofs.run_in.Goals as goal

pub loop-k-init : goal.loop-k-init
loop-k-init g c = (drawn_none _ _ _ _, refl)

pub loop-k-preserved : goal.loop-k-preserved
loop-k-preserved g c =
    let a = c.args in (
      drawn_next a.header a.file.now a.axis a.out.now c.loop-k.k c.loop-k.invariant.0 c.line_in-lined.ensures
          c.unwrap_or.ensures c.max-most.ensures,
      omega (arith, c.loop-k.invariant.1),
    )

pub returns : goal.returns
returns g c =
    let end : c.loop-k.k ≡ c.args.count = omega arith in
    let d = rw end at c.loop-k.invariant.0 in
    (d.1, d.0)

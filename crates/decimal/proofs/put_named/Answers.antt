-- `put_named` meets its contract: the number behind the words.
use mathlib.Core.Path.{◌∙◌}
use native.Mathlib.Omega.{arith}
use Rattle.buffer.proofs.Laws.{put_right}
use Rattle.decimal.proofs.put_named.Goals as goal

pub returns : goal.returns
returns c =
    let n = c.put_number in
    let w = c.copy_in in
    let a = c.args in
    (omega (arith, n.ensures.0), n.ensures.1 ∙ put_right a.out.now a.at a.words.now _ _ _ w.ensures (omega arith) (omega arith))

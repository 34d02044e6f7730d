-- `slide` meets its contract: where the two places are one, the bytes that are to go there stand there already (`put_same`).
use mathlib.Core.Path.{◌≡◌, sym}
use native.Mathlib.Omega.{arith}
use Rattle.buffer.proofs.Laws.{put_same}
use Rattle.buffer.proofs.slide.Goals as goal

pub returns-else-to-from : goal.returns-else-to-from
returns-else-to-from c =
    let a = c.args in
    let same : a.from ≡ a.to = omega arith in
    rw same (sym (put_same a.buf.now a.to a.n (omega arith)))

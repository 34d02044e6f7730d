-- `locate_in` meets its contract: what the offset's decoder answers, by rules 8 and 9, and else the rest.
use Rattle.std.specs.Prelude.{Err}
use mathlib.Core.Path.{ap, sym, ◌∙◌}
use Rattle.voxel.proofs.Stepping.{in_refused, in_whole}
use Rattle.voxel.proofs.locate_in.Goals as goal

pub returns-in-Err : goal.returns-in-Err
returns-in-Err c =
    let a = c.args in
    ap Err c.misplaced.ensures ∙ in_refused a.header a.len a.index c.in-Err.r (sym c.decode.ensures ∙ c.in-Err.is)

pub returns-in-Ok : goal.returns-in-Ok
returns-in-Ok c =
    let a = c.args in
    rw (c.locate_at.ensures, c.whole.ensures) (in_whole a.header a.len a.index c.in-Ok.offset (sym c.decode.ensures ∙ c.in-Ok.is))

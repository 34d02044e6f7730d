-- `Walker::step_within` meets its contract: the part of the file that is handed on is `rest_of`.
use native.Mathlib.Omega.{arith}
use Rattle.extension.specs.Walk.{step_of}
use Rattle.extension.proofs.Regions.{part_rest}
use Rattle.extension.proofs.Walker.step_within.Goals as goal

pub returns : goal.returns
unfolding step_of
returns c =
    let a = c.args in
    let inside = c.requires in
    rw (← part_rest a.file.now a.self.end a.self.at a.self.end a.self.at (omega (arith, inside)) (omega (arith, inside)))
    c.step_over.ensures

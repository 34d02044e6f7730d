-- `Walker::step` meets its contract: the part of the file that is handed on is `rest_of`, whatever the state is.
use Rattle.extension.specs.Walk.{step_of}
use Rattle.extension.proofs.Regions.{part_rest}
use Rattle.extension.proofs.Walker.step.Goals as goal

pub returns : goal.returns
unfolding step_of
returns c =
    let a = c.args in
    rw (← part_rest a.file.now a.self.end a.self.at _ _ c.min-stop.ensures c.min-from.ensures) c.step_over.ensures

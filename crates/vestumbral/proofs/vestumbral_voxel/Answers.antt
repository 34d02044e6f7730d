-- `vestumbral_voxel` meets its contract, which is that of `locate`.
use mathlib.Core.Path.{ap, ◌∙◌}
use Rattle.answers.specs.Answers.{voxel_reply}
use Rattle.vestumbral.proofs.vestumbral_voxel.Goals as goal

pub returns : goal.returns
returns c = c.into.ensures ∙ ap voxel_reply c.locate.ensures

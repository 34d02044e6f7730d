-- `vestumbral_line_by_voxel` meets its contract, which is that of `line::<Voxels>`.
use mathlib.Core.Path.{ap, ◌∙◌}
use Rattle.answers.specs.Answers.{line_reply}
use Rattle.vestumbral.proofs.vestumbral_line_by_voxel.Goals as goal

pub returns : goal.returns
returns c =
    (c.into.ensures ∙ ap line_reply c.line.ensures.0, c.line.ensures.1)

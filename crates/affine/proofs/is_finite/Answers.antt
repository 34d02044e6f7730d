-- `is_finite` meets its contract: std's word and the definition's say the same.
use Rattle.std.proofs.Common.{◌∙◌}
use Rattle.affine.proofs.Finite.{is_finite_lem}
use Rattle.affine.proofs.is_finite.Goals as goal

pub returns : goal.returns
returns c = c.is_finite.ensures.value ∙ is_finite_lem c.args.x

-- `is_finite_pattern` meets its contract, by the law on the exponent's field.
use Rattle.affine.proofs.Finite.{pattern_finite}
use Rattle.affine.proofs.is_finite_pattern.Goals as goal

pub returns : goal.returns
returns c = pattern_finite c.args.bits

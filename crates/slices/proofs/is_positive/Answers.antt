-- `is_positive` meets its contract, by the law on the patterns of the positive numbers.
use Rattle.slices.proofs.TimeLaws.{positive_pattern}
use Rattle.slices.proofs.is_positive.Goals as goal

pub returns : goal.returns
returns c = positive_pattern c.args.bits c.ranges.bits.fits

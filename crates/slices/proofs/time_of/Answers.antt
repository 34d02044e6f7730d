-- `time_of` meets its contract: by a positive duration the product is finite exactly when it is below the infinity.
use Rattle.std.proofs.Common.{◌≡◌, ◌∙◌, refl, arith, Bool, true, false, cond, Some, None}
use Rattle.std.specs.Bool.{then_some}
use lib.Ieee.{Float, binary32, of_bits}
use Rattle.slices.specs.Times.{time_of}
use Rattle.number.proofs.Floats.{no_nan}
use Rattle.slices.proofs.TimeLaws.{positive_is_finite, product_below}
use Rattle.slices.proofs.time_of.Goals as goal

pub float_from_bits-t : goal.float_from_bits-t
float_from_bits-t c =
    let d = c.args.duration in
    no_nan d (positive_is_finite (of_bits binary32 d) c.requires)

-- the answer as the definition writes it
if_finite : (b : Bool) (t : Float) → then_some b t ≡ cond b (Some t) None
if_finite true t = refl
if_finite false t = refl

pub returns : goal.returns
unfolding time_of
returns c =
    rw (← product_below c.args.rank (of_bits binary32 c.args.duration) (omega arith) c.requires) (c.then_some.ensures ∙ if_finite _ _)

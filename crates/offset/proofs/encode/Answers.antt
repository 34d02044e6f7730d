-- `offset::encode` meets its contract: it is what `nearest_u32_to_f32` ensures, and the float of a whole number is no NaN (Number.antt).
-- Assumes nothing.
use Rattle.std.proofs.Common.{not, T, sym, ap, subst}
use lib.Ieee.{Float, binary32, is_nan, to_bits}
use Rattle.offset.specs.Offset.{offset_bits}
use Rattle.offset.proofs.Number.{whole_number}
use Rattle.offset.proofs.encode.Goals as goal

pub float_to_bits-result : goal.float_to_bits-result
float_to_bits-result c = subst (λ (x : Float). T (not (is_nan x))) (sym c.nearest_u32_to_f32.ensures) (whole_number c.args.n)

pub returns : goal.returns
unfolding offset_bits
returns c = ap (to_bits binary32) c.nearest_u32_to_f32.ensures

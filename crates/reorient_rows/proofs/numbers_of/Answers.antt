-- `numbers_of` meets its contract: a finite row has no NaN.
use Rattle.affine.proofs.Finite.{finite_row_lem}
use Rattle.reorient_rows.proofs.numbers_of.Goals as goal

pub float_from_bits-a : goal.float_from_bits-a
float_from_bits-a c = (finite_row_lem c.args.row c.requires.row_value).n0

pub float_from_bits-b : goal.float_from_bits-b
float_from_bits-b c = (finite_row_lem c.args.row c.requires.row_value).n1

pub float_from_bits-c : goal.float_from_bits-c
float_from_bits-c c = (finite_row_lem c.args.row c.requires.row_value).n2

pub float_from_bits-s : goal.float_from_bits-s
float_from_bits-s c = (finite_row_lem c.args.row c.requires.row_value).n3

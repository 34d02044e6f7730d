-- `side_by_side` meets its contract: the voxels of such an axis are one run of the source.
use native.Mathlib.Omega.{arith}
use lib.ListN.{length}
use Rattle.gather_row.proofs.Places.{gathered_side, inside_side, length-row}
use Rattle.gather_row.proofs.side_by_side.Goals as goal

pub overflow_mul-n : goal.overflow_mul-n
overflow_mul-n c =
    let a = c.args in
    let fit = inside_side a.b a.from a.axis c.requires.up_value.0 c.requires.up_value.1 (length a.src.now) c.requires.inside in
    omega arith

pub copy_run-requires : goal.copy_run-requires
copy_run-requires c =
    let a = c.args in
    let fit = inside_side a.b a.from a.axis c.requires.up_value.0 c.requires.up_value.1 (length a.src.now) c.requires.inside in
    let len = length-row a.b a.src.now a.from a.axis c.requires.inside in
    (omega arith, omega arith)

pub overflow_add-result : goal.overflow_add-result
overflow_add-result c =
    let a = c.args in
    let len = length-row a.b a.src.now a.from a.axis c.requires.inside in
    omega arith

pub returns : goal.returns
returns c =
    let a = c.args in
    let len = length-row a.b a.src.now a.from a.axis c.requires.inside in
    let whole = gathered_side a.b a.from a.axis c.requires.up_value.0 c.requires.up_value.1 a.src.now in
    (rw whole c.copy_run.ensures, omega arith)

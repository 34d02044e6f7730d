-- `copy_voxel` meets its contract: what goes into the array comes out of it.
use Prim.Native.Nat.{◌+◌, ◌-◌}
use native.Mathlib.Omega.{arith}
use Rattle.gather_row.proofs.Places.{by_way_of}
use Rattle.gather_row.proofs.copy_voxel.Goals as goal

pub returns : goal.returns
returns c =
    let a = c.args in
    by_way_of a.src.now _ _ a.out.now _ a.from a.to a.b (a.from + a.b - a.from) (a.b - 0)
    (omega arith)
    (omega arith)
    (omega arith)
    c.copy_in.ensures
    c.copy_in-2.ensures

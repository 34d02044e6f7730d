-- `line_back` meets its contract: the voxels of the copied line are those of the source.
use mathlib.Core.Path.{◌≡◌}
use Prim.Native.Nat.{◌+◌, ◌-◌, ◌*◌}
use native.Mathlib.Omega.{arith}
use lib.ListN.{length}
use Rattle.gather_row.specs.Gather.{downwards}
use Rattle.gather_row.proofs.Places.{inside_some}
use Rattle.gather_row.proofs.Lines.{inside_copy, inside_whole, gathered_copy}
use Rattle.gather_row.proofs.line_back.Goals as goal

pub one_by_one-requires : goal.one_by_one-requires
one_by_one-requires c =
    let a = c.args in
    let way = downwards c.requires.up_value.0 c.requires.up_value.1 in
    let some = inside_some a.b (length a.src.now) a.from a.axis c.requires.inside in
    let n : a.from + a.axis.length * a.b - a.from ≡ a.axis.length * a.b = omega arith in
    let copied = c.copy_in.ensures in
    let same = gathered_copy a.b a.axis way a.src.now _ _ a.from _ c.requires.inside n copied in
    record { b_bound = c.requires.b_bound.0; inside = inside_copy a.b a.axis way _ some (omega arith); axis_in_bounds = rw same c.requires.axis_in_bounds }

pub returns : goal.returns
returns c =
    let a = c.args in
    let way = downwards c.requires.up_value.0 c.requires.up_value.1 in
    let n : a.from + a.axis.length * a.b - a.from ≡ a.axis.length * a.b = omega arith in
    let copied = c.copy_in.ensures in
    let same = gathered_copy a.b a.axis way a.src.now _ _ a.from _ c.requires.inside n copied in
    rw same at c.one_by_one.ensures

pub slice_bounds-copy_in-end-2 : goal.slice_bounds-copy_in-end-2
slice_bounds-copy_in-end-2 c =
    let a = c.args in
    let way = downwards c.requires.up_value.0 c.requires.up_value.1 in
    let whole = inside_whole a.b a.axis way (length a.src.now) a.from c.requires.inside in
    omega arith

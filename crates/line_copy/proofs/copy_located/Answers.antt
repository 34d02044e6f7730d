-- `copy_located` meets its contract: a voxel that is located is copied, and of one that is not there is nothing to copy.
use Prim.Native.Nat.{◌+◌, ◌-◌, ◌≤◌}
use mathlib.Core.Path.{◌≡◌, sym}
use native.Mathlib.Nat.{add-zero}
use native.Mathlib.Omega.{arith}
use lib.ListN.{length, take, drop, length-take, length-drop}
use Rattle.buffer.proofs.Laws.{put_nil}
use Rattle.line_copy.proofs.copy_located.Goals as goal

pub overflow_add-end : goal.overflow_add-end
overflow_add-end c =
    let extent = c.in-Ok.extent in
    let holds : extent.place + extent.length ≤ length c.args.src.now = rw c.in-Ok.is at c.requires.holds in
    record { fits = omega (arith, holds) }

pub copy_in-requires : goal.copy_in-requires
copy_in-requires c =
    let extent = c.in-Ok.extent in
    let room : let a = c.args in a.to + length (take extent.length (drop extent.place a.src.now)) ≤ length a.out.now = rw c.in-Ok.is at c.requires.src_in_bounds in
    let e : extent.place + extent.length - extent.place ≡ extent.length = omega arith in
    rw e room

pub overflow_add-result : goal.overflow_add-result
overflow_add-result c =
    let extent = c.in-Ok.extent in
    let holds : extent.place + extent.length ≤ length c.args.src.now = rw c.in-Ok.is at c.requires.holds in
    let room : let a = c.args in a.to + length (take extent.length (drop extent.place a.src.now)) ≤ length a.out.now = rw c.in-Ok.is at c.requires.src_in_bounds in
    let part_length : let a = c.args in length (take extent.length (drop extent.place a.src.now)) ≡ extent.length = simp (length-take, length-drop) (omega (arith, holds)) in
    omega (arith, room, part_length)

pub returns-in_default : goal.returns-in_default
returns-in_default c =
    rw c.in_default.is (sym (put_nil c.args.out.now c.args.to), sym (add-zero c.args.to))

pub returns : goal.returns
returns c =
    let extent = c.in-Ok.extent in
    let holds : extent.place + extent.length ≤ length c.args.src.now = rw c.in-Ok.is at c.requires.holds in
    let part_length : let a = c.args in length (take extent.length (drop extent.place a.src.now)) ≡ extent.length = simp (length-take, length-drop) (omega (arith, holds)) in
    let e : extent.place + extent.length - extent.place ≡ extent.length = omega arith in
    rw c.in-Ok.is (rw e at c.copy_in.ensures, omega (arith, part_length))

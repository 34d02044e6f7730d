-- `by_steps` meets its contract: voxels that lie side by side are one run of the file, and the others are gathered.
use Prim.Native.Nat.{ℕ, ◌+◌, ◌-◌, ◌*◌, ◌≤◌}
use mathlib.Core.Path.{◌≡◌, sym}
use native.Mathlib.Omega.{arith}
use lib.ListN.{length, length-take, length-drop}
use Rattle.gather_row.proofs.Places.{gathered_side, inside_side, length-row}
use Rattle.line_copy.proofs.by_steps.Goals as goal

pub overflow_mul-n : goal.overflow_mul-n
overflow_mul-n c =
    let run : let a = c.args in a.course.from + a.course.axis.length * a.course.bytes ≤ length a.src.now =
    let a = c.args in
    inside_side a.course.bytes a.course.from a.course.axis c.if-axis-bytes.true c.requires.bytes_bound.1 (length a.src.now) c.requires.inside in
    record { fits = omega (arith, run) }

pub overflow_add-end : goal.overflow_add-end
overflow_add-end c =
    let run : let a = c.args in a.course.from + a.course.axis.length * a.course.bytes ≤ length a.src.now =
    let a = c.args in
    inside_side a.course.bytes a.course.from a.course.axis c.if-axis-bytes.true c.requires.bytes_bound.1 (length a.src.now) c.requires.inside in
    record { fits = omega (arith, run) }

pub copy_in-requires : goal.copy_in-requires
copy_in-requires c =
    let run : let a = c.args in a.course.from + a.course.axis.length * a.course.bytes ≤ length a.src.now =
    let a = c.args in
    inside_side a.course.bytes a.course.from a.course.axis c.if-axis-bytes.true c.requires.bytes_bound.1 (length a.src.now) c.requires.inside in
    let a = c.args in
    let n : ℕ = a.course.axis.length * a.course.bytes in
    let e : a.course.from + n - a.course.from ≡ n = omega arith in
    let len = length-row a.course.bytes a.src.now a.course.from a.course.axis c.requires.inside in
    rw e (simp (length-take, length-drop) (omega (arith, run, c.requires.axis_in_bounds)))

pub returns-then-axis-bytes : goal.returns-then-axis-bytes
returns-then-axis-bytes c =
    let a = c.args in
    let n : ℕ = a.course.axis.length * a.course.bytes in
    let e : a.course.from + n - a.course.from ≡ n = omega arith in
    let len = length-row a.course.bytes a.src.now a.course.from a.course.axis c.requires.inside in
    let whole = gathered_side a.course.bytes a.course.from a.course.axis c.if-axis-bytes.true c.requires.bytes_bound.1 a.src.now in
    (rw whole (rw e at c.copy_in.ensures), sym len)

pub by_width-requires : goal.by_width-requires
by_width-requires c =
    record { b_bound = c.requires.bytes_bound.0; inside = c.requires.inside; axis_in_bounds = omega (arith, c.requires.axis_in_bounds) }

pub slice_bounds-copy_in-end : goal.slice_bounds-copy_in-end
slice_bounds-copy_in-end c =
    let run : let a = c.args in a.course.from + a.course.axis.length * a.course.bytes ≤ length a.src.now =
    let a = c.args in
    inside_side a.course.bytes a.course.from a.course.axis c.if-axis-bytes.true c.requires.bytes_bound.1 (length a.src.now) c.requires.inside in
    omega (arith, run)

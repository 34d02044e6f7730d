-- `Voxels::copy` meets its contract: after k turns the first k voxels stand in the buffer.
use Rattle.std.specs.Prelude.{Result}
use Rattle.refusal.specs.declared.Refusal.{Refusal}
use Rattle.voxel.specs.declared.Extent.{Extent}
use Prim.Native.Nat.{ℕ, ◌+◌, ◌<◌}
use mathlib.Core.Path.{◌≡◌, ap, ◌∙◌}
use mathlib.Core.List.{List}
use native.Mathlib.Omega.{arith}
use lib.ListN.{length}
use borrow.Author.Rules.{rules}
use Rattle.gather_row.proofs.Progress.{progress_start, progress_room, progress_next, progress_done}
use Rattle.voxel.specs.Steps.{stepped_by}
use Rattle.by_file.specs.Files.{part_of}
use Rattle.line_plan.specs.Line.{with_number, count_along}
use Rattle.line_copy.proofs.Engines.{part_holds, line_room, line_series}
use Rattle.line_copy.proofs.VoxelsEngine.copy.Goals as goal

pub loop-k-init : goal.loop-k-init
loop-k-init c =
    let a = c.args in
    let count = c.axis_length-count.ensures.0 in
    let line = line_series a.v a.src.now a.image a.axis a.index (length a.out.now) c.requires.lies c.axis_length-count.result count in
    let room = line_room a.v a.src.now a.image a.axis a.index (length a.out.now) c.requires.lies in
    (count, progress_start a.out.now 0 _ c.axis_length-count.result (omega (arith, room, ap length line)))

pub overflow_sub-at : goal.overflow_sub-at
overflow_sub-at c = c.requires.lies.first

pub offset_bounds-at-axis : goal.offset_bounds-at-axis
offset_bounds-at-axis c = record { fits = omega (arith, c.requires.lies.last) }

pub bounds-at-axis : goal.bounds-at-axis
bounds-at-axis c = omega (arith, c.requires.lies.first, c.requires.lies.last)

pub locate_at-located-requires : goal.locate_at-located-requires
locate_at-located-requires c = (
  search rules,
  search rules,
  search rules,
)

pub copy_located-to-requires : goal.copy_located-to-requires
unfolding with_number
copy_located-to-requires c =
    let located-is : let a = c.args in c.locate_at-located.result ≡ stepped_by a.v a.image (with_number a.axis a.index c.loop-k.k) = c.locate_at-located.ensures in
    let a = c.args in
    let k = c.loop-k.k in
    let below : k < count_along a.v.dim a.axis = omega (arith, c.loop-k.invariant.0) in record { holds = rw located-is (part_holds a.v a.src.now a.image a.axis a.index (length a.out.now) c.requires.lies k below); src_in_bounds = rw located-is (progress_room _ 0 _ _ _ _ k c.loop-k.invariant.1 (omega arith)) }

pub loop-k-preserved : goal.loop-k-preserved
unfolding with_number
loop-k-preserved c =
    let located-is : let a = c.args in c.locate_at-located.result ≡ stepped_by a.v a.image (with_number a.axis a.index c.loop-k.k) = c.locate_at-located.ensures in
    let a = c.args in
    let call = c.copy_located-to.ensures in
    let part = ap (λ (l : Result Extent Refusal). part_of l a.src.now) located-is in (
      c.loop-k.invariant.0,
      progress_next _ 0 _ _ _ _ c.loop-k.k c.loop-k.invariant.1 (omega arith) _ _ _ call.0 part
          (call.1 ∙ ap (λ (l : List ℕ). c.loop-k.to + length l) part),
    )

pub returns : goal.returns
returns c =
    let a = c.args in
    let line = line_series a.v a.src.now a.image a.axis a.index (length a.out.now) c.requires.lies _ c.loop-k.invariant.0 in
    let done = progress_done _ 0 _ _ _ _ c.loop-k.k c.loop-k.invariant.1 (omega arith) in
    (rw line done.0, omega (arith, done.1, ap length line))

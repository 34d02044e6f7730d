-- `grid::image_bytes` meets its contract: the product is, capped, what dim[1] to dim[axis] give; it is capped before the next one,
-- which so does not wrap.
use mathlib.Core.Path.{◌≡◌, ◌∙◌}
use Prim.Native.Nat.{ℕ, suc}
use native.Mathlib.Numerals.{add-one}
use Rattle.number.specs.Natural.{natural_of}
use Rattle.grid.specs.Axes.{dim_at, image_bytes, capped}
use Rattle.grid.proofs.Axes.{image_none, image_next}
use Rattle.grid.proofs.Limit.{capped_times}
use Rattle.grid.proofs.image_bytes.Goals as goal

pub loop-axis-init : goal.loop-axis-init
loop-axis-init c = rw (image_none c.args.dim.now c.args.bytes)

pub loop-axis-preserved : goal.loop-axis-preserved
loop-axis-preserved c =
    let a = c.args in
    let m : ℕ = image_bytes a.dim.now c.loop-axis.axis a.bytes in
    let e : ℕ = natural_of (dim_at a.dim.now (suc c.loop-axis.axis)) in
    let kept : c.limited-kept.result ≡ capped m = c.limited-kept.ensures ∙ c.loop-axis.invariant in
    let next = image_next a.dim.now c.loop-axis.axis a.bytes in
    rw (kept, c.axis_length.ensures.0, add-one c.loop-axis.axis, next) (capped_times m e)

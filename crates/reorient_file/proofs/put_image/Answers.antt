-- `put_image` meets its contract: the lengths and the bytes of a voxel are the record's.
use mathlib.Core.Path.{◌≡◌, ap, ◌∙◌}
use Prim.Native.Nat.{ℕ, ◌/◌}
use mir.Syntax.{w16}
use mir.Val.{to_z, of_z}
use Rattle.number.specs.Natural.{natural_of}
use native.Mathlib.Omega.{arith}
use Rattle.grid.specs.Axes.{seven_axes}
use Rattle.voxel.specs.Voxel.{voxel_bytes}
use Rattle.reorient_file.proofs.Made.{image_voxels}
use borrow.Author.Rules.{rules}
use Rattle.reorient_file.proofs.put_image.Goals as goal

pub reorient_image-requires : goal.reorient_image-requires
reorient_image-requires c =
    let bitpix-same : let z = c.args.header.intent.bitpix in to_z w16 (of_z w16 z) ≡ z = search rules in
    let bytes-is : c.natural-bytes.result / 8 ≡ voxel_bytes c.args.header = ap (λ (n : ℕ). n / 8) (c.natural-bytes.ensures.0 ∙ ap natural_of bitpix-same) in
    let h = c.args.header in
    let lengths = c.seven-lengths.ensures ∙ ap (seven_axes h.dim) c.axis_count.ensures.0 in
    let z = c.requires.sized in
    let n = image_voxels h in
    record {
      t_value = c.requires.t_value;
      b_bound = rw bytes-is z.small;
      lengths_nonzero = rw lengths z.some;
      lengths_bound = rw (lengths, bytes-is) (omega (arith, n, z.bytes));
      lengths_in_bounds = rw (lengths, bytes-is) (omega (arith, n, c.requires.header_in_bounds));
      lengths_in_bounds_2 = rw (lengths, bytes-is) (omega (arith, n, c.requires.header_in_bounds, c.requires.src_in_bounds));
    }

pub returns : goal.returns
returns c =
    let bitpix-same : let z = c.args.header.intent.bitpix in to_z w16 (of_z w16 z) ≡ z = search rules in
    let bytes-is : c.natural-bytes.result / 8 ≡ voxel_bytes c.args.header = ap (λ (n : ℕ). n / 8) (c.natural-bytes.ensures.0 ∙ ap natural_of bitpix-same) in
    let h = c.args.header in
    let lengths = c.seven-lengths.ensures ∙ ap (seven_axes h.dim) c.axis_count.ensures.0 in
    rw (lengths, bytes-is) at c.reorient_image.ensures

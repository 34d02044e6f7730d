-- `put_holder` meets its contract: the three parts one after another are the whole.
use mathlib.Core.Path.{refl, ap, ◌∙◌}
use Prim.Native.Nat.{◌*◌, ◌≤◌}
use native.Mathlib.Nat.{sub-zero}
use native.Mathlib.Omega.{arith}
use lib.ListN.{length, drop, length-drop}
use Rattle.buffer.specs.Put.{put}
use Rattle.grid.specs.Grid.{voxels}
use Rattle.grid.proofs.Bounds.{seven_length}
use Rattle.rules.specs.declared.Image.{Image}
use Rattle.rules.specs.Rules.{axis_count}
use Rattle.voxel.specs.Voxel.{lengths_of, voxel_bytes}
use Rattle.reorient.specs.Reorient.{reoriented}
use Rattle.reorient.proofs.Seven.{length_seven}
use Rattle.reorient_file.specs.Files.{holder_after}
use Rattle.reorient_file.proofs.Made.{image_voxels, parts_put}
use Rattle.reorient_file.proofs.put_holder.Goals as goal

pub put_image-requires : goal.put_image-requires
put_image-requires c =
    let same = ap (λ (i : Image). i.bytes) c.requires.image_value in record { t_value = c.requires.t_value; sized = c.requires.sized; header_in_bounds = omega (arith, same, c.requires.bytes_in_bounds); src_in_bounds = omega (arith, c.requires.src_in_bounds, c.copy_in.auto.buf) }

pub returns : goal.returns
unfolding holder_after
returns c =
    let a = c.args in
    let h = a.header in
    let b = voxel_bytes h in
    let ns = lengths_of h in
    let src = a.src.now in
    let from = a.image.offset in
    let bytes = ap (λ (i : Image). i.bytes) c.requires.image_value ∙ image_voxels h in
    let room : b * voxels ns ≤ length (drop from src) = rw length-drop (omega (arith, bytes, c.requires.bytes_in_bounds)) in
    let seven = seven_length h.dim (axis_count h.dim) c.requires.sized.axes in
    let size = length_seven ns seven a.t c.requires.t_value b (drop from src) room in
    parts_put _ _ _ _ src _ from _ _ _ (omega (arith, size, bytes)) (omega (arith, c.requires.bytes_in_bounds)) (sub-zero from) refl
    c.copy_in.ensures c.put_image.ensures c.copy_in-2.ensures
    ∙ ap (λ (i : Image). put a.out.now 0 (put src i.offset (reoriented b ns a.t (drop i.offset src)))) c.requires.image_value

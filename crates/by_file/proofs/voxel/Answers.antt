-- `voxel` meets its contract: the part that is located is inside the file that holds it (proofs/Shown.antt).
use Prim.Native.Nat.{◌+◌, ◌-◌}
use mathlib.Core.Path.{◌≡◌, sym, ap, ◌∙◌}
use native.Mathlib.Omega.{arith}
use lib.ListN.{length}
use Rattle.voxel.proofs.Theorems.{stepped_inside}
use Rattle.by_file.proofs.Shown.{passes, located_is, unlocated, part_is}
use Rattle.by_file.proofs.Voxels.{refused_empty}
use Rattle.by_file.proofs.voxel.Goals as goal

pub returns-in_default : goal.returns-in_default
returns-in_default c =
    let a = c.args in
    sym (refused_empty a.file.now a.image.now a.index _ (sym (unlocated a.file.now a.image.now a.index c.in_default.field-0 (sym c.volume.ensures ∙ c.in_default.is))))

pub locate_by-requires : goal.locate_by-requires
locate_by-requires c =
    let a = c.args in
    passes a.file.now a.image.now a.index c.in-Ok.v (sym c.volume.ensures ∙ c.in-Ok.is)

pub returns-in_default-locate_by : goal.returns-in_default-locate_by
returns-in_default-locate_by c =
    let a = c.args in
    let is = located_is a.file.now a.image.now a.index c.in-Ok.v (sym c.volume.ensures ∙ c.in-Ok.is) in
    sym (refused_empty a.file.now a.image.now a.index c.in_default-locate_by.field-0 (sym is ∙ sym c.locate_by.ensures ∙ c.in_default-locate_by.is))

pub overflow_add-end : goal.overflow_add-end
overflow_add-end c =
    let s = stepped_inside c.in-Ok.v (length c.args.image.now) c.args.index c.in-Ok-locate_by.extent (sym c.locate_by.ensures ∙ c.in-Ok-locate_by.is) in
    record { fits = omega arith }

pub slice_bounds-result-end-2 : goal.slice_bounds-result-end-2
slice_bounds-result-end-2 c =
    let a = c.args in
    let p = part_is a.file.now a.image.now a.index c.in-Ok.v (sym c.volume.ensures ∙ c.in-Ok.is) c.in-Ok-locate_by.extent (sym c.locate_by.ensures ∙ c.in-Ok-locate_by.is) in
    omega (arith, p.0, ap length c.holder.ensures)

pub returns : goal.returns
returns c =
    let a = c.args in
    let e = c.in-Ok-locate_by.extent in
    let p = part_is a.file.now a.image.now a.index c.in-Ok.v (sym c.volume.ensures ∙ c.in-Ok.is) e (sym c.locate_by.ensures ∙ c.in-Ok-locate_by.is) in
    let n : e.place + e.length - e.place ≡ e.length = omega arith in
    rw (p.1, n, c.holder.ensures)

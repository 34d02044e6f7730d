-- `backwards` meets its contract: each turn writes the voxels of one line more, right behind those that stand.
use mathlib.Core.Path.{refl, ap, ◌∙◌}
use mathlib.Core.List.{[]}
use Prim.Native.Nat.{ℕ, ◌+◌, ◌-◌, ◌*◌}
use native.Mathlib.Omega.{arith}
use lib.ListN.{length}
use Rattle.gather_row.specs.Gather.{reach, gathered}
use Rattle.gather_row.proofs.Series.{series_same}
use Rattle.gather_row.proofs.Progress.{progress_start, progress_room_for, progress_more, progress_done}
use Rattle.gather_row.proofs.Places.{gathered_snoc, inside_from}
use Rattle.gather_row.proofs.Lines.{back_of, is_back, cut_back}
use Rattle.gather_row.proofs.backwards.Goals as goal

pub loop-j-init : goal.loop-j-init
loop-j-init c =
    let a = c.args in
    let e = is_back a.axis a.b c.requires.up_value.0 c.requires.up_value.1 in
    let whole = gathered_snoc a.b a.src.now a.from [] (back_of a.axis.length a.b) in
    (refl, progress_start a.out.now a.at _ _ (rw (e, whole) at c.requires.axis_in_bounds))

pub overflow_mul-b : goal.overflow_mul-b
overflow_mul-b c =
    let v = c.loop-j in
    let a = c.args in
    let e = is_back a.axis a.b c.requires.up_value.0 c.requires.up_value.1 in
    let less = c.min-m in
    let f = cut_back a.b (length a.src.now) a.from a.axis.length v.j less.result c.requires.le_b.0 c.requires.le_b.1
    (rw e at c.requires.inside)
    (omega arith)
    (omega (arith, less.ensures)) in
    omega (arith, inside_from _ _ _ _ f.inside)

pub overflow_add-from : goal.overflow_add-from
overflow_add-from c =
    let v = c.loop-j in
    let a = c.args in
    let e = is_back a.axis a.b c.requires.up_value.0 c.requires.up_value.1 in
    let less = c.min-m in
    let f = cut_back a.b (length a.src.now) a.from a.axis.length v.j less.result c.requires.le_b.0 c.requires.le_b.1
    (rw e at c.requires.inside)
    (omega arith)
    (omega (arith, less.ensures)) in
    omega (arith, inside_from _ _ _ _ f.inside)

pub line_back-to-requires : goal.line_back-to-requires
line_back-to-requires c =
    let v = c.loop-j in
    let a = c.args in
    let e = is_back a.axis a.b c.requires.up_value.0 c.requires.up_value.1 in
    let less = c.min-m in
    let f = cut_back a.b (length a.src.now) a.from a.axis.length v.j less.result c.requires.le_b.0 c.requires.le_b.1
    (rw e at c.requires.inside)
    (omega arith)
    (omega (arith, less.ensures)) in
    let m = less.result in
    let low = a.from + a.b * (a.axis.length - v.j - m) in
    let part = gathered_snoc a.b a.src.now low [] (back_of m a.b)
    ∙ series_same _ (λ i. gathered a.b a.src.now (a.from + reach (back_of a.axis.length a.b) (v.j + i)) []) m
    (λ i h. ap (λ (p : ℕ). gathered a.b a.src.now p []) (f.place i h)) in
    let room = progress_room_for _ _ _ _ _ _ _ v.invariant.1 m f.till _ part in
    record { b_bound = (omega (arith, c.requires.le_b.1), f.line); up_value = (refl, refl); inside = f.inside; axis_in_bounds = room }

pub loop-j-preserved : goal.loop-j-preserved
loop-j-preserved c =
    let v = c.loop-j in
    let a = c.args in
    let e = is_back a.axis a.b c.requires.up_value.0 c.requires.up_value.1 in
    let less = c.min-m in
    let f = cut_back a.b (length a.src.now) a.from a.axis.length v.j less.result c.requires.le_b.0 c.requires.le_b.1
    (rw e at c.requires.inside)
    (omega arith)
    (omega (arith, less.ensures)) in
    let m = less.result in
    let low = a.from + a.b * (a.axis.length - v.j - m) in
    let part = gathered_snoc a.b a.src.now low [] (back_of m a.b)
    ∙ series_same _ (λ i. gathered a.b a.src.now (a.from + reach (back_of a.axis.length a.b) (v.j + i)) []) m
    (λ i h. ap (λ (p : ℕ). gathered a.b a.src.now p []) (f.place i h)) in
    let call = c.line_back-to.ensures in
    (v.invariant.0, progress_more _ _ _ _ _ _ _ v.invariant.1 m f.till _ _ _ call.0 part call.1)

pub returns : goal.returns
returns c =
    let v = c.loop-j in
    let a = c.args in
    let e = is_back a.axis a.b c.requires.up_value.0 c.requires.up_value.1 in
    let whole = gathered_snoc a.b a.src.now a.from [] (back_of a.axis.length a.b) in
    rw (e, whole) (progress_done _ _ _ _ _ _ _ v.invariant.1 (omega arith))

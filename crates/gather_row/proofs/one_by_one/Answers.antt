-- `one_by_one` meets its contract: each turn writes the voxel at the place right behind those that stand, and goes on to the next place.
use mathlib.Core.Path.{sym, ap, ◌∙◌}
use mathlib.Core.List.{[]}
use Prim.Native.Nat.{ℕ, ◌+◌}
use native.Mathlib.Omega.{arith}
use lib.ListN.{length, take, drop}
use Rattle.gather_row.specs.Gather.{reach}
use Rattle.gather_row.proofs.Progress.{progress_start, progress_room, progress_next, progress_done}
use Rattle.gather_row.proofs.Places.{gathered_snoc, gathered_none, inside_line, inside_some, length_none, reach_next}
use Rattle.gather_row.proofs.one_by_one.Goals as goal

pub overflow_sub-last : goal.overflow_sub-last
overflow_sub-last c =
    let a = c.args in
    let some = inside_some a.b (length a.src.now) a.from a.axis c.requires.inside in
    omega arith

pub place_of-place-requires : goal.place_of-place-requires
place_of-place-requires c =
    let a = c.args in
    let some = inside_some a.b (length a.src.now) a.from a.axis c.requires.inside in
    let fit = inside_line a.b (length a.src.now) a.from a.axis 0 c.requires.inside some in
    record { j_lt_length = omega arith; j_bound = omega arith }

pub loop-j-init : goal.loop-j-init
loop-j-init c =
    let a = c.args in
    let some = inside_some a.b (length a.src.now) a.from a.axis c.requires.inside in
    let whole = gathered_snoc a.b a.src.now a.from [] a.axis in
    let start = progress_start a.out.now a.at _ _ (rw whole at c.requires.axis_in_bounds) in
    (omega arith, c.place_of-place.ensures.0, start)

pub copy_voxel-requires : goal.copy_voxel-requires
copy_voxel-requires c =
    let v = c.loop-j in
    let a = c.args in
    let fit = inside_line a.b (length a.src.now) a.from a.axis v.j c.requires.inside (omega arith) in
    let one = length_none a.b a.src.now (a.from + reach a.axis v.j) fit in
    let room = progress_room _ _ _ _ _ _ _ v.invariant.2 (omega arith) in
    (c.requires.b_bound, (omega (arith, v.invariant.1), omega arith))

pub overflow_add-place : goal.overflow_add-place
overflow_add-place c =
    let v = c.loop-j in
    let a = c.args in
    let next = reach_next a.axis v.j (omega arith) in
    let fit = inside_line a.b (length a.src.now) a.from a.axis (v.j + 1) c.requires.inside (omega arith) in
    omega (arith, v.invariant.1)

pub overflow_add-to : goal.overflow_add-to
overflow_add-to c =
    let v = c.loop-j in
    let a = c.args in
    let fit = inside_line a.b (length a.src.now) a.from a.axis v.j c.requires.inside (omega arith) in
    let one = length_none a.b a.src.now (a.from + reach a.axis v.j) fit in
    let room = progress_room _ _ _ _ _ _ _ v.invariant.2 (omega arith) in
    omega arith

pub loop-j-preserved : goal.loop-j-preserved
loop-j-preserved c =
    let v = c.loop-j in
    let a = c.args in
    let next = reach_next a.axis v.j (omega arith) in
    let fit = inside_line a.b (length a.src.now) a.from a.axis v.j c.requires.inside (omega arith) in
    let one = length_none a.b a.src.now (a.from + reach a.axis v.j) fit in
    let place = ap (λ (i : ℕ). take a.b (drop i a.src.now)) v.invariant.1 in
    let part = place ∙ sym (gathered_none a.b a.src.now (a.from + reach a.axis v.j)) in
    let call = c.copy_voxel.ensures in
    let more = progress_next _ _ _ _ _ _ _ v.invariant.2 (omega arith) _ _ (v.to + a.b) call part (omega arith) in
    (v.invariant.0, omega (arith, v.invariant.1), more)

pub copy_voxel-requires-2 : goal.copy_voxel-requires-2
copy_voxel-requires-2 c =
    let v = c.loop-j in
    let a = c.args in
    let fit = inside_line a.b (length a.src.now) a.from a.axis v.j c.requires.inside (omega arith) in
    let one = length_none a.b a.src.now (a.from + reach a.axis v.j) fit in
    let room = progress_room _ _ _ _ _ _ _ v.invariant.2 (omega arith) in
    (c.requires.b_bound, (omega (arith, v.invariant.1), omega arith))

pub overflow_add-result : goal.overflow_add-result
overflow_add-result c =
    let v = c.loop-j in
    let a = c.args in
    let fit = inside_line a.b (length a.src.now) a.from a.axis v.j c.requires.inside (omega arith) in
    let one = length_none a.b a.src.now (a.from + reach a.axis v.j) fit in
    let room = progress_room _ _ _ _ _ _ _ v.invariant.2 (omega arith) in
    omega arith

pub returns : goal.returns
returns c =
    let v = c.loop-j in
    let a = c.args in
    let fit = inside_line a.b (length a.src.now) a.from a.axis v.j c.requires.inside (omega arith) in
    let one = length_none a.b a.src.now (a.from + reach a.axis v.j) fit in
    let place = ap (λ (i : ℕ). take a.b (drop i a.src.now)) v.invariant.1 in
    let part = place ∙ sym (gathered_none a.b a.src.now (a.from + reach a.axis v.j)) in
    let call = c.copy_voxel-2.ensures in
    let all = progress_next _ _ _ _ _ _ _ v.invariant.2 (omega arith) _ _ (v.to + a.b) call part (omega arith) in
    rw (gathered_snoc a.b a.src.now a.from [] a.axis) (progress_done _ _ _ _ _ _ _ all (omega arith))

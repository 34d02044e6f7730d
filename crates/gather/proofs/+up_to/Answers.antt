-- `up_to` meets its contract: the blocks of an axis, one after another, are the whole.
use Rattle.std.proofs.Common.{◌≡◌, refl, ap, ◌∙◌, List, ℕ, ◌+◌, ◌-◌, ◌≤◌, length, take, get_or, arith}
use Rattle.gather_row.specs.declared.Axis.{Axis}
use Rattle.gather_row.specs.Gather.{reach, gathered}
use Rattle.gather_row.proofs.Progress.{progress_start, progress_room, progress_next, progress_done}
use Rattle.gather_row.proofs.Places.{gathered_snoc, inside_block, inside_from, axis_more}
use Rattle.gather.proofs.+up_to.Goals as goal

-- what `get_or` answers past the end
abbrev none : Axis
none = record { length = 0; up = 0; down = 0 }

pub loop-j-init : goal.loop-j-init
loop-j-init t c =
    let a = c.args in
    let more = axis_more a.axes a.k none (omega (arith, c.requires.le_k.1)) in
    let whole = gathered_snoc a.b a.src.now a.from (take a.k a.axes) (get_or a.axes a.k none) in
    (more, progress_start a.out.now a.at _ _ (rw (more, whole) at c.requires.axes_in_bounds), refl)

pub place_of-requires-clause-j_bound : goal.place_of-requires-clause-j_bound
place_of-requires-clause-j_bound t c =
    let v = c.loop-j in
    let a = c.args in
    let x = get_or a.axes a.k none in
    let whole = rw v.invariant.0 at c.requires.inside in
    let block = inside_block a.b (length a.src.now) a.from (take a.k a.axes) x v.j whole (omega arith) in
    omega (arith, inside_from _ _ _ _ block)

pub up_to-to-requires : goal.up_to-to-requires
up_to-to-requires t c =
    let v = c.loop-j in
    let a = c.args in
    let x = get_or a.axes a.k none in
    let whole = rw v.invariant.0 at c.requires.inside in
    let block = inside_block a.b (length a.src.now) a.from (take a.k a.axes) x v.j whole (omega arith) in
    let room = progress_room _ _ _ _ _ _ _ v.invariant.1 (omega arith) in
    let less : 3 ≤ a.k = omega (arith, c.requires.le_k.0, c.if-k-eq2.false) in
    let back : a.k - 1 + 1 ≡ a.k = omega arith in
    let place = c.place_of.ensures.0 in (
      omega (arith, c.decreases),
      (
        (omega arith, omega (arith, c.requires.le_k.1)),
        (
          (c.requires.b_bound.0, omega (arith, c.requires.b_bound.1, v.invariant.2)),
          (rw (place, back) block, rw (place, back) room),
        ),
      ),
    )

pub loop-j-preserved : goal.loop-j-preserved
loop-j-preserved t c =
    let v = c.loop-j in
    let a = c.args in
    let x = get_or a.axes a.k none in
    let from = c.place_of in
    let call = c.up_to-to.ensures in
    let back : a.k - 1 + 1 ≡ a.k = omega (arith, c.requires.le_k.0) in
    let same : gathered a.b a.src.now from.result (take (a.k - 1 + 1) a.axes)
    ≡ gathered a.b a.src.now (a.from + reach x v.j) (take a.k a.axes) = rw (from.ensures.0, back) in
    let behind = call.1 ∙ ap (λ (l : List ℕ). v.to + length l) same in
    let more = progress_next _ _ _ _ _ _ _ v.invariant.1 (omega arith) _ _ _ call.0 same behind in
    (v.invariant.0, more, omega (arith, v.invariant.2))

pub returns : goal.returns
returns t c =
    let a = c.args in
    let v = c.loop-j in
    let whole = gathered_snoc a.b a.src.now a.from (take a.k a.axes) (get_or a.axes a.k none) in
    rw (v.invariant.0, whole) (progress_done _ _ _ _ _ _ _ v.invariant.1 (omega arith))

-- `rows` meets its contract: each turn lays one row more.
use mathlib.Core.Path.{refl, ap}
use mathlib.Core.List.{[], ◌∷◌}
use Prim.Native.Nat.{ℕ, ◌+◌, ◌-◌}
use native.Mathlib.Nat.{mul-le-mul_left}
use native.Mathlib.Omega.{arith}
use lib.ListN.{length}
use Rattle.gather_row.specs.Gather.{reach, gathered}
use Rattle.gather_row.proofs.Places.{inside_row, inside_from, length-row}
use Rattle.gather.proofs.Laid.{laid_start, laid_next}
use Rattle.gather.proofs.rows.Goals as goal

pub loop-j-init : goal.loop-j-init
loop-j-init c = (laid_start _ _ _ _, refl)

pub place_of-requires : goal.place_of-requires
place_of-requires c =
    let v = c.loop-j in
    let a = c.args in
    let row = inside_row a.b (length a.src.now) a.from a.x a.y c.requires.inside v.j (omega arith) in
    record { j_lt_length = omega arith; j_bound = omega (arith, inside_from _ _ _ _ row) }

pub row-requires : goal.row-requires
row-requires c =
    let v = c.loop-j in
    let a = c.args in
    let row = inside_row a.b (length a.src.now) a.from a.x a.y c.requires.inside v.j (omega arith) in
    let below = mul-le-mul_left {m = v.j} {n = a.y.length - 1} a.pitch (omega arith) in
    let len = length-row a.b a.src.now (a.from + reach a.y v.j) a.x row in
    let from = c.place_of.ensures.0 in
    record { b_bound = c.requires.b_bound; inside = rw from row; axis_in_bounds = rw from (omega (arith, v.invariant.1)) }

pub loop-j-preserved : goal.loop-j-preserved
loop-j-preserved c =
    let v = c.loop-j in
    let a = c.args in
    let place = c.place_of.ensures.0 in
    let same = ap (λ (i : ℕ). gathered a.b a.src.now i (a.x ∷ [])) place in
    let more = laid_next a.at a.pitch _ v.j _ _ _ _ v.invariant.0 c.row.ensures.0 same in
    (more, omega (arith, v.invariant.1))

-- `planes` meets its contract: each turn lays one plane more.
use mathlib.Core.Path.{refl, ap, ◌∙◌}
use mathlib.Core.List.{List, [], ◌∷◌}
use Prim.Native.Nat.{ℕ, ◌+◌, ◌-◌, ◌*◌}
use native.Mathlib.Nat.{mul-le-mul_left}
use native.Mathlib.Omega.{arith}
use Rattle.gather_row.specs.Gather.{reach, gathered}
use Rattle.gather.specs.Rows.{laid}
use Rattle.gather_row.proofs.Places.{inside_from}
use Rattle.gather.proofs.Laid.{stacked_start, stacked_next}
use Rattle.gather.proofs.planes.Goals as goal

pub loop-k-init : goal.loop-k-init
loop-k-init c = (stacked_start _ _ _ _ _ _, refl, refl)

pub place_of-requires : goal.place_of-requires
place_of-requires c =
    let v = c.loop-k in
    let a = c.args in
    let whole = c.requires.by_index v.k (omega arith) in
    record { j_lt_length = omega arith; j_bound = omega (arith, inside_from _ _ _ _ whole) }

pub plane-requires : goal.plane-requires
plane-requires c =
    let v = c.loop-k in
    let a = c.args in
    let whole = c.requires.by_index v.k (omega arith) in
    let below = mul-le-mul_left {m = v.k} {n = a.z.length - 1} a.lift (omega arith) in
    record {
      b_bound = (c.requires.b_bound.0, omega (arith, v.invariant.2));
      inside = rw c.place_of.ensures.0 whole;
      b_in_bounds = omega (arith, v.invariant.1);
    }

pub loop-k-preserved : goal.loop-k-preserved
loop-k-preserved c =
    let v = c.loop-k in
    let a = c.args in
    let place = c.place_of.ensures.0 in
    let row : ℕ → ℕ → List ℕ = λ p j. gathered a.b a.src.now (p + reach a.y j) (a.x ∷ []) in
    let same = ap (λ (p : ℕ). laid (a.at + a.lift * v.k) a.pitch (row p) a.y.length v.out) place in
    let turn = c.plane.ensures ∙ same in
    let more = stacked_next a.at a.lift a.pitch _ a.y.length v.k a.out.now v.out _ v.invariant.0 turn in
    (more, omega (arith, v.invariant.1), omega (arith, v.invariant.2))

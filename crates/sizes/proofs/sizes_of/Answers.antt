-- `sizes_of` meets its contract: after k turns the array has the steps of axes 1 to k, and `step` is the next one.
use mathlib.Core.Path.{◌≡◌, refl, sym, ap, ◌∙◌}
use Prim.Native.Nat.{ℕ, ◌-◌}
use mathlib.Core.List.{◌++◌, append-nil}
use native.Mathlib.Omega.{arith}
use native.Mathlib.Numerals.{add-one}
use lib.ListN.{replicate}
use Rattle.grid.specs.Sizes.{step_after, steps_to, sizes_by}
use Rattle.grid.proofs.Steps.{first_step_lem, next_step, step_small, last_step, steps_next}
use Rattle.sizes.proofs.sizes_of.Goals as goal

pub loop-k-init : goal.loop-k-init
unfolding steps_to
loop-k-init c = (sym (first_step_lem c.args.dim.now c.args.n c.args.bytes), refl)

pub next_step-after-requires : goal.next_step-after-requires
next_step-after-requires c =
    let l = c.loop-k in
    let a = c.args in
    rw (l.invariant.0, add-one l.k) (λ e. step_small a.dim.now a.n a.bytes c.requires l.k e)

pub loop-k-preserved : goal.loop-k-preserved
loop-k-preserved c =
    let l = c.loop-k in
    let a = c.args in
    let dim = a.dim.now in (
      c.next_step-after.ensures ∙ rw (l.invariant.0, add-one l.k) (next_step dim a.n a.bytes l.k),
      rw (l.invariant.0, l.invariant.1, add-one l.k) (steps_next dim a.n a.bytes l.k (omega arith)),
    )

pub returns : goal.returns
unfolding sizes_by
returns c =
    let l = c.loop-k in
    let a = c.args in
    let dim = a.dim.now in
    let end : l.k ≡ 7 = omega arith in
    let total = l.invariant.0 ∙ ap (step_after dim a.n a.bytes) end ∙ last_step dim a.n a.bytes c.requires in
    let steps =
    l.invariant.1
    ∙ ap (λ (k : ℕ). steps_to dim a.n a.bytes k ++ replicate (7 - k) 0) end
    ∙ append-nil (steps_to dim a.n a.bytes 7) in
    λ i. record { total = total i; steps = steps i }

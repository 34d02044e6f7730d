-- `bytes_before` meets its contract: what is left of the index, from axis k on, decides whether it is inside; and the sum so far, with what
-- is left, is right as far as rule 10 asks, each product being small.
use mathlib.Core.Path.{◌≡◌, refl, sym, ap, ◌∙◌}
use mathlib.Core.Bool.{true, false, ◌&&◌, false≢true}
use Prim.Native.Nat.{ℕ, ◌+◌, ◌*◌, ◌<◌, ◌≤◌}
use native.Mathlib.Omega.{arith}
use native.Mathlib.Nat.{add-zero, mul-le-mul}
use lib.Dec.{ltb}
use lib.ListN.{get_or, drop}
use borrow.Author.Tests.{le-ltb, lt-ltb}
use Rattle.grid.specs.Grid.{within}
use Rattle.grid.specs.Axes.{image_limit, capped, seven_axes}
use Rattle.grid.specs.Sizes.{bytes_before}
use Rattle.grid.proofs.Bounds.{seven_length}
use Rattle.grid.proofs.Limit.{capped-sum}
use Rattle.grid.proofs.Steps.{before_next, before_end}
use Rattle.grid.proofs.Voxels.{within_next, within_end}
use Rattle.sizes.proofs.bytes_before.Goals as goal

-- one product more
more : (k sum p : ℕ) → sum ≤ k * (32767 * (image_limit + 1)) → p ≤ 32767 * (image_limit + 1) → sum + p ≤ (k + 1) * (32767 * (image_limit + 1))
more k sum p h g = omega arith

pub returns-then-length_after-i : goal.returns-then-length_after-i
returns-then-length_after-i c =
    let next : let a = c.args in let k = c.loop-k.k in let l = seven_axes a.dim.now a.n in within l a.index.now ≡ (ltb (get_or a.index.now k 0) c.length_after.result && within (drop (k + 1) l) (drop (k + 1) a.index.now)) =
    let a = c.args in
    let l = seven_axes a.dim.now a.n in
    let seven = seven_length a.dim.now a.n c.requires.0 in
    let few = c.requires.2 in
    c.loop-k.invariant.1
    ∙ within_next l a.index.now c.loop-k.k (omega arith) (omega arith)
    ∙ rw (← c.length_after.ensures.0) in
    let a = c.args in
    let out : within (seven_axes a.dim.now a.n) a.index.now ≡ false = rw (next, le-ltb _ _ c.if-length_after-i.true) in
    record { outside = λ _. refl; inside = λ w. absurd (false≢true (sym out ∙ w)); small = λ w. absurd (false≢true (sym out ∙ w)) }

pub loop-k-preserved : goal.loop-k-preserved
loop-k-preserved c =
    let next : let a = c.args in let k = c.loop-k.k in let l = seven_axes a.dim.now a.n in within l a.index.now ≡ (ltb (get_or a.index.now k 0) c.length_after.result && within (drop (k + 1) l) (drop (k + 1) a.index.now)) =
    let a = c.args in
    let l = seven_axes a.dim.now a.n in
    let seven = seven_length a.dim.now a.n c.requires.0 in
    let few = c.requires.2 in
    c.loop-k.invariant.1
    ∙ within_next l a.index.now c.loop-k.k (omega arith) (omega arith)
    ∙ rw (← c.length_after.ensures.0) in
    let product : let a = c.args in get_or a.index.now c.loop-k.k 0 * c.limited.result ≤ 32767 * (image_limit + 1) =
    let e = c.limited.ensures in
    let i = c.if-length_after-i.false in
    mul-le-mul {n₂ = 32767} {m₂ = image_limit + 1} (omega (arith, c.length_after.ensures.1)) (omega arith) in
    let steps = c.args.steps.now in
    let index = c.args.index.now in
    let k = c.loop-k.k in
    let seven = c.requires.1 in
    let few = c.requires.2 in
    let below : get_or index k 0 < c.length_after.result = omega arith in
    let left = bytes_before (drop (k + 1) steps) (drop (k + 1) index) in
    let split = before_next steps index k (omega arith) (omega arith) in (
      more k c.loop-k.sum _ c.loop-k.invariant.0 product,
      next ∙ rw (lt-ltb _ _ below),
      rw c.limited.ensures (capped-sum c.loop-k.sum (get_or index k 0) (get_or steps k 0) left)
          ∙ ap (λ (m : ℕ). capped (c.loop-k.sum + m)) (sym split)
          ∙ c.loop-k.invariant.2,
    )

pub returns : goal.returns
returns c =
    let a = c.args in
    let steps = a.steps.now in
    let index = a.index.now in
    let l = seven_axes a.dim.now a.n in
    let end : c.loop-k.k ≡ 7 = omega (arith, c.requires.2) in
    let seven = seven_length a.dim.now a.n c.requires.0 in
    let inside : within l index ≡ true =
    c.loop-k.invariant.1 ∙ within_end l index c.loop-k.k (omega arith) (omega (arith, c.requires.2)) in
    let none = before_end steps index c.loop-k.k (omega (arith, c.requires.1)) in
    record {
      outside = λ w. absurd (false≢true (sym w ∙ inside));
      inside = λ _. rw (none, add-zero) at c.loop-k.invariant.2;
      small = λ _. rw end at c.loop-k.invariant.0;
    }

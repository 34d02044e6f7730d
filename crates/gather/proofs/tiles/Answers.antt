-- `tiles` meets its contract: each turn lays the rows of one tile more.
use mathlib.Core.Path.{◌≡◌, refl, ap, ◌∙◌}
use mathlib.Core.List.{[], ◌∷◌}
use Prim.Native.Nat.{ℕ, ◌+◌, ◌-◌, ◌*◌, ◌<◌}
use native.Mathlib.Nat.{mul-le-mul_left, mul-add}
use native.Mathlib.Omega.{arith}
use lib.ListN.{length}
use Rattle.gather_row.specs.Gather.{reach, gathered}
use Rattle.gather_row.proofs.Places.{inside_from}
use Rattle.gather.proofs.Laid.{laid_start, laid_same, laid_more}
use Rattle.gather_row.proofs.Lines.{part_of, reach_part}
use Rattle.gather.proofs.Runs.{cut}
use Rattle.gather.proofs.tiles.Goals as goal

pub loop-j-init : goal.loop-j-init
loop-j-init c = (refl, refl, laid_start _ _ _ _, omega arith, refl, refl)

pub overflow_mul-low : goal.overflow_mul-low
overflow_mul-low c =
    let v = c.loop-j in
    let a = c.args in
    let less = c.min-m in
    let f = cut a.b (length a.src.now) a.from a.x a.y v.j less.result c.requires.tiled.0 c.requires.tiled.1.0 c.requires.inside
    (omega arith)
    (omega (arith, less.ensures)) in
    let fit = inside_from _ _ _ _ f.inside in
    omega arith

pub overflow_mul-low-in-loop-j : goal.overflow_mul-low-in-loop-j
overflow_mul-low-in-loop-j c =
    let v = c.loop-j in
    let a = c.args in
    let less = c.min-m in
    let f = cut a.b (length a.src.now) a.from a.x a.y v.j less.result c.requires.tiled.0 c.requires.tiled.1.0 c.requires.inside
    (omega arith)
    (omega (arith, less.ensures)) in
    let fit = inside_from _ _ _ _ f.inside in
    omega arith

pub overflow_add-low : goal.overflow_add-low
overflow_add-low c =
    let v = c.loop-j in
    let a = c.args in
    let less = c.min-m in
    let f = cut a.b (length a.src.now) a.from a.x a.y v.j less.result c.requires.tiled.0 c.requires.tiled.1.0 c.requires.inside
    (omega arith)
    (omega (arith, less.ensures)) in
    let fit = inside_from _ _ _ _ f.inside in
    omega arith

pub overflow_add-low-in-loop-j : goal.overflow_add-low-in-loop-j
overflow_add-low-in-loop-j c =
    let v = c.loop-j in
    let a = c.args in
    let less = c.min-m in
    let f = cut a.b (length a.src.now) a.from a.x a.y v.j less.result c.requires.tiled.0 c.requires.tiled.1.0 c.requires.inside
    (omega arith)
    (omega (arith, less.ensures)) in
    let fit = inside_from _ _ _ _ f.inside in
    omega arith

pub tile-requires : goal.tile-requires
tile-requires c =
    let v = c.loop-j in
    let a = c.args in
    let less = c.min-m in
    let f = cut a.b (length a.src.now) a.from a.x a.y v.j less.result c.requires.tiled.0 c.requires.tiled.1.0 c.requires.inside
    (omega arith)
    (omega (arith, less.ensures)) in
    let m = less.result in
    let room = mul-le-mul_left {m = v.j + (m - 1)} {n = a.y.length - 1} a.pitch (omega (arith, f.till, f.some)) in
    record { tiled = (f.tiled, (c.requires.tiled.1.0, (f.line, omega (arith, v.invariant.5)))); inside = f.inside; b_in_bounds = omega (arith, mul-add a.pitch v.j (m - 1), v.invariant.4) }

pub loop-j-preserved : goal.loop-j-preserved
loop-j-preserved c =
    let v = c.loop-j in
    let a = c.args in
    let less = c.min-m in
    let f = cut a.b (length a.src.now) a.from a.x a.y v.j less.result c.requires.tiled.0 c.requires.tiled.1.0 c.requires.inside
    (omega arith)
    (omega (arith, less.ensures)) in
    let m = less.result in
    let low = a.from + (a.y.up * v.j + a.y.down * (a.y.length - v.j - m)) in
    let place : (i : ℕ) → i < m → low + reach (part_of a.y m) i ≡ a.from + reach a.y (v.j + i) =
    λ i l. omega (arith, reach_part a.y v.j m i f.till l) in
    let same = laid_same (a.at + a.pitch * v.j) a.pitch _ _ m v.out
    (λ i l. ap (λ (p : ℕ). gathered a.b a.src.now p (a.x ∷ [])) (place i l)) in
    let more = laid_more a.at a.pitch (λ q. gathered a.b a.src.now (a.from + reach a.y q) (a.x ∷ [])) v.j m a.out.now in
    let call = c.tile.ensures in
    (v.invariant.0, v.invariant.1, call ∙ same ∙ rw (more, v.invariant.2), omega (arith, f.till), omega (arith, v.invariant.4), omega (arith, v.invariant.5))

-- `tile` meets its contract: a row from the tile is the row from the source.
use mathlib.Core.Path.{◌∙◌}
use Prim.Native.Nat.{◌*◌, ◌≤◌}
use native.Mathlib.Nat.{mul-le-mul}
use native.Mathlib.Omega.{arith}
use lib.ListN.{length}
use Rattle.gather_row.proofs.Places.{length-row}
use Rattle.gather.proofs.Laid.{laid_same}
use Rattle.gather.proofs.Runs.{inside_run, inside_tile, row_by_tile}
use Rattle.gather.proofs.tile.Goals as goal

pub by_width-requires : goal.by_width-requires
by_width-requires c =
    let a = c.args in
    let runs = inside_run a.b a.x a.y c.requires.tiled.0 a.from (length a.src.now) c.requires.inside in
    let len = length-row (a.y.length * a.b) a.src.now a.from a.x runs in
    let fit : a.x.length * (a.y.length * a.b) ≤ 1024 * 64 = mul-le-mul c.requires.tiled.0.narrow c.requires.tiled.1.1.0 in
    record { b_bound = c.requires.tiled.1.1.0; inside = runs; axis_in_bounds = omega arith }

pub rows-requires : goal.rows-requires
rows-requires c =
    let a = c.args in
    let fit : a.x.length * (a.y.length * a.b) ≤ 1024 * 64 = mul-le-mul c.requires.tiled.0.narrow c.requires.tiled.1.1.0 in
    record { b_bound = omega arith; inside = inside_tile a.b a.x a.y c.requires.tiled.0 a.from (length a.src.now) c.requires.inside _ (omega arith); b_in_bounds = c.requires.b_in_bounds }

pub returns : goal.returns
returns c =
    let a = c.args in
    let filled = c.by_width.ensures.0 in
    let same = row_by_tile a.b a.x a.y c.requires.tiled.0 a.from a.src.now _ _ c.requires.inside filled in
    c.rows.ensures ∙ laid_same a.at a.pitch _ _ a.y.length a.out.now same

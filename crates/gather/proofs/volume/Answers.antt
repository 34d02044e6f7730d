-- `volume` meets its contract: in either order all the rows are laid.
use mathlib.Core.Path.{◌∙◌}
use native.Mathlib.Omega.{arith}
use Rattle.gather.proofs.Order.{whole_length, sizes, inside_plane, inside_across, in_order_lem, across}
use Rattle.gather.proofs.volume.Goals as goal

pub overflow_mul-pitch : goal.overflow_mul-pitch
overflow_mul-pitch c =
    let a = c.args in
    let len = whole_length a.b a.src.now a.from a.x a.y a.z c.requires.inside in
    let size = sizes a.b a.src.now a.from a.x a.y a.z c.requires.inside in
    omega arith

pub overflow_mul-lift : goal.overflow_mul-lift
overflow_mul-lift c =
    let a = c.args in
    let len = whole_length a.b a.src.now a.from a.x a.y a.z c.requires.inside in
    let size = sizes a.b a.src.now a.from a.x a.y a.z c.requires.inside in
    omega arith

pub overflow_mul-end : goal.overflow_mul-end
overflow_mul-end c =
    let a = c.args in
    let len = whole_length a.b a.src.now a.from a.x a.y a.z c.requires.inside in
    let size = sizes a.b a.src.now a.from a.x a.y a.z c.requires.inside in
    omega arith

pub overflow_add-end : goal.overflow_add-end
overflow_add-end c =
    let a = c.args in
    let len = whole_length a.b a.src.now a.from a.x a.y a.z c.requires.inside in
    let size = sizes a.b a.src.now a.from a.x a.y a.z c.requires.inside in
    omega arith

pub planes-requires : goal.planes-requires
planes-requires c =
    let a = c.args in
    let len = whole_length a.b a.src.now a.from a.x a.y a.z c.requires.inside in
    let size = sizes a.b a.src.now a.from a.x a.y a.z c.requires.inside in
    record { b_bound = c.requires.b_bound; by_index = inside_across a.b a.src.now a.from a.x a.y a.z c.requires.inside; b_in_bounds = omega arith }

pub returns-then-is_tiled : goal.returns-then-is_tiled
returns-then-is_tiled c =
    let a = c.args in
    let len = whole_length a.b a.src.now a.from a.x a.y a.z c.requires.inside in
    let size = sizes a.b a.src.now a.from a.x a.y a.z c.requires.inside in
    let all = across a.b a.src.now a.from a.x a.y a.z c.requires.inside a.out.now a.at c.requires.z_in_bounds in
    (c.planes.ensures ∙ all, omega arith)

pub planes-requires-2 : goal.planes-requires-2
planes-requires-2 c =
    let a = c.args in
    let len = whole_length a.b a.src.now a.from a.x a.y a.z c.requires.inside in
    let size = sizes a.b a.src.now a.from a.x a.y a.z c.requires.inside in
    record { b_bound = c.requires.b_bound; by_index = inside_plane a.b a.src.now a.from a.x a.y a.z c.requires.inside; b_in_bounds = omega arith }

pub returns : goal.returns
returns c =
    let a = c.args in
    let len = whole_length a.b a.src.now a.from a.x a.y a.z c.requires.inside in
    let size = sizes a.b a.src.now a.from a.x a.y a.z c.requires.inside in
    let all = in_order_lem a.b a.src.now a.from a.x a.y a.z c.requires.inside a.out.now a.at c.requires.z_in_bounds in
    (c.planes-2.ensures ∙ all, omega arith)

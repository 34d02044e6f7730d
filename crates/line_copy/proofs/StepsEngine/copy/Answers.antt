-- `Steps::copy` meets its contract: what lies along the course is the line (proofs/Engines.antt).
use mathlib.Core.Path.{refl}
use native.Mathlib.Omega.{arith}
use lib.ListN.{length}
use Rattle.line_copy.proofs.Engines.{line_room, course_inside, course_gathers}
use Rattle.line_copy.proofs.StepsEngine.copy.Goals as goal

pub by_steps-requires : goal.by_steps-requires
by_steps-requires c =
    let a = c.args in
    let l = c.requires.lies in
    let inside = course_inside a._v a.src.now a._image a._axis a._index (length a.out.now) l in
    let gathers = course_gathers a._v a.src.now a._image a._axis a._index (length a.out.now) l in
    let room = line_room a._v a.src.now a._image a._axis a._index (length a.out.now) l in
    rw (← c.requires.index_value) (record { bytes_bound = (omega (arith, l.wide), refl); inside = inside; axis_in_bounds = rw gathers room })

pub returns : goal.returns
returns c =
    let a = c.args in
    let gathers = course_gathers a._v a.src.now a._image a._axis a._index (length a.out.now) c.requires.lies in
    rw (← c.requires.index_value, gathers) at c.by_steps.ensures

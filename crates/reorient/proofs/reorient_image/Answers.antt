-- `reorient_image` meets its contract: what is gathered by the new axes is the turned image (proofs/Gathering.antt).
use mathlib.Core.Path.{◌≡◌, ap, ◌∙◌}
use mathlib.Core.List.{List}
use native.Mathlib.Omega.{arith}
use Rattle.gather_row.specs.declared.Axis.{Axis}
use Rattle.reorient.specs.Reorient.{permuted, reversals, no_axis, old_axes}
use Rattle.reorient.proofs.Gathering.{Sweeps, sweeps}
use Rattle.reorient.proofs.Axes.{all_seven}
use Rattle.reorient.proofs.reorient_image.Goals as goal

pub gather-requires : goal.gather-requires
gather-requires c =
    let all : let a = c.args in Sweeps a.lengths a.b a.t a.src.now a.from =
    let a = c.args in
    sweeps a.lengths _ _ _ _ a.b a.t a.src.now a.from (all_seven a.lengths 0 (omega arith))
    c.requires.t_value c.requires.lengths_nonzero c.requires.lengths_in_bounds in
    let made : let a = c.args in c.new_axes-axes.result ≡ permuted no_axis a.t (old_axes a.b (reversals a.t) a.lengths) =
    c.new_axes-axes.ensures ∙ ap (λ (xs : List Axis). permuted no_axis c.args.t xs) c.old_axes-old.ensures in
    let w = all in
    record { b_bound = c.requires.b_bound; inside = rw made w.inside; axes_in_bounds = rw (made, w.image, w.size) c.requires.lengths_in_bounds_2 }

pub returns : goal.returns
returns c =
    let all : let a = c.args in Sweeps a.lengths a.b a.t a.src.now a.from =
    let a = c.args in
    sweeps a.lengths _ _ _ _ a.b a.t a.src.now a.from (all_seven a.lengths 0 (omega arith))
    c.requires.t_value c.requires.lengths_nonzero c.requires.lengths_in_bounds in
    let made : let a = c.args in c.new_axes-axes.result ≡ permuted no_axis a.t (old_axes a.b (reversals a.t) a.lengths) =
    c.new_axes-axes.ensures ∙ ap (λ (xs : List Axis). permuted no_axis c.args.t xs) c.old_axes-old.ensures in
    rw (made, all.image) at c.gather.ensures

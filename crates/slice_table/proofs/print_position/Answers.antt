-- A position's values are finite.
use Rattle.std.proofs.Common.{sym, ◌∙◌}
use Rattle.slice_position.proofs.Positions.{file_position_finite}
use Rattle.slice_table.proofs.print_position.Goals as goal

pub pattern-x-requires : goal.pattern-x-requires
pattern-x-requires g c =
    (file_position_finite c.args.file.now c.args.i c.args.j c.args.k _ (sym c.position_of.ensures ∙ c.in-Ok.is)).0

pub pattern-y-requires : goal.pattern-y-requires
pattern-y-requires g c =
    (file_position_finite c.args.file.now c.args.i c.args.j c.args.k _ (sym c.position_of.ensures ∙ c.in-Ok.is)).1

pub pattern-z-requires : goal.pattern-z-requires
pattern-z-requires g c =
    (file_position_finite c.args.file.now c.args.i c.args.j c.args.k _ (sym c.position_of.ensures ∙ c.in-Ok.is)).2

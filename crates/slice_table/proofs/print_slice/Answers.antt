-- A timed answer's time is finite.
use Rattle.std.proofs.Common.{Ok, ap, sym, ◌∙◌}
use Rattle.slice_position.proofs.Slices.{file_time_finite}
use Rattle.slice_table.proofs.print_slice.Goals as goal

pub pattern-requires : goal.pattern-requires
pattern-requires g c = file_time_finite c.args.file.now c.args.s _ _ (sym c.slice_at.ensures ∙ c.in-Ok-Timed.is ∙ ap Ok c.in-Ok-Timed.field-0-is)

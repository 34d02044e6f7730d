-- `answer` meets its contract.
use mathlib.Core.Path.{sym, ◌∙◌}
use mathlib.Core.Bool.{false≢true}
use Rattle.layout.specs.File.{checked_in}
use Rattle.layout.proofs.Checking.{checked_measured, checked_aligned}
use Rattle.outline.proofs.Outlines.{checked_shown, checked_hidden}
use Rattle.piece_reader.specs.Answer.{answer_of}
use borrow.Author.Rules.{rules}
use Rattle.piece_reader.proofs.answer.Goals as goal

pub outline_in-requires : goal.outline_in-requires
outline_in-requires c = (search rules, λ e. absurd (false≢true e))

pub listed-requires : goal.listed-requires
listed-requires c =
    let s = c.args.pieces in
    let fits = checked_shown (checked_in s.front s.taken) _ (sym c.outline_in.ensures ∙ c.in-Ok.is) in
    record { in_bounds = search rules; measured = checked_measured s.front s.taken _ fits; front_value = checked_aligned s.front s.taken _ fits }

pub returns-in-Err : goal.returns-in-Err
unfolding answer_of
returns-in-Err c =
    let s = c.args.pieces in
    let e = checked_hidden (checked_in s.front s.taken) _ (sym c.outline_in.ensures ∙ c.in-Err.is) in
    search rules

pub returns-in-Ok : goal.returns-in-Ok
unfolding answer_of
returns-in-Ok c =
    let s = c.args.pieces in
    let e = checked_shown (checked_in s.front s.taken) _ (sym c.outline_in.ensures ∙ c.in-Ok.is) in
    search rules

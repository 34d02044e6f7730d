-- `sform_of` meets its contract: a file's refusal, and else the fields that its outline finds.
use Rattle.std.proofs.Common.{Ok, Err, sym, ap, ◌∙◌, rules}
use Rattle.outline.proofs.Outlines.{hidden_answer, shown_answer, shown_long}
use Rattle.slice_position.specs.Files.{sform_at}
use Rattle.slice_position.proofs.Shown.{shown_sform}
use Rattle.slice_position.proofs.sform_of.Goals as goal

pub sform_in-requires : goal.sform_in-requires
sform_in-requires c = shown_long c.args.file.now 0 _ (sym c.outline_of.ensures ∙ c.in_ok-outline.was)

pub returns-in_err-outline : goal.returns-in_err-outline
unfolding sform_at
returns-in_err-outline c =
    rw (← hidden_answer c.args.file.now 0 _ Err _ (sym c.outline_of.ensures ∙ c.in_err-outline.was)) (search rules)

pub returns : goal.returns
unfolding sform_at
returns c =
    let file = c.args.file.now in
    let shown = sym c.outline_of.ensures ∙ c.in_ok-outline.was in
    ap Ok (c.sform_in.ensures ∙ shown_sform file _ shown) ∙ shown_answer file 0 _ Err _ shown

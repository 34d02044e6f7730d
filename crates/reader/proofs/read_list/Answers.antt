-- `read_list` meets its contract: the list's answer decides, by the laws of proofs/Answers.antt.
use mathlib.Core.Path.{◌∙◌}
use lib.ListN.{length}
use Rattle.layout.proofs.Checking.{checked_measured, checked_aligned}
use Rattle.reader.proofs.Answers.{reads_refused, reads_accepted}
use Rattle.reader.proofs.read_list.Goals as goal

pub accepted-requires : goal.accepted-requires
accepted-requires c =
    let s = c.args.file.now in
    record { measured = checked_measured s (length s) c.args.layout c.requires; file_value = checked_aligned s (length s) c.args.layout c.requires }

pub returns-in-Err : goal.returns-in-Err
returns-in-Err c =
    c.refused.ensures
    ∙ reads_refused c.args.file.now c.args.layout c.requires c.list_in-listing.result c.list_in-listing.ensures c.in-Err.r c.in-Err.is

pub returns-in-Ok : goal.returns-in-Ok
returns-in-Ok c =
    c.accepted.ensures
    ∙ reads_accepted c.args.file.now c.args.layout c.requires c.list_in-listing.result c.list_in-listing.ensures c.in-Ok.is

-- `extension_answer` meets its contract: of any state the answer's count is within the limit.
use Rattle.std.proofs.Common.{◌≤◌, sym, subst}
use Rattle.extension.specs.Walk.{extension_limit}
use Rattle.piece_reader.proofs.Answers.{count_few}
use Rattle.piece_answers.proofs.extension_answer.Goals as goal

pub shown_extension-requires : goal.shown_extension-requires
shown_extension-requires c =
    subst (λ r. r.header.count ≤ extension_limit) (sym c.answer-reading.ensures) (count_few c.args.pieces)

-- `vestumbral_replace` meets its contract, which is that of `replace`.
use mathlib.Core.Path.{ap, ◌∙◌}
use mir.Syntax.{w32}
use mir.ValLaws.{to_z-of_z}
use Rattle.answers.specs.Answers.{edit_reply}
use Rattle.vestumbral.proofs.vestumbral_replace.Goals as goal

pub returns : goal.returns
returns c =
    let same = to_z-of_z w32 c.args.code c.ranges.code in
    record {
      answer = c.into.ensures ∙ ap edit_reply (rw same at c.replace.ensures.answer);
      content = rw same at c.replace.ensures.content;
    }

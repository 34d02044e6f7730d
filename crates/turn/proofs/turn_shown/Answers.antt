-- `turn_shown` meets its contract: the record without the extensions does as well as the whole one (proofs/Shown.antt).
use mathlib.Core.Path.{sym, ◌∙◌}
use borrow.Author.Rules.{rules}
use Rattle.turn.proofs.Shown.{allowed, parsed, parsed_image, parsed_sized, parsed_room, turns_refused, turns_made}
use Rattle.turn.proofs.turn_shown.Goals as goal

pub judge-requires : goal.judge-requires
judge-requires c =
    let h = rw c.no_spans.ensures at c.parse-header.ensures in
    rw h (parsed_image c.args.file.now c.args.outline c.requires)

pub invariant_of-judged : goal.invariant_of-judged
invariant_of-judged c =
    let a = c.args in
    let h = rw c.no_spans.ensures at c.parse-header.ensures in
    let passed = rw h at (sym c.judge.ensures ∙ c.in_ok-judge.was) in
    let ok = allowed (parsed a.file.now a.outline c.requires) a.t _ _ _ _ passed in
    record {
      placed = rw h (parsed_image a.file.now a.outline c.requires);
      permutation = ok.permutation;
      finite = rw h ok.finite;
      sized = rw h (parsed_sized a.file.now a.outline c.requires);
    }

pub put_files-requires : goal.put_files-requires
put_files-requires c =
    let a = c.args in
    let h = rw c.no_spans.ensures at c.parse-header.ensures in
    let passed = rw h at (sym c.judge.ensures ∙ c.in_ok-judge.was) in
    let ok = allowed (parsed a.file.now a.outline c.requires) a.t _ _ _ _ passed in
    rw h (parsed_room a.file.now a.outline c.requires a.t _ _ _ ok)

pub returns-in_err-judge : goal.returns-in_err-judge
returns-in_err-judge c =
    let a = c.args in
    let h = rw c.no_spans.ensures at c.parse-header.ensures in
    let t = turns_refused a.file.now a.outline c.requires a.t _ _ _ _ (sym (rw h at c.judge.ensures) ∙ c.in_err-judge.was) in
    (rw (← t.0) (search rules), t.1, t.2)

pub returns : goal.returns
returns c =
    let a = c.args in
    let h = rw c.no_spans.ensures at c.parse-header.ensures in
    let put = rw h at c.put_files.ensures in
    turns_made a.file.now a.outline c.requires a.t _ _ _ _ c.image_length.ensures _ _
    (sym (rw h at c.judge.ensures) ∙ c.in_ok-judge.was) put.0 put.1

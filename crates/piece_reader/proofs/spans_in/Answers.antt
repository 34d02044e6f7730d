-- `spans_in` meets its contract: so far the spans are those of the marks so far, and the next one starts where they end.
use Rattle.std.proofs.Common.{◌≡◌, ◌∙◌, ◌+◌, ◌<◌, refl, ap, length, get_or, set, to_z, of_z, w32, arith, rules}
use Rattle.number.specs.Natural.{natural_of}
use Rattle.extension.specs.Walk.{extension_limit, span}
use Rattle.piece_walk.specs.Marks.{no_mark}
use Rattle.piece_reader.proofs.Spans.{place_turn, span_turn}
use Rattle.piece_reader.proofs.spans_in.Goals as goal

pub loop-i-init : goal.loop-i-init
loop-i-init c = (c.no_spans-spans.ensures, refl, omega arith)

pub loop-i-preserved : goal.loop-i-preserved
loop-i-preserved c =
    let a = c.args in
    let inv = c.loop-i.invariant in
    let few : c.loop-i.i < extension_limit = omega arith in
    let inside : c.loop-i.i < length a.marks = search rules in
    let m = get_or a.marks c.loop-i.i no_mark in
    let size : to_z w32 (of_z w32 m.size) ≡ m.size = search rules in
    let code : to_z w32 (of_z w32 m.code) ≡ m.code = search rules in (
      (λ i. set c.loop-i.spans c.loop-i.i (span c.loop-i.start (size i) (code i)))
          ∙ span_turn a.marks c.loop-i.i inside few c.loop-i.spans c.loop-i.start inv.0 inv.1,
      ap (λ n. c.loop-i.start + n) (c.natural32-start.ensures.0 ∙ ap natural_of size) ∙ place_turn a.marks c.loop-i.i inside c.loop-i.start inv.1,
      omega (arith, c.natural32-start.ensures.1),
    )

-- `ranked_by` meets its contract: the slice of a rank below N, by the theorem on the answer.
use Rattle.std.proofs.Common.{ℕ, Ok, Some, ap, sym, ◌∙◌, arith}
use Rattle.slice_order.specs.Slices.{slice_with}
use Rattle.timing.proofs.Answers.{stated_has}
use Rattle.slice_rank.proofs.Theorems.{rank_inside}
use Rattle.slice_rank.proofs.ranked_by.Goals as goal

pub slice_of-requires : goal.slice_of-requires
slice_of-requires c =
    let h = stated_has c.args.a (sym c.is_stated.ensures ∙ c.if-not-is_stated.false) in
    let first = c.first_slice-start.ensures in
    let last = c.last_slice-end.ensures in
    let count = c.acquired_count.ensures in
    (omega (arith, h.several, first.0, last.0), last.1, omega (arith, first.0, last.0, count.0, c.if-acquired_count-rank.false))

pub returns : goal.returns
returns c =
    let a = c.args in
    ap (λ (s : ℕ). Ok (Some s)) (c.slice_of.ensures
    ∙ (λ i. slice_with a.a.slice_code (c.first_slice-start.ensures.0 i) (c.last_slice-end.ensures.0 i) a.rank))
    ∙ sym (rank_inside a.a (sym c.is_stated.ensures ∙ c.if-not-is_stated.false) a.rank (omega (arith, c.acquired_count.ensures.0, c.if-acquired_count-rank.false)))

-- `slice_stated` meets its contract: rule 17, padding and then the acquired slices, by the laws of proofs/Answers.antt.
use mathlib.Core.Path.{◌≡◌, sym, ap, ◌∙◌}
use Rattle.std.specs.Prelude.{ℕ, Float, Option, Some, None, Ok, MatchOption}
use Rattle.timing.specs.declared.Slice.{Slice}
use Rattle.timing.specs.declared.Slice.TheVariants.{Unstated, Timed}
use mathlib.Core.Bool.{◌||◌}
use lib.Dec.{ltb}
use native.Mathlib.Omega.{arith}
use Rattle.timing.specs.Slices.{slice_count, first_slice, last_slice, rank_at, timed_by}
use Rattle.slices.specs.Ranks.{rank_in}
use Rattle.slices.specs.Times.{time_of}
use Rattle.timing.proofs.Answers.{stated_has, acquired_within, slice_acquired}
use Rattle.std.proofs.Common.{rules}
use Rattle.timing.proofs.slice_stated.Goals as goal

pub rank-rank-requires : goal.rank-rank-requires
rank-rank-requires c =
    let h = stated_has c.args.a c.requires in
    let o = acquired_within _ _ _ c.if-s-start.false in
    (o.0, o.1, omega (arith, h.inside))

-- the last two answers
by_time : (rank : ℕ) (time : Option Float) (answer : Slice)
    → MatchOption time (answer ≡ Unstated) (λ t. answer ≡ Timed rank t) → answer ≡ timed_by rank time
by_time rank (Some t) answer e = e
by_time rank None answer e = e

pub returns : goal.returns
returns c =
    let count-is : c.slice_count.result ≡ slice_count c.args.a = c.slice_count.ensures.0 in
    let first-is : c.first_slice-start.result ≡ first_slice c.args.a = c.first_slice-start.ensures.0 in
    let last-is : c.last_slice-end.result ≡ last_slice c.args.a = c.last_slice-end.ensures.0 in
    let x = c.args in
    let rank : c.rank-rank.result ≡ rank_at x.a x.s =
    c.rank-rank.ensures ∙ (λ i. rank_in x.a.slice_code (first-is i) (last-is i) x.s) in
    let answer : c.map_or.result ≡ timed_by c.rank-rank.result c.time_of-time.result = by_time _ _ _ (search rules) in
    ap Ok (answer
    ∙ ap (timed_by c.rank-rank.result) c.time_of-time.ensures
    ∙ (λ i. timed_by (rank i) (time_of x.a.slice_duration (rank i))))
    ∙ slice_acquired x.a x.s c.requires (omega (arith, count-is))
    ((λ i. ltb x.s (sym first-is i) || ltb (sym last-is i) x.s) ∙ c.if-s-start.false)

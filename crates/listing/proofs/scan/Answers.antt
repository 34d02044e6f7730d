-- `scan` meets its contract: at each turn the extensions passed and the walk that is left are the whole walk, and the place is that of
-- the one that is wanted, where it is among those passed (proofs/Filled.antt). The measure is how many extensions may still come.
use Rattle.std.specs.Prelude.{Ok, None}
use Prim.Native.Nat.{ℕ}
use mathlib.Core.Path.{◌≡◌, refl, sym, ap, ◌∙◌}
use mathlib.Core.List.{List, []}
use native.Mathlib.Omega.{arith}
use lib.ListN.{length, get_or, get_or-eq_default}
use Rattle.extension.specs.Walk.{step_of, listed, extensions_in}
use Rattle.extension.specs.Listing.{no_span}
use Rattle.listing.proofs.Passed.{pass_none, pass_room, pass_end, pass_halt, Passed}
use Rattle.listing.proofs.Filled.{keep_turn, span_room, span_reads}
use Rattle.std.proofs.Common.{rules}
use Rattle.field.specs.declared.Order.{Order}
use Rattle.extension.specs.declared.Span.{Span}
use Rattle.extension.specs.declared.Walker.{Walker}
use Rattle.listing.proofs.scan.Goals as goal

pub loop-x-init : goal.loop-x-init
loop-x-init c =
    let e = c.new-walker.ensures in
    let p = c.requires in
    record { so_far = []; passed = pass_none _ _ e.2 e.3; kept = refl; inside = omega (arith, e, p); whole = omega (arith, e, p) }

pub step_within-requires : goal.step_within-requires
step_within-requires c = let f = c.loop-x.invariant in (f.inside, f.whole)

pub loop-x-smaller : goal.loop-x-smaller
loop-x-smaller c =
    let step_is = sym c.step_within.ensures ∙ c.in_ok-x.was ∙ ap Ok c.in-Some.is in
    omega (arith, pass_room _ _ _ _ c.loop-x.invariant.passed _ _ step_is)

pub loop-x-preserved : goal.loop-x-preserved
loop-x-preserved c =
    let step_is = sym c.step_within.ensures ∙ c.in_ok-x.was ∙ ap Ok c.in-Some.is in
    keep_turn _ _ _ _ _ c.loop-x.invariant _ _ _ step_is c.kept-place.ensures

-- past the last extension the spans so far are all
all_passed : (order : Order) (stop : ℕ) (file : List ℕ) (w : Walker) (so_far : List Span) (first : Walker) → first.order ≡ order → first.end ≡ stop
    → Passed (extensions_in first.order first.end file) file w so_far → step_of file w ≡ Ok None → extensions_in order stop file ≡ listed so_far
all_passed order stop file w so_far first o e p s = (λ i. extensions_in (sym o i) (sym e i) file) ∙ pass_end _ _ _ _ p s

pub span_at-requires : goal.span_at-requires
span_at-requires c =
    let f = c.loop-x.invariant in
    let a = c.args in
    let e = c.new-walker.ensures in
    let all = all_passed a.order a.stop a.file.now _ _ c.new-walker.result e.0 e.1 f.passed (sym c.step_within.ensures ∙ c.in_ok-x.was ∙ ap Ok c.in_default.is) in
    rw f.kept (span_room a.order a.stop a.file.now f.so_far c.requires.1 all a.wanted (omega (arith, f.passed.counted)))

pub returns-then-wanted-walker : goal.returns-then-wanted-walker
returns-then-wanted-walker c =
    let f = c.loop-x.invariant in
    let a = c.args in
    let e = c.new-walker.ensures in
    let all = all_passed a.order a.stop a.file.now _ _ c.new-walker.result e.0 e.1 f.passed (sym c.step_within.ensures ∙ c.in_ok-x.was ∙ ap Ok c.in_default.is) in
    let reads = span_reads a.order a.stop a.file.now f.so_far c.requires.1 all a.wanted (omega (arith, f.passed.counted)) in
    let is = rw f.kept at c.span_at.ensures ∙ reads in
    rw all (λ i. Ok (sym f.passed.counted i, is i))

pub returns : goal.returns
returns c =
    let f = c.loop-x.invariant in
    let a = c.args in
    let e = c.new-walker.ensures in
    let all = all_passed a.order a.stop a.file.now _ _ c.new-walker.result e.0 e.1 f.passed (sym c.step_within.ensures ∙ c.in_ok-x.was ∙ ap Ok c.in_default.is) in
    let none : get_or f.so_far a.wanted no_span ≡ no_span = get_or-eq_default f.so_far no_span (omega (arith, f.passed.counted)) in
    rw (all, none, f.passed.counted)

pub returns-in_err-x : goal.returns-in_err-x
returns-in_err-x c =
    let e = c.new-walker.ensures in
    let all = pass_halt _ _ _ _ c.loop-x.invariant.passed _ (sym c.step_within.ensures ∙ c.in_err-x.was) in
    rw (← e.0, ← e.1, all) (search rules)

-- `list` meets its contract: at each turn the spans so far and the walk that is left are the whole walk (proofs/Filled.antt).
-- The measure is how many extensions may still come.
use Rattle.std.specs.Prelude.{Ok, Some}
use Prim.Native.Nat.{◌+◌, ◌<◌}
use mathlib.Core.Path.{sym, ap, ◌∙◌}
use mathlib.Core.List.{[]}
use native.Mathlib.Omega.{arith}
use Rattle.extension.specs.Walk.{extension_limit, step_of}
use Rattle.extension.specs.Listing.{listing_of}
use Rattle.listing.proofs.Passed.{pass_none, pass_room, pass_end, pass_halt}
use Rattle.listing.proofs.Filled.{fill_turn}
use Rattle.listing.proofs.list.Goals as goal

pub loop-x-init : goal.loop-x-init
loop-x-init c =
    let e = c.new-walker.ensures in
    record { so_far = []; passed = pass_none _ _ e.2 e.3; kept = c.no_spans-spans.ensures }

pub offset_bounds-spans-walker : goal.offset_bounds-spans-walker
offset_bounds-spans-walker c =
    let step_is = sym c.step.ensures ∙ c.in-Ok-Some.is ∙ ap Ok c.in-Ok-Some.field-0-is in
    omega (arith, pass_room _ _ _ _ c.loop-x.invariant.passed _ _ step_is)

pub bounds-spans-walker : goal.bounds-spans-walker
bounds-spans-walker c =
    let step_is = sym c.step.ensures ∙ c.in-Ok-Some.is ∙ ap Ok c.in-Ok-Some.field-0-is in
    omega (arith, pass_room _ _ _ _ c.loop-x.invariant.passed _ _ step_is)

pub loop-x-smaller : goal.loop-x-smaller
loop-x-smaller c =
    let step_is = sym c.step.ensures ∙ c.in-Ok-Some.is ∙ ap Ok c.in-Ok-Some.field-0-is in
    omega (arith, pass_room _ _ _ _ c.loop-x.invariant.passed _ _ step_is)

pub loop-x-preserved : goal.loop-x-preserved
loop-x-preserved c = fill_turn _ _ _ _ c.loop-x.invariant _ _ (sym c.step.ensures ∙ c.in-Ok-Some.is ∙ ap Ok c.in-Ok-Some.field-0-is)

pub returns-in-Ok-None : goal.returns-in-Ok-None
unfolding listing_of
returns-in-Ok-None c =
    let f = c.loop-x.invariant in
    let e = c.new-walker.ensures in
    let all = pass_end _ _ _ _ f.passed (sym c.step.ensures ∙ c.in-Ok-None.is ∙ ap Ok c.in-Ok-None.field-0-is) in
    rw (← e.0, ← e.1, all, ← f.passed.counted, ← f.kept)

pub returns-in-Err : goal.returns-in-Err
unfolding listing_of
returns-in-Err c =
    let e = c.new-walker.ensures in
    let all = pass_halt _ _ _ _ c.loop-x.invariant.passed _ (sym c.step.ensures ∙ c.in-Err.is) in
    rw (c.no_spans.ensures, ← e.0, ← e.1, all)

-- The outcome of an edit, by its plan: one law for each answer of `apply`.
use Rattle.refusal.specs.declared.Rule.TheVariants.{LengthAboveBuffer}
use Rattle.std.specs.Prelude.{Ok, Err}
use Prim.Native.Nat.{ℕ, ◌≤◌, ◌<◌}
use mathlib.Core.Path.{◌≡◌, sym}
use mathlib.Core.List.{List}
use borrow.Author.Tests.{lt-ltb, le-ltb}
use lib.IntN.{ℤ}
use lib.ListN.{length, take}
use Rattle.refusal.specs.declared.Refusal.{Refusal}
use Rattle.refusal.specs.Table.{refusal, verdict, decided}
use Rattle.refusal.proofs.Rows.{decided-refused}
use Rattle.change.specs.declared.Change.{Change}
use Rattle.edit_plan.specs.declared.Plan.{Plan}
use Rattle.edit_plan.specs.Fresh.{fresh_of}
use Rattle.edit_plan.specs.Refusals.{change_verdict}
use Rattle.edit_plan.specs.Planned.{planned_of}
use Rattle.edit_plan.proofs.Deciding.{stop_never, planned}
use Rattle.edit.specs.Outcome.{fresh, refused, outcome_of}

module _ (l : List ℕ) (len : ℕ) (change : Change) (code : ℤ) (p : List ℕ) where
  abbrev freshly : List ℕ
  freshly = fresh_of (take len l) change code p

  pub outcome_24 : length l < len → outcome_of l len change code p ≡ refused (refusal LengthAboveBuffer 0)
  unfolding outcome_of verdict
  outcome_24 h = rw (lt-ltb (length l) len h)

  -- past 24 the plan's verdict decides
  pub outcome_is : len ≤ length l → outcome_of l len change code p ≡ decided (change_verdict (take len l) (length l) change code p) (fresh freshly) refused
  unfolding outcome_of verdict
  outcome_is h = rw (le-ltb (length l) len h)

  pub outcome_stop : len ≤ length l → (r : Refusal) → planned_of (take len l) (length l) change code p ≡ Err r → outcome_of l len change code p ≡ refused r
  unfolding planned_of
  outcome_stop h r e =
      let d = decided-refused (change_verdict (take len l) (length l) change code p) (λ q. stop_never (sym q)) e in
      let s : change_verdict (take len l) (length l) change code p ≡ Err r = cc (d.1, d.2) in
      rw (outcome_is h, s)

  pub outcome_go : len ≤ length l → (x : Plan) → planned_of (take len l) (length l) change code p ≡ Ok x → outcome_of l len change code p ≡ fresh freshly
  outcome_go h x e = rw (outcome_is h, (planned (take len l) (length l) change code p x e).0)

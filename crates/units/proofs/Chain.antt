-- How to prove code that turns round one run after another in place: one step for each call, and one for each run that stays, from the front to the end.
use mathlib.Core.Path.{◌≡◌, sym, ap, ◌∙◌}
use mathlib.Core.List.{List, [], ◌∷◌, ◌++◌}
use Prim.Native.Nat.{ℕ, ◌+◌, ◌*◌, ◌≤◌}
use native.Mathlib.Nat.{add-zero, mul-one}
use native.Mathlib.Omega.{arith}
use lib.ListN.{length, take, drop, take-append-drop}
use Rattle.units.specs.Units.{turned_at}
use Rattle.units.specs.Runs.{Run, run, turn_runs, turn_runs_at}
use Rattle.units.proofs.Units.{turned_own, turned_at_bytes}
use Rattle.units.proofs.Runs.{span_of, length-turn_runs_at, span-append, runs_split}

-- a chain of such steps: `goal` is what they come to in the end, and rs are the runs that are left, from index `at` of l
pub record Chain (goal : List ℕ) (at : ℕ) (rs : List Run) (l : List ℕ) : Type 0 where
  pub comes : goal ≡ turn_runs_at at rs l
  pub room : at + span_of rs ≤ length l

-- a list of runs is turned round
pub chain_runs : {goal : List ℕ} (at : ℕ) (rs qs : List Run) (l l' : List ℕ) → Chain goal at (rs ++ qs) l → l' ≡ turn_runs_at at rs l
    → Chain goal (at + span_of rs) qs l'
chain_runs at rs qs l l' c e =
    let h : at + span_of rs ≤ length l = omega (arith, c.room, span-append rs qs) in
    record {
      comes = c.comes ∙ runs_split at rs qs l h ∙ sym (rw e);
      room = omega (arith, c.room, span-append rs qs, ap length e ∙ length-turn_runs_at at rs l);
    }

-- a single run is turned round
pub chain_next : {goal : List ℕ} (at : ℕ) (r : Run) (rs : List Run) (l l' : List ℕ) → Chain goal at (r ∷ rs) l
    → l' ≡ turned_at r.width at r.count l → Chain goal (at + r.count * r.width) rs l'
unfolding turned_at turn_runs_at turn_runs span_of
chain_next at r rs l l' c e =
    rw add-zero at (chain_runs at (r ∷ []) rs l l' c (e ∙ ap (λ (x : List ℕ). take at l ++ x) (turned_own r.width r.count (drop at l))))

-- n bytes stay
pub chain_stay : {goal : List ℕ} (at n : ℕ) (rs : List Run) (l : List ℕ) → Chain goal at (run 1 n ∷ rs) l → Chain goal (at + n) rs l
chain_stay at n rs l c = rw mul-one at (chain_next at (run 1 n) rs l l c (sym (turned_at_bytes at n l)))

-- no run is left
pub chain_done : {goal : List ℕ} (at : ℕ) (l : List ℕ) → Chain goal at [] l → l ≡ goal
unfolding turn_runs_at turn_runs
chain_done at l c = sym (c.comes ∙ take-append-drop at l)

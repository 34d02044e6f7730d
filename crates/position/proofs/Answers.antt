-- One law for each answer: the tests that lead to it. Where rules 17 and sform_code pass, the answer is what the crate affine places.
use Rattle.refusal.specs.declared.Rule.TheVariants.{IndexOutside, NoPosition}
use Rattle.std.specs.Prelude.{Ok, Err, Some, None, Result, Option, ok_or}
use Rattle.refusal.specs.declared.Refusal.{Refusal}
use mathlib.Core.Path.{◌≡◌, refl, sym, ap}
use mathlib.Core.Bool.{Bool, true, false, not, cond, ◌&&◌, ◌||◌, and-true, and-eq-true_iff}
use mathlib.Core.List.{List, [], ◌∷◌}
use Prim.Native.Nat.{ℕ, ◌≤◌, ◌<◌}
use native.Mathlib.Omega.{arith}
use borrow.Author.Tests.{ltb-true, le-leb, lt-leb}
use lib.Dec.{ltb}
use lib.IntN.{ℤ, pos}
use lib.Signed.{le_z}
use Rattle.refusal.specs.Table.{refusal, verdict, decided, no_refusal}
use Rattle.number.specs.Natural.{natural_of}
use Rattle.grid.specs.Grid.{within}
use Rattle.grid.specs.Axes.{dim_at}
use Rattle.rules.specs.Rules.{axis_count}
use Rattle.affine.specs.declared.Position.{Position}
use Rattle.affine.specs.Method.{finite_rows, finite_results, position_of}
use Rattle.position.specs.declared.Sform.{Sform}
use Rattle.position.specs.Positions.{length_at, three_axes, SmallIndex, results_by, position_by}

-- what affine places, as an answer
abbrev pub from_placed : Option Position → Result Position Refusal
from_placed p = ok_or p (refusal NoPosition 0)

abbrev pub placed_by : Sform → ℕ → ℕ → ℕ → Option Position
placed_by f i j k = position_of f.srow_x f.srow_y f.srow_z i j k

-- ---- rule 17's axes and indexes
pub length_stated : (dim : List ℤ) (axis : ℕ) → axis ≤ axis_count dim → natural_of (dim_at dim axis) ≡ length_at dim axis
length_stated dim axis h = rw (le-leb axis (axis_count dim) h)

pub length-past : (dim : List ℤ) (axis : ℕ) → axis_count dim < axis → 1 ≡ length_at dim axis
length-past dim axis h = rw (lt-leb axis (axis_count dim) h)

module _ (a b c i j k : ℕ) where
  pub three_within : (ltb i a && (ltb j b && ltb k c)) ≡ within (a ∷ b ∷ c ∷ []) (i ∷ j ∷ k ∷ [])
  unfolding within
  three_within = ap (λ t. ltb i a && (ltb j b && t)) (sym (and-true (ltb k c)))

  pub small_index : a ≤ 32767 → b ≤ 32767 → c ≤ 32767 → (ltb i a && (ltb j b && ltb k c)) ≡ true → SmallIndex i j k
  small_index ha hb hc e =
      let p = (and-eq-true_iff (ltb i a) (ltb j b && ltb k c)).0 e in
      let q = (and-eq-true_iff (ltb j b) (ltb k c)).0 p.1 in
      record {
        first = omega (arith, ltb-true i a p.0);
        second = omega (arith, ltb-true j b q.0);
        third = omega (arith, ltb-true k c q.1);
      }

-- ---- the answers
module _ (f : Sform) (i j k : ℕ) where
  pub position_outside : within (three_axes f.dim) (i ∷ j ∷ k ∷ []) ≡ false → Err (refusal IndexOutside 0) ≡ position_by f i j k
  unfolding position_by verdict
  position_outside o = simp o

  module _ (inside : within (three_axes f.dim) (i ∷ j ∷ k ∷ []) ≡ true) where
    pub position_unset : le_z f.sform_code (pos 0) ≡ true → Err (refusal NoPosition 0) ≡ position_by f i j k
    unfolding position_by verdict
    position_unset e = simp (inside, e)

    pub position_placed : le_z f.sform_code (pos 0) ≡ false → from_placed (placed_by f i j k) ≡ position_by f i j k
    unfolding position_by verdict position_of
    position_placed e =
        let p = results_by f i j k in
        simp (inside, e) (go (not (finite_rows f.srow_x f.srow_y f.srow_z) || not (finite_results p)) p)
      where
        go : (t : Bool) (p : Position)
            → from_placed (decided (cond t (Err (refusal NoPosition 0)) no_refusal) (Some p) (λ r. None))
            ≡ decided (cond t (Err (refusal NoPosition 0)) no_refusal) (Ok p) Err
        go true p = refl
        go false p = refl

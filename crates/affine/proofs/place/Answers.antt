-- `place` meets its contract: the tests of its branches are those of the definition, and a finite row has no NaN.
use Rattle.std.specs.Prelude.{ℕ, Bool, true, List, [], ◌∷◌, ◌&&◌, not, Some, None}
use Rattle.std.specs.Bool.{then_some}
use mathlib.Core.Path.{◌≡◌, refl, sym, ap, ◌∙◌}
use mathlib.Core.Bool.{false, and-eq-true_iff}
use Rattle.refusal.specs.declared.Rule.TheVariants.{NoPosition}
use Rattle.refusal.specs.Table.{row, verdict, decided}
use Rattle.affine.specs.declared.Position.{Position}
use Rattle.affine.specs.Method.{results_of, finite_results, finite_row, srow_of, finite_rows, NoNan, position_of}
use Rattle.affine.proofs.Finite.{finite_row_lem}
use Rattle.affine.proofs.place.Goals as goal

module _ (x y z : List ℕ) (p q r : Bool) (at_x : p ≡ finite_row x) (at_y : q ≡ finite_row y) (at_z : r ≡ finite_row z) where
  tested : finite_rows x y z ≡ (p && q && r)
  tested = sym (λ n. at_x n && at_y n && at_z n)

  no_nan : (p && q && r) ≡ true → NoNan x × NoNan y × NoNan z
  no_nan e =
      let two = (and-eq-true_iff _ _).0 (tested ∙ e) in
      let one = (and-eq-true_iff _ _).0 two.0 in
      (finite_row_lem _ one.0, finite_row_lem _ one.1, finite_row_lem _ two.1)

-- the answer by the last test
chosen : (b : Bool) (p : Position) → then_some b p ≡ decided (verdict (row NoPosition (not b) 0 ∷ [])) (Some p) (λ r. None)
unfolding verdict
chosen true p = refl
chosen false p = refl

placed : (x y z : List ℕ) (i j k : ℕ) → finite_rows x y z ≡ true
    → let p = results_of (srow_of x y z) i j k in then_some (finite_results p) p ≡ position_of x y z i j k
unfolding position_of
placed x y z i j k rows = let p = results_of (srow_of x y z) i j k in rw rows (chosen (finite_results p) p)

pub of_patterns-requires : goal.of_patterns-requires
of_patterns-requires c = (no_nan _ _ _ _ _ _ c.row_is_finite.ensures c.row_is_finite-2.ensures c.row_is_finite-3.ensures c.if-not-row_is_finite.false).0

pub of_patterns-requires-2 : goal.of_patterns-requires-2
of_patterns-requires-2 c = (no_nan _ _ _ _ _ _ c.row_is_finite.ensures c.row_is_finite-2.ensures c.row_is_finite-3.ensures c.if-not-row_is_finite.false).1

pub of_patterns-requires-3 : goal.of_patterns-requires-3
of_patterns-requires-3 c = (no_nan _ _ _ _ _ _ c.row_is_finite.ensures c.row_is_finite-2.ensures c.row_is_finite-3.ensures c.if-not-row_is_finite.false).2

pub returns-then-not-row_is_finite : goal.returns-then-not-row_is_finite
unfolding position_of verdict
returns-then-not-row_is_finite c =
    simp (tested _ _ _ _ _ _ c.row_is_finite.ensures c.row_is_finite-2.ensures c.row_is_finite-3.ensures ∙ c.if-not-row_is_finite.true)

pub returns : goal.returns
returns c =
    let a = c.args in
    let p : c.results_at-p.result ≡ results_of (srow_of a.srow_x a.srow_y a.srow_z) a.i a.j a.k =
    c.results_at-p.ensures ∙ (λ n. results_of (record { x = c.of_patterns.ensures n; y = c.of_patterns-2.ensures n; z = c.of_patterns-3.ensures n }) a.i a.j a.k) in
    c.then_some.ensures
    ∙ (λ n. then_some ((c.is_finite.ensures ∙ ap finite_results p) n) (p n))
    ∙ placed _ _ _ a.i a.j a.k
    (tested _ _ _ _ _ _ c.row_is_finite.ensures c.row_is_finite-2.ensures c.row_is_finite-3.ensures ∙ c.if-not-row_is_finite.false)

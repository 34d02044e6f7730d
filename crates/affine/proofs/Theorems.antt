-- What holds of every position: its three values are finite; and in the case that 01-scope.md states they are the exact whole numbers. Both
-- speak of `position_of`, which is what `place` answers. Assumes nothing.
use Rattle.std.specs.Prelude.{Some, None}
use mathlib.Core.Path.{◌≡◌, refl, sym, ap, ◌∙◌}
use mathlib.Core.Bool.{Bool, true, false, not, ◌&&◌, ◌||◌, and-eq-true_iff, true≢false}
use mathlib.Core.List.{List, [], ◌∷◌}
use Prim.Native.Nat.{ℕ, ◌<◌}
use native.Mathlib.Omega.{arith}
use lib.IntN.{ℤ}
use lib.Ieee.{Float, nan, inf, fin}
use lib.Ieee.Exact.{HasValue}
use lib.Ieee.Scale.{finite}
use Rattle.refusal.specs.Table.{Row, verdict}
use Rattle.refusal.proofs.Rows.{Clear, none, one, accepted_clear, decided_accepted}
use Rattle.affine.specs.declared.Position.{Position}
use Rattle.affine.specs.Method.{number_at, row_of, results_of, finite_results, finite_row, srow_of, finite_rows, place_rows, position_of}
use Rattle.affine.specs.Whole.{first_limit, last_limit, IsWhole, WholeRow, exact_of, PlacedExactly}
use Rattle.affine.proofs.Exact.{within, index_within, mul_within, add_within}

-- ---- a whole row
abbrev pub value_at : List ℕ → ℕ → ℕ → ℕ → Float
value_at row i j k = row_of (number_at row 0) (number_at row 1) (number_at row 2) (number_at row 3) i j k

row_exact : {row : List ℕ} (w : WholeRow row) (i j k : ℕ) → i < 32768 → j < 32768 → k < 32768 → IsWhole (value_at row i j k) (exact_of w i j k)
row_exact w i j k hi hj hk =
    let a = mul_within (within first_limit w.is0 w.small0) (index_within i hi) (omega arith) in
    let b = mul_within (within first_limit w.is1 w.small1) (index_within j hj) (omega arith) in
    let c = mul_within (within first_limit w.is2 w.small2) (index_within k hk) (omega arith) in
    (add_within (add_within (add_within a b (omega arith)) c (omega arith)) (within last_limit w.is3 w.small3) (omega arith)).whole

pub whole_finite : {x : Float} {z : ℤ} → IsWhole x z → finite x ≡ true
whole_finite {x} w = go x w.value
  where
    go : (x : Float) → HasValue x w.sign w.size 1 → finite x ≡ true
    go nan v = absurd v
    go (inf s) v = absurd v
    go (fin s m e) v = refl

whole_row_finite : {row : List ℕ} → WholeRow row → finite_row row ≡ true
unfolding finite_row
whole_row_finite w = λ i. whole_finite w.is0 i && whole_finite w.is1 i && whole_finite w.is2 i && whole_finite w.is3 i

-- three rows of finite numbers, at a place where their values are whole
pub placed_exactly : (x y z : List ℕ) {a b c : ℤ} (i j k : ℕ) → finite_row x ≡ true → finite_row y ≡ true → finite_row z ≡ true
    → IsWhole (value_at x i j k) a → IsWhole (value_at y i j k) b → IsWhole (value_at z i j k) c → PlacedExactly (position_of x y z i j k) a b c
unfolding position_of verdict
placed_exactly x y z i j k f g h a b c = simp (f, g, h, whole_finite a, whole_finite b, whole_finite c) (a, b, c)

-- In the stated case there is a position for all indexes on an axis, and it is the exact whole number.
pub position_exact : {x y z : List ℕ} (u : WholeRow x) (v : WholeRow y) (w : WholeRow z) (i j k : ℕ) → i < 32768 → j < 32768 → k < 32768
    → PlacedExactly (position_of x y z i j k) (exact_of u i j k) (exact_of v i j k) (exact_of w i j k)
position_exact {x} {y} {z} u v w i j k hi hj hk =
    placed_exactly x y z i j k (whole_row_finite u) (whole_row_finite v) (whole_row_finite w)
    (row_exact u i j k hi hj hk) (row_exact v i j k hi hj hk) (row_exact w i j k hi hj hk)

-- ---- every position is finite
only_clear : {r : Row} → Clear (r ∷ []) → r.test ≡ false
only_clear (one e none) = e

last_holds : (a b : Bool) → (not a || not b) ≡ false → b ≡ true
last_holds true true e = refl
last_holds true false e = sym e
last_holds false b e = absurd (true≢false e)

no_position_never : {p : Position} → None ≡ Some p → ⊥
no_position_never e = cc

pub position_finite : (x y z : List ℕ) (i j k : ℕ) (p : Position) → position_of x y z i j k ≡ Some p
    → (finite p.x ≡ true) × (finite p.y ≡ true) × (finite p.z ≡ true)
unfolding position_of
position_finite x y z i j k p e =
    let d = decided_accepted (verdict (place_rows x y z i j k)) (λ r. no_position_never) e in
    let t = only_clear (accepted_clear (place_rows x y z i j k) d.0) in
    let q : p ≡ results_of (srow_of x y z) i j k = cc in
    let two = (and-eq-true_iff _ _).0 (ap finite_results q ∙ last_holds (finite_rows x y z) _ t) in
    let one = (and-eq-true_iff _ _).0 two.0 in
    (one.0, one.1, two.1)

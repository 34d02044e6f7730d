-- Positions: 01-scope.md, "Slices and positions", second paragraph. Any fields have an answer, also those of a record that reading
-- would refuse.
use Rattle.refusal.specs.declared.Rule.TheVariants.{IndexOutside, NoPosition}
use Rattle.refusal.specs.declared.Refusal.{Refusal}
use Rattle.std.specs.Prelude.{ℕ, ◌≤◌, cond, not, List, [], ◌∷◌, leb, ℤ, pos, Ok, Err, Result}
use Rattle.std.specs.Int.Signed.{le_z}
use Rattle.refusal.specs.Table.{Row, row, verdict, decided}
use Rattle.number.specs.Natural.{natural_of}
use Rattle.grid.specs.Grid.{within}
use Rattle.grid.specs.Axes.{dim_at}
use Rattle.header.specs.declared.Header.{Header}
use Rattle.rules.specs.Rules.{axis_count}
use Rattle.affine.specs.declared.Position.{Position}
use Rattle.affine.specs.Method.{results_of, srow_of, place_rows}
use Rattle.position.specs.declared.Sform.{Sform}

-- "Axes past dim[0] have length 1"; the first axis is 1
abbrev pub length_at : List ℤ → ℕ → ℕ
length_at dim axis = cond (leb axis (axis_count dim)) (natural_of (dim_at dim axis)) 1

abbrev pub three_axes : List ℤ → List ℕ
three_axes dim = length_at dim 1 ∷ length_at dim 2 ∷ length_at dim 3 ∷ []

-- indexes on axes whose lengths are signed 16-bit numbers
pub record SmallIndex (i j k : ℕ) : Type 0 where
  pub first : i ≤ 32766
  pub second : j ≤ 32766
  pub third : k ≤ 32766

-- "Each is ((s0×i + s1×j) + s2×k) + s3": the three results together, by the twelve srow numbers
abbrev pub results_by : Sform → ℕ → ℕ → ℕ → Position
results_by f i j k = results_of (srow_of f.srow_x f.srow_y f.srow_z) i j k

-- "index check 17 comes first. 23 is given exactly when sform_code is not above 0, one of the twelve is not finite, or a result is
-- not finite": the last two are affine's row.
abbrev pub position_rows : Sform → ℕ → ℕ → ℕ → List Row
position_rows f i j k =
    row IndexOutside (not (within (three_axes f.dim) (i ∷ j ∷ k ∷ []))) 0
    ∷ row NoPosition (le_z f.sform_code (pos 0)) 0
    ∷ place_rows f.srow_x f.srow_y f.srow_z i j k

unfoldable pub position_by : Sform → ℕ → ℕ → ℕ → Result Position Refusal
position_by f i j k = decided (verdict (position_rows f i j k)) (Ok (results_by f i j k)) Err

-- the same by a record
abbrev pub sform_of : Header → Sform
sform_of h =
    record {
      dim = h.dim;
      sform_code = h.quatern.sform_code;
      srow_x = h.rows.srow_x;
      srow_y = h.rows.srow_y;
      srow_z = h.rows.srow_z;
    }

abbrev pub position_in : Header → ℕ → ℕ → ℕ → Result Position Refusal
position_in h i j k = position_by (sform_of h) i j k

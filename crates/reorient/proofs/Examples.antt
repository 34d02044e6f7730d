-- A worked example: an image of 3 by 2 by 1, whose new axis 1 shows old axis 2 and whose new axis 2 shows old axis 1, reversed.
use mathlib.Core.Path.{◌≡◌, refl}
use mathlib.Core.Bool.{true, false}
use mathlib.Core.List.{[], ◌∷◌}
use Prim.Native.Nat.{ℕ}
use Rattle.grid.specs.Grid.{voxels, voxel_number, index_of}
use Rattle.gather_row.specs.Series.{series}
use Rattle.reorient.specs.declared.Turn.{Turn}
use Rattle.reorient.specs.Reorient.{permuted, unpermuted, mirrored_in, came_from, source_of, reoriented, inverse}

abbrev quarter : Turn
quarter = record { axis1 = 2; axis2 = 1; axis3 = 3; reversed1 = true; reversed2 = false; reversed3 = false }

example : (permuted {A = ℕ} 0 quarter (3 ∷ (2 ∷ (1 ∷ []))) ≡ 2 ∷ (3 ∷ (1 ∷ [])))
    × (reoriented 1 (3 ∷ (2 ∷ (1 ∷ []))) quarter (0 ∷ (1 ∷ (2 ∷ (3 ∷ (4 ∷ (5 ∷ [])))))) ≡ 2 ∷ (5 ∷ (1 ∷ (4 ∷ (0 ∷ (3 ∷ []))))))
    × (reoriented 1 (2 ∷ (3 ∷ (1 ∷ []))) (inverse quarter) (2 ∷ (5 ∷ (1 ∷ (4 ∷ (0 ∷ (3 ∷ [])))))) ≡ 0 ∷ (1 ∷ (2 ∷ (3 ∷ (4 ∷ (5 ∷ []))))))
unfolding permuted unpermuted mirrored_in came_from source_of reoriented series voxels voxel_number index_of inverse
example = (refl, refl, refl)

-- The laws of Images.antt for the lengths of seven axes, as a file has them.
use mathlib.Core.Path.{◌≡◌, sym, subst}
use mathlib.Core.Bool.{true}
use mathlib.Core.List.{List, ◌∷◌, ◌++◌}
use Prim.Native.Nat.{ℕ, ◌*◌, ◌≤◌}
use lib.ListN.{length, take, drop}
use Rattle.grid.specs.Grid.{voxels, within, voxel_number}
use Rattle.reorient.specs.declared.Turn.{Turn}
use Rattle.reorient.specs.Reorient.{is_permutation, permuted, unpermuted, came_from, reoriented, composed, inverse}
use Rattle.reorient.proofs.Orders.{within_permuted}
use Rattle.reorient.proofs.Axes.{all_seven}
use Rattle.reorient.proofs.Images.{length-reoriented, reoriented_index, reoriented_twice, reoriented_back}

module _ (ns : List ℕ) (seven : length ns ≡ 7) where
  -- what holds of three lengths and more holds of these
  by_three : (P : List ℕ → Type 0) → ((l m n : ℕ) (r : List ℕ) → P (l ∷ (m ∷ (n ∷ r)))) → P ns
  by_three P f = subst P (sym (all_seven ns 0 seven)) (f _ _ _ _)

  module _ (t : Turn) (ht : is_permutation t ≡ true) where
    -- an index is within the new lengths where it is within the old ones when it is taken back
    pub within_seven : (i j k : ℕ) (is : List ℕ)
        → within (permuted 0 t ns) (i ∷ (j ∷ (k ∷ is))) ≡ within ns (unpermuted 0 t (i ∷ (j ∷ (k ∷ is))))
    within_seven i j k is =
        by_three (λ xs. within (permuted 0 t xs) (i ∷ (j ∷ (k ∷ is))) ≡ within xs (unpermuted 0 t (i ∷ (j ∷ (k ∷ is)))))
        (λ l m n r. within_permuted l m n i j k r is t ht)

    module _ (b : ℕ) (s : List ℕ) (h : b * voxels ns ≤ length s) where
      -- the new image is as long as the old one
      pub length_seven : length (reoriented b ns t s) ≡ b * voxels ns
      length_seven =
          by_three (λ xs. b * voxels xs ≤ length s → length (reoriented b xs t s) ≡ b * voxels xs)
          (λ l m n r g. length-reoriented l m n r b t s ht g) h

      -- "Each voxel's bytes are those of the voxel it came from"
      pub index_seven : (rest js : List ℕ) → within (permuted 0 t ns) js ≡ true
          → take b (drop (b * voxel_number (permuted 0 t ns) js) (reoriented b ns t s ++ rest))
          ≡ take b (drop (b * voxel_number ns (came_from t ns js)) s)
      index_seven rest js w =
          by_three
          (λ xs.
          b * voxels xs ≤ length s
          → within (permuted 0 t xs) js ≡ true
          → take b (drop (b * voxel_number (permuted 0 t xs) js) (reoriented b xs t s ++ rest))
          ≡ take b (drop (b * voxel_number xs (came_from t xs js)) s))
          (λ l m n r g v. reoriented_index l m n r b t s ht g rest js v) h w

      -- "One turn followed by another"
      pub twice_seven : (u : Turn) (rest : List ℕ) → is_permutation u ≡ true
          → reoriented b (permuted 0 t ns) u (reoriented b ns t s ++ rest) ≡ reoriented b ns (composed t u) s
      twice_seven u rest hu =
          by_three
          (λ xs. b * voxels xs ≤ length s
          → reoriented b (permuted 0 t xs) u (reoriented b xs t s ++ rest) ≡ reoriented b xs (composed t u) s)
          (λ l m n r g. reoriented_twice l m n r b t s ht g u rest hu) h

      -- "a turn then its inverse"
      pub back_seven : (rest : List ℕ) → reoriented b (permuted 0 t ns) (inverse t) (reoriented b ns t s ++ rest) ≡ take (b * voxels ns) s
      back_seven rest =
          by_three
          (λ xs. b * voxels xs ≤ length s
          → reoriented b (permuted 0 t xs) (inverse t) (reoriented b xs t s ++ rest) ≡ take (b * voxels xs) s)
          (λ l m n r g. reoriented_back l m n r b t s rest ht g) h

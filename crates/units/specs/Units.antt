-- A unit is a number's bytes, side by side; turned round, it is the same number in the other byte order. The paper (01-scope.md, "Voxels and byte
-- order") has units of 2 and 4 bytes in the header, of 4 in an extension's size and code, and of 1, 2, 4, 8 or 16 in the image. So the width is an argument.
use Rattle.std.specs.Prelude.{ℕ, zero, suc, List, ◌++◌, reverse, take, drop}

-- the first n units of w bytes each turned round, the rest as it is
unfoldable pub turned : ℕ → ℕ → List ℕ → List ℕ
turned w zero l = l
turned w (suc n) l = reverse (take w l) ++ turned w n (drop w l)

-- l with the n units of w bytes from index `at` turned round
unfoldable pub turned_at : ℕ → ℕ → ℕ → List ℕ → List ℕ
turned_at w at n l = take at l ++ turned w n (drop at l)

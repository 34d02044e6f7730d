-- Rows that are written out of order, each at a place of its own: what the tiles of src/lib.rt do.
use Rattle.std.specs.Prelude.{List, ℕ, zero, suc, ◌+◌, ◌*◌, ◌≤◌}
use Rattle.buffer.specs.Put.{put}
use Rattle.gather_row.specs.declared.Axis.{Axis}
use Rattle.gather_row.specs.Gather.{Beside}

-- l with the rows g 0 to g (n - 1) in it: the first at `at`, and `pitch` bytes from one to the next
unfoldable pub laid : ℕ → ℕ → (ℕ → List ℕ) → ℕ → List ℕ → List ℕ
laid at pitch g zero l = l
laid at pitch g (suc n) l = put (laid at pitch g n l) (at + pitch * n) (g n)

-- l with n planes of m rows each in it: the first at `at`, and `lift` bytes from one to the next
unfoldable pub stacked : ℕ → ℕ → ℕ → (ℕ → ℕ → List ℕ) → ℕ → ℕ → List ℕ → List ℕ
stacked at lift pitch g m zero l = l
stacked at lift pitch g m (suc n) l = laid (at + lift * n) pitch (g n) m (stacked at lift pitch g m n l)

-- a tile of x by some of y can be taken
pub record Tiled (b : ℕ) (x y : Axis) : Type 0 where
  pub some : 1 ≤ b
  pub narrow : x.length ≤ 1024
  pub beside : Beside b y

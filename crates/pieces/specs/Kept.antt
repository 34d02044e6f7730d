-- What is kept of the bytes b, however they were cut: how many they are, the first 352, and the walk over their extensions, which keeps
-- size and code of those that have come whole and the first eight bytes of the next one (`walk_of` of the crate piece_walk). Nothing
-- else is kept: no payload, and no voxel, for the walk ends before the first.
use Rattle.std.specs.Prelude.{ℕ, List, length}
use Rattle.field.specs.Numbers.{bytes_at}
use Rattle.layout.specs.File.{order_of}
use Rattle.piece_walk.specs.Whole.{walk_of}
use Rattle.pieces.specs.declared.Pieces.{Pieces}
use Rattle.pieces.specs.Pieces.{front_length, end_in}

-- with zeros where fewer have come
unfoldable pub front_of : List ℕ → List ℕ
front_of b = bytes_at 0 front_length b

unfoldable pub kept_of : List ℕ → Pieces
kept_of b =
    record {
      taken = length b;
      front = front_of b;
      walk = walk_of (order_of (front_of b)) (end_in (order_of (front_of b)) (front_of b)) b;
    }

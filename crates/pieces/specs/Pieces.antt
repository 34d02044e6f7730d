-- What is kept of a file that comes in pieces, and what a piece does to it. 02-change-requests.md, P1: "a reader that takes pieces of any
-- length, zero too, keeps no payload or voxel bytes, and answers at the end".
use Rattle.refusal.specs.declared.Rule.TheVariants.{TooManyBytes}
use Rattle.refusal.specs.declared.Refusal.{Refusal}
use Rattle.std.specs.Prelude.{ℕ, ◌+◌, ◌-◌, Bool, cond, ◌&&◌, ◌||◌, List, [], ltb, leb, length, take, replicate, Err, Result}
use Rattle.refusal.specs.Table.{refusal, Verdict, no_refusal}
use Rattle.field.specs.declared.Order.{Order}
use Rattle.field.specs.Numbers.{u32_at}
use Rattle.offset.specs.declared.Offset.{Offset}
use Rattle.offset.specs.Offset.{offset_of, whole_in}
use Rattle.extension.specs.Walk.{first_place}
use Rattle.buffer.specs.Put.{put}
use Rattle.header.specs.declared.Kind.{Kind}
use Rattle.header.specs.declared.Kind.TheVariants.{Single, Pair}
use Rattle.layout.specs.File.{order_of, kind_of, has_extensions}
use Rattle.piece_walk.specs.declared.Walk.{Walk}
use Rattle.piece_walk.specs.Marks.{marks_of}
use Rattle.piece_walk.specs.Walking.{walked_on}
use Rattle.pieces.specs.declared.Pieces.{Pieces}

-- "At most 2,199,023,255,552 bytes in all."
abbrev pub total_limit : ℕ
total_limit = 2199023255552

abbrev pub passes_total : ℕ → ℕ → Bool
passes_total taken len = ltb total_limit (taken + len)

-- the header and the extender
abbrev pub front_length : ℕ
front_length = 352

-- before the first piece
unfoldable pub fresh : Pieces
fresh =
    record {
      taken = 0;
      front = replicate front_length 0;
      walk = record { at = first_place; count = 0; coming = replicate 8 0; marks = marks_of [] };
    }

-- the first 352 bytes, with those of a piece that follows n bytes
unfoldable pub front_with : List ℕ → ℕ → List ℕ → List ℕ
front_with front n piece = put front n (take (front_length - n) piece)

-- Where the walk over the extensions stops: at a single file's voxel offset, so that it comes to no voxel. A pair's region ends with the
-- file, which the total bounds. Where rule 8 or 9 refuses the offset, what the walk does is not asked.
abbrev pub end_by : Kind → Result Offset Refusal → ℕ
end_by Pair o = total_limit
end_by Single o = whole_in o

-- with a zero extender nothing is walked over
unfoldable pub end_in : Order → List ℕ → ℕ
end_in order front = cond (has_extensions front) (end_by (kind_of front) (offset_of (u32_at order front 108))) 0

-- the walk with a piece. It goes by the first 352 bytes as they are known now: before all of them have come it stands still
unfoldable pub walk_with : List ℕ → Walk → ℕ → List ℕ → Walk
walk_with front g n piece = walked_on (order_of front) (end_in (order_of front) front) g n piece

-- A piece of payload or voxels alone: the first 352 bytes have come, and it begins behind the region of the extensions, or ends before
-- the next one begins.
abbrev pub is_skipped : List ℕ → ℕ → ℕ → ℕ → Bool
is_skipped front at n total = leb front_length n && (leb (end_in (order_of front) front) n || leb total at)

-- of such a piece only the number of its bytes counts
abbrev pub skipped_by : Pieces → List ℕ → Pieces
skipped_by s piece = record { taken = s.taken + length piece; front = s.front; walk = s.walk }

unfoldable pub read_on : Pieces → List ℕ → Pieces
read_on s piece =
    record {
      taken = s.taken + length piece;
      front = front_with s.front s.taken piece;
      walk = walk_with (front_with s.front s.taken piece) s.walk s.taken piece;
    }

unfoldable pub taken_with : Pieces → List ℕ → Pieces
taken_with s piece =
    cond (is_skipped s.front s.walk.at s.taken (s.taken + length piece)) (skipped_by s piece) (read_on s piece)

-- what a piece leaves: a verdict, and the state
pub record Taken : Type 0 where
  pub verdict : Verdict
  pub pieces : Pieces

-- "25 for a piece that would pass that total, before anything else; the reader's state stays. It joins the table with place 0"
unfoldable pub taken_of : Pieces → List ℕ → Taken
taken_of s piece =
    cond (passes_total s.taken (length piece)) (record { verdict = Err (refusal TooManyBytes 0); pieces = s })
    (record { verdict = no_refusal; pieces = taken_with s piece })

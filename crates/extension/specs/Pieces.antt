-- The extensions of a region, each with all its bytes. 01-scope.md: "X lists its extensions by the rules above, each with all its
-- bytes"; a list of them joined is `joined` of the crate field.
use Rattle.std.specs.Prelude.{ℕ, ◌+◌, ◌%◌, ◌≤◌, ◌≡◌, false, List, [], ◌∷◌, pos, nat_abs, length, take, drop}
use Rattle.std.specs.Int.Signed.{lt_z}
use Rattle.field.specs.declared.Order.{Order}
use Rattle.field.specs.Numbers.{i32_at}
use Rattle.extension.specs.declared.Span.{Span}
use Rattle.extension.specs.Walk.{span_at}

-- the bytes of each extension, cut one after the other from a region's bytes
unfoldable pub pieces : List Span → List ℕ → List (List ℕ)
pieces [] rest = []
pieces (x ∷ xs) rest = take (nat_abs x.size) rest ∷ pieces xs (drop (nat_abs x.size) rest)

-- all bytes of one extension: the size that it states is their number, a positive multiple of 16 (rule 13), and its code is not
-- negative (rule 14)
pub record Complete (order : Order) (x : List ℕ) : Type 0 where
  pub size : i32_at order x 0 ≡ pos (length x)
  pub least : 16 ≤ length x
  pub units : length x % 16 ≡ 0
  pub code : lt_z (i32_at order x 4) (pos 0) ≡ false

pub data AllComplete (order : Order) : List (List ℕ) → Type 0 where
  none : AllComplete order []
  one : {x : List ℕ} {xs : List (List ℕ)} → Complete order x → AllComplete order xs → AllComplete order (x ∷ xs)

-- the spans of extensions that stand one after the other from a place on
unfoldable pub spans_from : Order → ℕ → List (List ℕ) → List Span
spans_from order at [] = []
spans_from order at (x ∷ xs) = span_at order at x ∷ spans_from order (at + length x) xs

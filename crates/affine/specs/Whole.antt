-- The stated case in which a position is exact: 01-scope.md, "If the first three numbers of each row are whole and at most 64 in size, and its
-- last is whole and at most 8,388,608 in size, the position is the exact whole number." Numbers are compared by value: of a zero the sign is left
-- open, so -0 can be an answer.
use Rattle.affine.specs.declared.Position.{Position}
use Rattle.std.specs.Prelude.{◌≡◌, Bool, true, false, List, ℕ, ◌≤◌, ℤ, pos, neg_ℤ, nat_abs, ◌+ℤ◌, ◌*ℤ◌, Float, Some, None, Option}
use Rattle.std.specs.Float.Ieee.Exact.{HasValue}
use Rattle.affine.specs.Method.{number_at}

-- the integer of a sign, negative where it is true, and a size
abbrev pub signed : Bool → ℕ → ℤ
signed false n = pos n
signed true n = neg_ℤ (pos n)

-- x is finite, and its value is the whole number z. Both zeros have the value 0.
pub record IsWhole (x : Float) (z : ℤ) : Type 0 where
  pub sign : Bool
  pub size : ℕ
  pub value : HasValue x sign size 1
  pub is : signed sign size ≡ z

-- of the first three numbers of a row: "at most 64 in size"
abbrev pub first_limit : ℕ
first_limit = 64

-- of its last: "at most 8,388,608 in size"
abbrev pub last_limit : ℕ
last_limit = 8388608

-- a row of whole numbers within these limits
pub record WholeRow (row : List ℕ) : Type 0 where
  pub n0 : ℤ
  pub n1 : ℤ
  pub n2 : ℤ
  pub n3 : ℤ
  pub is0 : IsWhole (number_at row 0) n0
  pub is1 : IsWhole (number_at row 1) n1
  pub is2 : IsWhole (number_at row 2) n2
  pub is3 : IsWhole (number_at row 3) n3
  pub small0 : nat_abs n0 ≤ first_limit
  pub small1 : nat_abs n1 ≤ first_limit
  pub small2 : nat_abs n2 ≤ first_limit
  pub small3 : nat_abs n3 ≤ last_limit

-- the exact number of such a row at i, j, k
abbrev pub exact_of : {row : List ℕ} → WholeRow row → ℕ → ℕ → ℕ → ℤ
exact_of w i j k = w.n0 *ℤ pos i +ℤ w.n1 *ℤ pos j +ℤ w.n2 *ℤ pos k +ℤ w.n3

-- an answer that is the position of three whole numbers
abbrev pub PlacedExactly : Option Position → ℤ → ℤ → ℤ → Type 0
PlacedExactly None x y z = ⊥
PlacedExactly (Some p) x y z = IsWhole p.x x × IsWhole p.y y × IsWhole p.z z

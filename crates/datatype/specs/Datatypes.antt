-- The datatypes as one table, in the paper's order. 01-scope.md: "Datatype, bits, swap unit in bytes: 2, 8, 1; 4, 16, 2; ..".
-- The codes are those of source document 002; the swap unit is the size of the parts of which a voxel is made.
use Rattle.std.specs.Prelude.{ℕ, ◌/◌, Bool, false, cond, List, [], ◌∷◌, eqb, ℤ, pos, negsuc, Some, None, Option}
use Rattle.datatype.specs.declared.Format.{Format}

-- an entry of the table: code, bits, swap unit in bytes
pub record Entry : Type 0 where
  pub code : ℕ
  pub bits : ℕ
  pub unit : ℕ

abbrev entry : ℕ → ℕ → ℕ → Entry
entry code bits unit = record { code = code; bits = bits; unit = unit }

abbrev pub datatypes : List Entry
datatypes =
    entry 2 8 1
    ∷ entry 4 16 2
    ∷ entry 8 32 4
    ∷ entry 16 32 4
    ∷ entry 32 64 4
    ∷ entry 64 64 8
    ∷ entry 128 24 1
    ∷ entry 256 8 1
    ∷ entry 512 16 2
    ∷ entry 768 32 4
    ∷ entry 1024 64 8
    ∷ entry 1280 64 8
    ∷ entry 1536 128 16
    ∷ entry 1792 128 8
    ∷ entry 2048 256 16
    ∷ entry 2304 32 1
    ∷ []

-- whether a signed number is n
abbrev pub is_number : ℤ → ℕ → Bool
is_number (pos m) n = eqb m n
is_number (negsuc m) n = false

abbrev pub format_of : Entry → Format
format_of r = record { bits = pos r.bits; bytes = r.bits / 8; unit = r.unit }

-- the format of the entry with that code, if there is one
abbrev pub lookup : ℤ → List Entry → Option Format
lookup code [] = None
lookup code (r ∷ rs) = cond (is_number code r.code) (Some (format_of r)) (lookup code rs)

unfoldable pub datatype_of : ℤ → Option Format
datatype_of code = lookup code datatypes

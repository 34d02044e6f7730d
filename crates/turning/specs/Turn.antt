-- What a swap turns round beside the header, and by which unit. 01-scope.md, "Voxels and byte order": "Swapping turns round ...
-- each extension's size and code, and each swap unit of the image. All else stays: text, private bytes, payloads, an image file's
-- front, bytes after the image."
use Rattle.datatype.specs.declared.Format.{Format}
use Rattle.std.specs.Prelude.{ℕ, zero, suc, ◌-◌, ◌≤◌, List, [], ◌∷◌, ◌++◌, nat_abs, length, drop, Some, None, Option}
use Rattle.field.specs.declared.Order.{Order}
use Rattle.field.specs.Numbers.{i16_at, u32_at}
use Rattle.datatype.specs.Datatypes.{datatype_of}
use Rattle.extension.specs.declared.Span.{Span}
use Rattle.units.specs.Runs.{Run, run}

-- ---- What the promise of swap rests on

-- the swap unit of a datatype; one that the table lacks is refused before anything is turned (rule 6)
abbrev pub unit_of : Option Format → ℕ
unit_of (Some t) = t.unit
unit_of None = 1

-- the swap unit of a file: that of its datatype, whatever its bitpix
unfoldable pub unit_in : Order → List ℕ → ℕ
unit_in order s = unit_of (datatype_of (i16_at order s 70))

-- "each extension's size and code" of one of n bytes; its payload stays
abbrev pub one_extension : ℕ → List Run
one_extension n = run 4 2 ∷ run 1 (n - 8) ∷ []

-- of each of a list
abbrev pub extension_runs : List Span → List Run
extension_runs [] = []
extension_runs (x ∷ xs) = one_extension (nat_abs x.size) ++ extension_runs xs

-- ---- What only the steps between cite

-- the same of the first n, by the sizes that the bytes state; of an accepted file they are those of its list (`listed_holds`)
unfoldable pub runs_in : Order → ℕ → List ℕ → List Run
runs_in order zero s = []
runs_in order (suc n) s = one_extension (u32_at order s 0) ++ runs_in order n (drop (u32_at order s 0) s)

-- n extensions, one after the other from the front: the size that each states has room for size and code, and so many bytes are
-- there
pub data Standing (order : Order) : ℕ → List ℕ → Type 0 where
  none : {s : List ℕ} → Standing order 0 s
  one : {n : ℕ} {s : List ℕ} → 8 ≤ u32_at order s 0 → u32_at order s 0 ≤ length s → Standing order n (drop (u32_at order s 0) s)
      → Standing order (suc n) s

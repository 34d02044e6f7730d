-- The extensions of a file: what stands at a place, and the whole list (01-scope.md, "Extensions", rules 13, 14 and 15).
use Rattle.refusal.specs.declared.Rule.TheVariants.{WrongSize, NegativeCode, TooManyExtensions}
use Rattle.std.specs.Prelude.{ℕ, zero, suc, ◌+◌, ◌-◌, ◌%◌, Bool, not, cond, ◌&&◌, List, [], ◌∷◌, leb, eqb, ℤ, pos, nat_abs, length, take, drop, Ok, Err, Some, None, Result, Option}
use Rattle.std.specs.Int.Signed.{lt_z}
use Rattle.field.specs.declared.Order.{Order}
use Rattle.field.specs.Numbers.{i32_at}
use Rattle.refusal.specs.declared.Refusal.{Refusal}
use Rattle.refusal.specs.Table.{Row, row, refusal, verdict, decided}
use Rattle.extension.specs.declared.Span.{Span}
use Rattle.extension.specs.declared.Walker.{Walker}

-- "up to 64 extension spans"; a 65th is rule 15
abbrev pub extension_limit : ℕ
extension_limit = 64

-- "With 1,0,0,0 they begin at 352"
abbrev pub first_place : ℕ
first_place = 352

-- "The size rule: at least 16 bytes are left, the size is a positive multiple of 16, and it doesn't pass the end."
unfoldable pub size_rule : ℤ → ℕ → Bool
size_rule size left = leb 16 left && (lt_z (pos 0) size && (eqb (nat_abs size % 16) 0 && leb (nat_abs size) left))

-- "At each extension 15 is tried, then 13, then 14." So many extensions came before; at the place `at` stand n more bytes of the
-- region, and they begin with a size and a code.
abbrev pub extension_rows : ℕ → ℕ → ℕ → ℤ → ℤ → List Row
extension_rows before at n size code =
    row TooManyExtensions (leb extension_limit before) at
    ∷ row WrongSize (not (size_rule size n)) at
    ∷ row NegativeCode (lt_z code (pos 0)) (at + 4)
    ∷ []

-- a span is an extension's start, size and code
abbrev pub span : ℕ → ℤ → ℤ → Span
span at size code = record { start = at; size = size; code = code }

abbrev pub span_at : Order → ℕ → List ℕ → Span
span_at order at rest = span at (i32_at order rest 0) (i32_at order rest 4)

-- what stands at a place: an extension, the region's end, or what refuses the file
pub data Found : Type 0 where
  extension : Span → Found
  ended : Found
  refused : Refusal → Found

-- "at least one (an empty region gives 13 at 352)": the end is found only after an extension
abbrev pub found_by : ℕ → ℕ → ℕ → ℤ → ℤ → Found
found_by before at n size code =
    cond (eqb n 0) (cond (eqb before 0) (refused (refusal WrongSize at)) ended)
    (decided (verdict (extension_rows before at n size code)) (extension (span at size code)) refused)

-- of the region's `rest` only its length and its first two numbers count
unfoldable pub found : Order → ℕ → ℕ → List ℕ → Found
found order before at rest = found_by before at (length rest) (i32_at order rest 0) (i32_at order rest 4)

-- the bytes of a region that ends at `end`, from the place `at` on
abbrev pub rest_of : List ℕ → ℕ → ℕ → List ℕ
rest_of file end at = drop at (take end file)

-- "A walker over the list moves on one extension at a time and hands its next state back."
abbrev pub past : Walker → Span → Walker
past w x = record { order = w.order; end = w.end; at = w.at + nat_abs x.size; count = w.count + 1 }

abbrev pub step_from : Walker → Found → Result (Option (Span × Walker)) Refusal
step_from w (extension x) = Ok (Some (x, past w x))
step_from w ended = Ok None
step_from w (refused r) = Err r

unfoldable pub step_of : List ℕ → Walker → Result (Option (Span × Walker)) Refusal
step_of file w = step_from w (found w.order w.count w.at (rest_of file w.end w.at))

-- the list of a region's extensions, or the first refusal
pub data Walked : Type 0 where
  listed : List Span → Walked
  stopped : Refusal → Walked

abbrev pub onto : Span → Walked → Walked
onto x (listed xs) = listed (x ∷ xs)
onto x (stopped r) = stopped r

abbrev pub go_on : Found → (Span → Walked) → Walked
go_on (extension x) f = f x
go_on ended f = listed []
go_on (refused r) f = stopped r

-- The walk recurses on how many extensions may still come, `left`: so many came before as the limit has more. Where none may come,
-- none is found, so the last case is not reached.
unfoldable pub walk : Order → ℕ → ℕ → List ℕ → Walked
walk order zero at rest = go_on (found order extension_limit at rest) (λ x. listed [])
walk order (suc n) at rest =
    go_on (found order (extension_limit - suc n) at rest)
    (λ x. onto x (walk order n (at + nat_abs x.size) (drop (nat_abs x.size) rest)))

-- the extensions of a file whose region ends at `end`
unfoldable pub extensions_in : Order → ℕ → List ℕ → Walked
extensions_in order end file = walk order extension_limit first_place (rest_of file end first_place)

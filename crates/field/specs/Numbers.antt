-- Numbers of one, two and four bytes in either byte order, as source document 003 lists them.
-- 01-scope.md: "The byte order is the one in which dim[0] is in 1..7"; "dim entries are signed 16-bit"; an extension has
-- "a signed 4-byte size and a signed 4-byte code in the file's order".
-- Every definition is total: past the end of a file there are zeros.
use Rattle.std.specs.Prelude.{ℕ, zero, suc, ◌+◌, ◌*◌, ◌/◌, ◌%◌, List, [], ◌∷◌, ◌++◌, reverse, ℤ, pos, get_or}
use Rattle.std.specs.Int.{w16, w32}
use Rattle.std.proofs.Common.{to_z, of_z}
use Rattle.field.specs.declared.Order.{Order}
use Rattle.field.specs.declared.Order.TheVariants.{Little, Big}

-- f 0, f 1, .., f (n - 1)
abbrev pub tabulate {ℓ} : {A : Type ℓ} → (ℕ → A) → ℕ → List A
tabulate f zero = []
tabulate f (suc n) = f 0 ∷ tabulate (λ i. f (suc i)) n

-- the w bytes of s from `at`
abbrev pub bytes_at : ℕ → ℕ → List ℕ → List ℕ
bytes_at at w s = tabulate (λ i. get_or s (at + i) 0) w

-- exactly n bytes: the first n of l, with zeros where it is shorter
unfoldable pub padded : ℕ → List ℕ → List ℕ
padded n l = tabulate (λ i. get_or l i 0) n

-- the number of some bytes, the least significant first
abbrev pub little_value : List ℕ → ℕ
little_value [] = 0
little_value (b ∷ bs) = b + 256 * little_value bs

-- the byte order that a swap leaves
abbrev pub other : Order → Order
other Little = Big
other Big = Little

-- bytes in a file's order, put with the least significant first; and back again
abbrev pub low_first : Order → List ℕ → List ℕ
low_first Little bs = bs
low_first Big bs = reverse bs

-- the number that bytes in a file's order stand for
abbrev pub number_of : Order → List ℕ → ℕ
number_of order bs = little_value (low_first order bs)

-- the w bytes of a number, the least significant first
abbrev pub little_bytes : ℕ → ℕ → List ℕ
little_bytes zero n = []
little_bytes (suc w) n = n % 256 ∷ little_bytes w (n / 256)

-- the w bytes of a number in a file's order
unfoldable pub bytes_of : Order → ℕ → ℕ → List ℕ
bytes_of order w n = padded w (low_first order (little_bytes w n))

-- the unsigned number of two bytes, and of four, at a place
unfoldable pub u16_at : Order → List ℕ → ℕ → ℕ
u16_at order s at = number_of order (bytes_at at 2 s)

unfoldable pub u32_at : Order → List ℕ → ℕ → ℕ
u32_at order s at = number_of order (bytes_at at 4 s)

-- the signed ones: the same bits in two's complement
abbrev pub i16_at : Order → List ℕ → ℕ → ℤ
i16_at order s at = to_z w16 (u16_at order s at)

abbrev pub i32_at : Order → List ℕ → ℕ → ℤ
i32_at order s at = to_z w32 (u32_at order s at)

-- n numbers one after the other
abbrev pub u32s_at : Order → List ℕ → ℕ → ℕ → List ℕ
u32s_at order s at n = tabulate (λ i. u32_at order s (at + i * 4)) n

abbrev pub i16s_at : Order → List ℕ → ℕ → ℕ → List ℤ
i16s_at order s at n = tabulate (λ i. i16_at order s (at + i * 2)) n

-- pieces one after the other
abbrev pub joined : List (List ℕ) → List ℕ
joined [] = []
joined (p ∷ ps) = p ++ joined ps

-- the bytes of n numbers one after the other
unfoldable pub u32s_bytes : Order → ℕ → List ℕ → List ℕ
u32s_bytes order n l = joined (tabulate (λ i. bytes_of order 4 (get_or l i 0)) n)

unfoldable pub i16s_bytes : Order → ℕ → List ℤ → List ℕ
i16s_bytes order n l = joined (tabulate (λ i. bytes_of order 2 (of_z w16 (get_or l i (pos 0)))) n)

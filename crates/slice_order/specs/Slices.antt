-- The slice of a rank, and which codes mirror one another: 02-change-requests.md, P8. The rank rule is that of the crate slices; there is no
-- second rule here.
use Rattle.std.specs.Prelude.{ℕ, zero, suc, ◌+◌, ◌-◌, ◌%◌, cond, eqb}
use Rattle.slices.specs.Ranks.{count_of, rank_in}

-- the first of the n slices from s on that has the rank r, and the slice after them where none has
unfoldable pub first_with : (ℕ → ℕ) → ℕ → ℕ → ℕ → ℕ
first_with rank r s zero = s
first_with rank r s (suc n) = cond (eqb (rank s) r) s (first_with rank r (suc s) n)

-- "A call finds the slice again from a rank": the slice of start to end that has it. A rank below N is that of exactly one (`each_once`).
abbrev pub slice_with : ℕ → ℕ → ℕ → ℕ → ℕ
slice_with code start end r = first_with (rank_in code start end) r start (count_of start end)

-- "ALT_INC and ALT_DEC mirror one another .. Likewise the other two pairs": the other code of 1 and 2, of 3 and 4, of 5 and 6
abbrev pub mirror_code : ℕ → ℕ
mirror_code code = cond (eqb (code % 2) 1) (code + 1) (code - 1)

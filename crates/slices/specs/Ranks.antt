-- The rank rule of 01-scope.md, "Slices and positions": the codes in order are 1 SEQ_INC, 2 SEQ_DEC, 3 ALT_INC, 4 ALT_DEC, 5 ALT_INC2 and
-- 6 ALT_DEC2. Any other code states no timing, so what stands here of it is never asked.
use Rattle.std.specs.Prelude.{ℕ, ◌+◌, ◌-◌, ◌/◌, ◌%◌, cond, leb, eqb}

-- "N = end - start + 1"
abbrev pub count_of : ℕ → ℕ → ℕ
count_of start end = end - start + 1

-- "o = s - start (INC) or end - s (DEC)": INC are the odd codes
unfoldable pub order_in : ℕ → ℕ → ℕ → ℕ → ℕ
order_in code start end s = cond (eqb (code % 2) 1) (s - start) (end - s)

-- "for ALT, o/2 when o is even, else (N+1)/2 + (o-1)/2"
unfoldable pub alt_rank : ℕ → ℕ → ℕ
alt_rank n o = cond (eqb (o % 2) 0) (o / 2) ((n + 1) / 2 + (o - 1) / 2)

-- "for ALT2, (o-1)/2 when o is odd, else N/2 + o/2"
unfoldable pub alt2_rank : ℕ → ℕ → ℕ
alt2_rank n o = cond (eqb (o % 2) 1) ((o - 1) / 2) (n / 2 + o / 2)

-- either, by the parity of the o that come first
abbrev pub parity_rank : ℕ → ℕ → ℕ → ℕ
parity_rank first n o = cond (eqb first 0) (alt_rank n o) (alt2_rank n o)

-- "The rank is o for SEQ", and as above for ALT and ALT2
unfoldable pub rank_of : ℕ → ℕ → ℕ → ℕ
rank_of code n o = cond (leb code 2) o (cond (leb code 4) (alt_rank n o) (alt2_rank n o))

-- the rank of the slice s among the slices start to end
abbrev pub rank_in : ℕ → ℕ → ℕ → ℕ → ℕ
rank_in code start end s = rank_of code (count_of start end) (order_in code start end s)

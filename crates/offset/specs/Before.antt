-- The offset's reading before P6 of 02-change-requests.md: whole, or the rule that refuses. It is kept for the law that "no file is newly
-- refused" (`verdict_kept`, reader/Before).
use Rattle.std.specs.Prelude.{ℕ, cond, ◌==◌}
use Rattle.refusal.specs.Table.{verdict, decided, number_of}
use Rattle.offset.specs.Offset.{whole_of, offset_rows}

pub data Before : Type 0 where
  whole : ℕ → Before
  not_whole : Before
  too_large : Before

-- the case of a rule's number: not_whole is rule 8, too_large rule 9
abbrev pub case_before : ℕ → Before
case_before n = cond (n == 8) not_whole too_large

unfoldable pub offset_before : ℕ → Before
offset_before bits = decided (verdict (offset_rows bits)) (whole (whole_of bits)) (λ r. case_before (number_of r.rule))

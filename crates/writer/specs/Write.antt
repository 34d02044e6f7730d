-- Writing a record. 01-scope.md: "It refuses 2 when the record's dim[0] is not in 1..7 .., then 5..10 as a reader in the record's
-- order would (the pair's file length in 9 apart), then 22, and otherwise writes only the first 348 bytes." 02-change-requests.md, P4: "the
-- writer gives 26, after 10 and before 22, exactly when a stored size is wrong"; P6: "the writer's 26 is also given for a record where this
-- fact is wrong".
use Rattle.refusal.specs.declared.Rule.TheVariants.{ShortBuffer, WrongRecord}
use Rattle.std.specs.Prelude.{ℕ, List, [], ◌∷◌, ◌++◌, ltb, length, drop}
use Rattle.refusal.specs.Table.{Row, row, verdict, decided, Verdict}
use Rattle.header.specs.declared.Header.{Header}
use Rattle.encode.specs.Encode.{encode}
use Rattle.rules.specs.Rules.{record_rows, wrong_facts}

-- rules 2, 5..10, 26 and 22, of a record and the buffer's length
abbrev pub write_rows : Header → ℕ → List Row
write_rows h len = record_rows h ++ (row WrongRecord (wrong_facts h) 0 ∷ row ShortBuffer (ltb len 348) 0 ∷ [])

unfoldable pub write_answer : Header → ℕ → Verdict
write_answer h len = verdict (write_rows h len)

-- what the buffer l holds afterwards
unfoldable pub written : Header → List ℕ → List ℕ
written h l = decided (write_answer h (length l)) (encode h ++ drop 348 l) (λ r. l)

-- What an edit comes to: its verdict with 24 first, its answer, and the buffer afterwards (01-scope.md, "Refusal numbers" and
-- "Extensions"). l is the lent buffer, and the old file is its first len bytes.
use Rattle.refusal.specs.declared.Rule.TheVariants.{LengthAboveBuffer}
use Rattle.edit.specs.declared.NewFile.{NewFile}
use Rattle.std.specs.Prelude.{ℕ, List, [], ◌∷◌, ltb, ℤ, length, take, Ok, Err, Result}
use Rattle.refusal.specs.declared.Refusal.{Refusal}
use Rattle.refusal.specs.Table.{row, verdict, decided, then, Verdict}
use Rattle.layout.specs.File.{aligned_file}
use Rattle.buffer.specs.Settled.{settled}
use Rattle.change.specs.declared.Change.{Change}
use Rattle.edit_plan.specs.Fresh.{fresh_of}
use Rattle.edit_plan.specs.Refusals.{change_verdict}

-- "24 comes first": "stated file length above the buffer's length"
abbrev pub edit_verdict : List ℕ → ℕ → Change → ℤ → List ℕ → Verdict
edit_verdict l len change code p =
    then (verdict (row LengthAboveBuffer (ltb (length l) len) 0 ∷ [])) (change_verdict (take len l) (length l) change code p)

-- "A refused edit has no fresh file."
pub data Outcome : Type 0 where
  fresh : List ℕ → Outcome
  refused : Refusal → Outcome

unfoldable pub outcome_of : List ℕ → ℕ → Change → ℤ → List ℕ → Outcome
outcome_of l len change code p = decided (edit_verdict l len change code p) (fresh (fresh_of (take len l) change code p)) refused

-- "An edit answers the new length", and whether the new offset is aligned: "an edit beside its new length, for the new offset"
-- (02-change-requests.md, P6), by the same definition as reading the fresh file
abbrev pub edit_answer : Outcome → Result NewFile Refusal
edit_answer (fresh g) = Ok (record { length = length g; aligned = aligned_file g })
edit_answer (refused r) = Err r

-- "The buffer afterwards is the fresh file, then zeros up to the old length where that is longer, then its old content"; on a refusal
-- "every lent buffer keeps its bytes".
abbrev pub buffer_after : List ℕ → ℕ → Outcome → List ℕ
buffer_after l len (fresh g) = settled l len g
buffer_after l len (refused r) = l

-- A call that fills the front of a lent buffer (02-change-requests.md, P5: "a call that fills a lent buffer, here and below, answers each length
-- written and leaves all past it as it stood"): what it answers and what it leaves, by its verdict and the bytes that go there.
use Rattle.refusal.specs.declared.Refusal.{Refusal}
use Rattle.std.specs.Prelude.{ℕ, ◌≡◌, List, length, Ok, Err, Result}
use Rattle.refusal.specs.Table.{decided, Verdict}
use Rattle.buffer.specs.Put.{put}

-- the length written, or the refusal
abbrev pub filled_by : Verdict → List ℕ → Result ℕ Refusal
filled_by v bytes = decided v (Ok (length bytes)) Err

-- the bytes at the front and the rest as it was; a refused call writes none
abbrev pub left_by : Verdict → List ℕ → List ℕ → List ℕ
left_by v bytes out = decided v (put out 0 bytes) (λ r. out)

-- both, of the buffer `out` before the call and `out'` after it
abbrev pub Fills : Verdict → List ℕ → List ℕ → Result ℕ Refusal → List ℕ → Type 0
Fills v bytes out answer out' = (answer ≡ filled_by v bytes) × (out' ≡ left_by v bytes out)

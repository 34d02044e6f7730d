-- What a walk shows of a list that is not kept: how many extensions there are, and the one that is wanted.
use Rattle.refusal.specs.declared.Refusal.{Refusal}
use Rattle.extension.specs.declared.Span.{Span}
use Rattle.std.specs.Prelude.{ℕ, cond, eqb, length, get_or, Ok, Err, Result}
use Rattle.extension.specs.Walk.{Walked, listed, stopped}
use Rattle.extension.specs.Listing.{no_span}

-- past the last extension there are zeros
abbrev pub scan_of : ℕ → Walked → Result (ℕ × Span) Refusal
scan_of wanted (listed xs) = Ok (length xs, get_or xs wanted no_span)
scan_of wanted (stopped r) = Err r

-- the place that is kept after the extension with this number, which starts at `start`
abbrev pub kept_of : ℕ → ℕ → ℕ → ℕ → ℕ
kept_of number wanted start place = cond (eqb number wanted) start place

-- A list of spans that fills its region. 01-scope.md, "Extensions": "With 1,0,0,0 they begin at 352 and must fill the region
-- exactly".
use Rattle.std.specs.Prelude.{ℕ, ◌+◌, ◌%◌, ◌≤◌, ◌<◌, ◌≡◌, List, [], ◌∷◌, pos, nat_abs}
use Rattle.extension.specs.declared.Span.{Span}

-- a span as the rules 13 and 14 let it be: its numbers are not negative, its size is a positive multiple of 16
pub record Proper (x : Span) : Type 0 where
  pub size : x.size ≡ pos (nat_abs x.size)
  pub least : 16 ≤ nat_abs x.size
  pub units : nat_abs x.size % 16 ≡ 0
  pub small : nat_abs x.size < 2147483648
  pub code : x.code ≡ pos (nat_abs x.code)

-- spans from a place on, each where the last one ends, up to `end`
pub data Fills : ℕ → ℕ → List Span → Type 0 where
  full : {at end : ℕ} → at ≡ end → Fills at end []
  next : {at end : ℕ} {x : Span} {xs : List Span} → x.start ≡ at → Proper x → Fills (at + nat_abs x.size) end xs
      → Fills at end (x ∷ xs)

-- A number in decimal, as ASCII: no sign, no zeros in front, 0 as `0`.
use Rattle.std.specs.Prelude.{ℕ, zero, suc, ◌+◌, ◌/◌, ◌%◌, cond, List, [], ◌∷◌, ◌++◌, ltb}

-- the digits of n: one below 10, and else those of n / 10 and the last one, where at most `more` stand before it
unfoldable pub digits : ℕ → ℕ → List ℕ
digits zero n = (48 + n) ∷ []
digits (suc more) n = cond (ltb n 10) ((48 + n) ∷ []) (digits more (n / 10) ++ ((48 + n % 10) ∷ []))

-- n digits before the last are more than any n has (`decimal_one` and `decimal_next` say the rule without them)
unfoldable pub decimal : ℕ → List ℕ
decimal n = digits n n

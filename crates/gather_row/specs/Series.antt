-- Parts one after another.
use Rattle.std.specs.Prelude.{List, [], ◌++◌, ℕ, zero, suc}

-- g 0, g 1, .. and g (n - 1), one after another
unfoldable pub series : (ℕ → List ℕ) → ℕ → List ℕ
series g zero = []
series g (suc n) = series g n ++ g n

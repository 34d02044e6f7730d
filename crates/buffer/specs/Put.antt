-- What a movement of bytes leaves in a lent buffer: the promise of every function of this crate is one `put`. All other bytes keep their
-- content, as 01-scope.md asks of an edit under "Extensions".
use Rattle.std.specs.Prelude.{List, ◌++◌, ℕ, ◌+◌, length, take, drop}

-- l with e in place of as many bytes from `at`
unfoldable pub put : List ℕ → ℕ → List ℕ → List ℕ
put l at e = take at l ++ (e ++ drop (at + length e) l)

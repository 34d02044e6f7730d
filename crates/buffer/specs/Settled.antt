-- The buffer after an edit of extensions, as 01-scope.md has it under "Extensions".
use Rattle.std.specs.Prelude.{List, ◌++◌, ℕ, ◌-◌, max, length, drop, replicate}

-- what the buffer l, with a file of len bytes in it, holds after an edit: "The buffer afterwards is the fresh file, then zeros up to the
-- old length where that is longer, then its old content."
unfoldable pub settled : List ℕ → ℕ → List ℕ → List ℕ
settled l len fresh = fresh ++ (replicate (len - length fresh) 0 ++ drop (max len (length fresh)) l)

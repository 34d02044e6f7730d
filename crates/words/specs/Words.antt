-- A word: eight bytes side by side as one number, the first of them lowest.
use Rattle.std.specs.Prelude.{ℕ, ◌/◌, List}
use Rattle.field.specs.Numbers.{bytes_at, little_value, little_bytes}
use Rattle.units.specs.Units.{turned}

-- the word of the eight bytes from `at`
unfoldable pub word_at : List ℕ → ℕ → ℕ
word_at s at = little_value (bytes_at at 8 s)

-- the bytes of a word
unfoldable pub word_bytes : ℕ → List ℕ
word_bytes n = little_bytes 8 n

-- the widths of units that fill a word
pub data Fills : ℕ → Type 0 where
  twos : Fills 2
  fours : Fills 4
  eight : Fills 8

-- a word with each of its units of w bytes turned round
unfoldable pub turned_word : ℕ → ℕ → ℕ
turned_word w n = little_value (turned w (8 / w) (word_bytes n))

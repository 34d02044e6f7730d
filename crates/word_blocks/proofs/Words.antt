-- A word that is loaded, turned round and stored is its units turned round in place: four units of two bytes are the four turned singly.
use Prim.Native.Nat.{ℕ, ◌+◌, ◌*◌, ◌/◌, ◌≤◌, ◌<◌}
use mathlib.Core.Path.{◌≡◌, ap, ◌∙◌}
use mathlib.Core.List.{List}
use lib.ListN.{length, take, drop, get_or}
use lib.Seq.{sets}
use Rattle.field.specs.Numbers.{bytes_at, little_value, little_bytes}
use Rattle.field.proofs.Inverse.{Bytes, bytes-tabulate, little_value_back}
use Rattle.field.proofs.Tabulate.{bytes_at_part}
use Rattle.units.specs.Units.{turned, turned_at}
use Rattle.units.proofs.Units.{length-turned}
use Rattle.words.specs.Words.{word_at, word_bytes, turned_word}
use Rattle.words.proofs.Bytes.{bytes_turned}
use Rattle.word_blocks.proofs.Stored.{sets-turned}

-- of a buffer of bytes
module _ (s : List ℕ) (all : (i : ℕ) → get_or s i 0 < 256) where
  -- the bytes of a word that was loaded and turned round
  pub turned_word_lem : (w at : ℕ) → at + 8 ≤ length s → (n t : ℕ) → n ≡ word_at s at → t ≡ turned_word w n
      → word_bytes t ≡ turned w (8 / w) (take 8 (drop at s))
  unfolding turned_word word_bytes word_at
  turned_word_lem w at room n t loaded turns =
      let b : List ℕ = bytes_at at 8 s in
      let bytes : Bytes b = bytes-tabulate (λ (i : ℕ). get_or s (at + i) 0) (λ i. all (at + i)) 8 in
      let back : little_bytes 8 (little_value b) ≡ b = little_value_back bytes in
      let size : length (turned w (8 / w) b) ≡ 8 = length-turned w (8 / w) b in
      rw (turns, loaded, back) (rw size at (little_value_back (bytes_turned w (8 / w) bytes)) ∙ ap (turned w (8 / w)) (bytes_at_part at 8 s room))

  -- and stored
  pub word_turned : (w at : ℕ) → 8 / w * w ≡ 8 → at + 8 ≤ length s → (n t : ℕ) (s' : List ℕ) → n ≡ word_at s at → t ≡ turned_word w n
      → s' ≡ sets s at (word_bytes t) → s' ≡ turned_at w at (8 / w) s
  word_turned w at fills room n t s' loaded turns stored =
      let own : word_bytes t ≡ turned w (8 / w) (take (8 / w * w) (drop at s)) = rw fills (turned_word_lem w at room n t loaded turns) in
      stored ∙ sets-turned w (8 / w) at s (word_bytes t) (rw fills room) own

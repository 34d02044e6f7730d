-- `turn_words` meets its contract: two words turned round, each where it was or in the other's place, as the unit's width asks for (proofs/Blocks.antt).
use Prim.Native.Nat.{ℕ, ◌+◌, ◌/◌, ◌<◌}
use mathlib.Core.Path.{◌≡◌, refl, ◌∙◌}
use mathlib.Core.List.{List}
use native.Mathlib.Omega.{arith}
use lib.ListN.{take, drop, get_or}
use Rattle.units.specs.Units.{turned}
use Rattle.words.specs.Words.{fours, eight, word_bytes, turned_word}
use Rattle.words.proofs.Bytes.{length-word_bytes}
use Rattle.word_blocks.proofs.Stored.{two_stored}
use Rattle.word_blocks.proofs.Words.{turned_word_lem}
use Rattle.word_blocks.proofs.Blocks.{words_kept, words_crossed, wide_other}
use Rattle.word_blocks.proofs.turn_words.Goals as goal
use Rattle.word_blocks.proofs.turn_words.Goals.{After-word_at-b}

-- the two words, as they were loaded
module _ (l : After-word_at-b) where
  abbrev at : ℕ
  at = l.args.at

  abbrev s : List ℕ
  s = l.args.buf.now

  bytes : (i : ℕ) → get_or s i 0 < 256
  bytes i = (l.slice_known-1.given i).fits

  -- turned round as units of w bytes
  one : (w t : ℕ) → t ≡ turned_word w l.word_at-a.result → word_bytes t ≡ turned w (8 / w) (take 8 (drop at s))
  one w t e = turned_word_lem s bytes w at (omega (arith, l.requires.1)) l.word_at-a.result t l.word_at-a.ensures e

  other : (w t : ℕ) → t ≡ turned_word w l.word_at-b.result → word_bytes t ≡ turned w (8 / w) (take 8 (drop (at + 8) s))
  other w t e = turned_word_lem s bytes w (at + 8) (omega (arith, l.requires.1)) l.word_at-b.result t l.word_at-b.ensures e

pub turned-requires : goal.turned-requires
turned-requires c = fours

pub turned-requires-in-4 : goal.turned-requires-in-4
turned-requires-in-4 c = fours

pub turned-requires-in-8 : goal.turned-requires-in-8
turned-requires-in-8 c = eight

pub turned-requires-in-8-2 : goal.turned-requires-in-8-2
turned-requires-in-8-2 c = eight

pub turned-requires-in_default : goal.turned-requires-in_default
turned-requires-in_default c = eight

pub turned-requires-in_default-2 : goal.turned-requires-in_default-2
turned-requires-in_default-2 c = eight

pub returns-in-4 : goal.returns-in-4
returns-in-4 c =
    let l = (goal.at.returns-in-4 c).After-word_at-b in
    let t = c.turned in
    let u = c.turned-in-4 in
    let stored =
    two_stored (at l) 8 (word_bytes t.result) (word_bytes u.result) (s l) c.put_word.new.buf c.put_word-in-4.new.buf
    (length-word_bytes t.result) c.put_word.ensures c.put_word-in-4.ensures in
    rw c.in-4.is
    (stored ∙ words_kept (s l) (at l) c.requires.1 4 (one l 4 t.result t.ensures) (other l 4 u.result u.ensures) refl refl)

pub returns-in-8 : goal.returns-in-8
returns-in-8 c =
    let l = (goal.at.returns-in-8 c).After-word_at-b in
    let t = c.turned-in-8 in
    let u = c.turned-in-8-2 in
    let stored =
    two_stored (at l) 8 (word_bytes t.result) (word_bytes u.result) (s l) c.put_word-in-8.new.buf c.put_word-in-8-2.new.buf
    (length-word_bytes t.result) c.put_word-in-8.ensures c.put_word-in-8-2.ensures in
    rw c.in-8.is
    (stored ∙ words_kept (s l) (at l) c.requires.1 8 (one l 8 t.result t.ensures) (other l 8 u.result u.ensures) refl refl)

pub returns-in_default : goal.returns-in_default
returns-in_default c =
    let l = (goal.at.returns-in_default c).After-word_at-b in
    let t = c.turned-in_default in
    let u = c.turned-in_default-2 in
    let stored =
    two_stored (at l) 8 (word_bytes t.result) (word_bytes u.result) (s l) c.put_word-in_default.new.buf c.put_word-in_default-2.new.buf
    (length-word_bytes t.result) c.put_word-in_default.ensures c.put_word-in_default-2.ensures in
    rw (wide_other c.requires.0 c.in_default.in_default-own.rest.0.1 c.in_default.in_default-own.rest.1)
    (stored ∙ words_crossed (s l) (at l) c.requires.1 (one l 8 u.result u.ensures) (other l 8 t.result t.ensures))

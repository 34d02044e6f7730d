-- The steps between a word's units, each one citation of the law of proofs/Exchange.antt: from bytes to pairs, to fours, to eight, and from eight to fours;
-- and that a word turned by half its bits has its halves exchanged.
use Prim.Native.Nat.{ℕ, ◌*◌, ◌/◌, ◌%◌, ◌^◌, ◌<◌}
use mathlib.Core.Path.{◌≡◌, refl, sym, ap, ◌∙◌}
use native.Mathlib.Omega.{arith}
use lib.Bits.{bit_and, bit_or, and_mask}
use lib.Dec.{lit<}
use Rattle.std.specs.Int.{w64, rotate_left}
use Rattle.field.specs.Numbers.{little_value, little_bytes}
use Rattle.field.proofs.Inverse.{little_value_of}
use Rattle.units.specs.Units.{turned}
use Rattle.units.proofs.Units.{turned_bytes}
use Rattle.words.specs.Words.{turned_word, word_bytes}
use Rattle.words.proofs.Bytes.{bytes_little}
use Rattle.words.proofs.Exchange.{exchange_turns, exchange_back}

-- fields of k bits exchanged, by shifts and a mask
abbrev pub step : ℕ → ℕ → ℕ → ℕ
step k mask n = bit_or ((bit_and n mask * 2 ^ k) % 2 ^ 64) (bit_and (n / 2 ^ k) mask)

module _ (word : ℕ) where
  pub to_twos : word < 2 ^ 64 → step 8 0x00ff_00ff_00ff_00ff word ≡ turned_word 2 word
  unfolding turned_word word_bytes
  to_twos h =
      let l = little_bytes 8 word in
      let single : word ≡ little_value (turned 1 8 l) = sym (ap little_value (turned_bytes 8 l) ∙ little_value_of 8 word h) in
      exchange_turns 1 8 refl 4 0x00ff_00ff_00ff_00ff refl (lit< tt) l (bytes_little 8 word) refl word single

  module _ (n : ℕ) where
    pub to_fours : n ≡ turned_word 2 word → step 16 0x0000_ffff_0000_ffff n ≡ turned_word 4 word
    unfolding turned_word word_bytes
    to_fours = exchange_turns 2 16 refl 2 0x0000_ffff_0000_ffff refl (lit< tt) (little_bytes 8 word) (bytes_little 8 word) refl n

    pub to_eight : n ≡ turned_word 4 word → step 32 0x0000_0000_ffff_ffff n ≡ turned_word 8 word
    unfolding turned_word word_bytes
    to_eight = exchange_turns 4 32 refl 1 0x0000_0000_ffff_ffff refl (lit< tt) (little_bytes 8 word) (bytes_little 8 word) refl n

    pub from_eight : n ≡ turned_word 8 word → step 32 0x0000_0000_ffff_ffff n ≡ turned_word 4 word
    unfolding turned_word word_bytes
    from_eight = exchange_back 4 32 refl 1 0x0000_0000_ffff_ffff refl (lit< tt) (little_bytes 8 word) (bytes_little 8 word) refl n

-- the halves of a word exchanged, as std turns it round by half its bits
pub halves_exchanged : (n : ℕ) → n < 2 ^ 64 → rotate_left w64 n 32 ≡ step 32 0x0000_0000_ffff_ffff n
halves_exchanged n h =
    let low : bit_and n 0x0000_0000_ffff_ffff ≡ n % 2 ^ 32 = and_mask n 32 in
    let high : bit_and (n / 2 ^ 32) 0x0000_0000_ffff_ffff ≡ n / 2 ^ 32 = and_mask (n / 2 ^ 32) 32 ∙ omega arith in
    let up : (n * 2 ^ 32) % 2 ^ 64 ≡ (n % 2 ^ 32 * 2 ^ 32) % 2 ^ 64 = omega arith in
    rw (low, high, up) refl

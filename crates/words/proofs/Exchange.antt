-- Neighbouring fields of a word exchanged all at once: `((n & low) << k) | ((n >> k) & low)`, where `low` has the bits of the lower field of each two.
-- Fields of w bytes, each turned round, come to units of twice as many bytes turned round when neighbours are exchanged, and back (`exchange_turns`,
-- `exchange_back`): one law over w for the steps from bytes to pairs, from pairs to fours and from fours to eight.
use Prim.Native.Nat.{ℕ, zero, suc, ◌+◌, ◌-◌, ◌*◌, ◌/◌, ◌%◌, ◌^◌, ◌<◌}
use mathlib.Core.Path.{◌≡◌, sym, ap, ap₂, ◌∙◌}
use mathlib.Core.List.{List, [], ◌∷◌, ◌++◌, reverse, reverse-append, append_assoc}
use native.Mathlib.Nat.{mod-lt, lt_of_lt_of_le, lt_of_le_of_lt, le-add_right, suc-add, add-suc, add-mul, mul_assoc, mul-add, mul_comm, zero-mul, suc-mul}
use native.Mathlib.Nat.{mod-eq_of_lt, mul-le-mul_right}
use native.Mathlib.Omega.{arith}
use lib.Arith.{digits_lt}
use lib.Bits.{bit_and, bit_or, and_block, and_mask, and_zero_r, and_le_r, or_block, or_shifted}
use lib.ListN.{length, take, drop, length-take, length-drop, length-reverse}
use lib.Pow.{pow-add, pow_pos, pow_mono, split, high, low, shr-shr, mod-mod-pow, ones_lt}
use lib.Seq.{take-add, drop-drop}
use Rattle.field.specs.Numbers.{little_value}
use Rattle.field.proofs.Inverse.{Bytes, bytes-reverse, little_value_below}
use Rattle.units.specs.Units.{turned}
use Rattle.words.proofs.Bytes.{bytes_take, bytes_drop, little_append}

-- ---- Fields of k bits

-- the lower field of each of m twos
abbrev pub lows : ℕ → ℕ → ℕ
lows k zero = 0
lows k (suc m) = lows k m * 2 ^ (k + k) + (2 ^ k - 1)

-- what the code computes, where no bit passes the word
abbrev exchange : ℕ → ℕ → ℕ → ℕ
exchange k mask n = bit_or (bit_and n mask * 2 ^ k) (bit_and (n / 2 ^ k) mask)

module _ (k : ℕ) where
  -- two fields are below their bits
  two_fields : (a b : ℕ) → a < 2 ^ k → b < 2 ^ k → a * 2 ^ k + b < 2 ^ (k + k)
  two_fields a b p q = rw (pow-add 2 k k) (digits_lt p q)

  -- a mask keeps the lowest field, and the rest of it meets the rest of the number
  lowest : (n e : ℕ) → bit_and n (e * 2 ^ (k + k) + (2 ^ k - 1)) ≡ bit_and (n / 2 ^ (k + k)) e * 2 ^ (k + k) + n % 2 ^ k
  lowest n e =
      let ones : 2 ^ k - 1 < 2 ^ (k + k) = lt_of_lt_of_le (ones_lt k) (pow_mono (le-add_right k k)) in
      ap (λ (x : ℕ). bit_and x (e * 2 ^ (k + k) + (2 ^ k - 1))) (sym (split n (k + k)))
      ∙ and_block (k + k) (n / 2 ^ (k + k)) e (n % 2 ^ (k + k)) (2 ^ k - 1) (mod-lt n (pow_pos (k + k))) ones
      ∙ ap (λ (x : ℕ). bit_and (n / 2 ^ (k + k)) e * 2 ^ (k + k) + x) (and_mask (n % 2 ^ (k + k)) k ∙ mod-mod-pow n k k)

  -- the two lowest fields change places, and the rest is exchanged by the rest of the mask
  two_exchanged : (r a b e : ℕ) → a < 2 ^ k → b < 2 ^ k
      → exchange k (e * 2 ^ (k + k) + (2 ^ k - 1)) (r * 2 ^ (k + k) + (b * 2 ^ k + a)) ≡ exchange k e r * 2 ^ (k + k) + (a * 2 ^ k + b)
  two_exchanged r a b e p q =
      let P : ℕ = 2 ^ k in
      let Q : ℕ = 2 ^ (k + k) in
      let n : ℕ = r * Q + (b * P + a) in
      let mask : ℕ = e * Q + (P - 1) in
      let square : Q ≡ P * P = pow-add 2 k k in
      let regrouped : n ≡ (r * P + b) * P + a = omega (arith, ap (λ (x : ℕ). r * x) square, mul_assoc r P P, add-mul (r * P) b P) in
      let past : n / P ≡ r * P + b = ap (λ (x : ℕ). x / P) regrouped ∙ high (r * P + b) k p in
      let rest : n / Q ≡ r = high r (k + k) (two_fields b a q p) in
      let first : n % P ≡ a = ap (λ (x : ℕ). x % P) regrouped ∙ low (r * P + b) k p in
      let second : n / P % P ≡ b = ap (λ (x : ℕ). x % P) past ∙ low r k q in
      let either : k + (k + k) ≡ (k + k) + k = omega arith in
      let past-rest : n / P / Q ≡ r / P =
      shr-shr n k (k + k) ∙ ap (λ (x : ℕ). n / 2 ^ x) either ∙ sym (shr-shr n (k + k) k) ∙ ap (λ (x : ℕ). x / P) rest in
      let lower : bit_and n mask ≡ bit_and r e * Q + a = lowest n e ∙ ap₂ (λ (x y : ℕ). bit_and x e * Q + y) rest first in
      let upper : bit_and (n / P) mask ≡ bit_and (r / P) e * Q + b = lowest (n / P) e ∙ ap₂ (λ (x y : ℕ). bit_and x e * Q + y) past-rest second in
      let z : ℕ = bit_and r e in
      let moved : (z * Q + a) * P ≡ z * P * Q + a * P =
      omega (arith, add-mul (z * Q) a P, mul_assoc z Q P, mul_assoc z P Q, ap (λ (x : ℕ). z * x) (mul_comm P Q)) in
      let room : a * P < Q = lt_of_le_of_lt (le-add_right (a * P) b) (two_fields a b p q) in
      let below : b < Q = lt_of_lt_of_le q (pow_mono (le-add_right k k)) in
      ap₂ (λ (x y : ℕ). bit_or (x * P) y) lower upper
      ∙ ap (λ (x : ℕ). bit_or x (bit_and (r / P) e * Q + b)) moved
      ∙ or_block (k + k) (z * P) (bit_and (r / P) e) (a * P) b room below
      ∙ ap (λ (x : ℕ). exchange k e r * Q + x) (or_shifted a k b q)

-- ---- Fields of w bytes

-- two lists of m twos of w bytes, in which the two have changed places
data Crossed (w : ℕ) : ℕ → List ℕ → List ℕ → Type 0 where
  none : Crossed w 0 [] []
  more : {m : ℕ} {a b r s : List ℕ} → Bytes a → length a ≡ w → Bytes b → length b ≡ w → Crossed w m r s
      → Crossed w (suc m) (a ++ (b ++ r)) (b ++ (a ++ s))

crossed_back : {w m : ℕ} {l l' : List ℕ} → Crossed w m l l' → Crossed w m l' l
crossed_back none = none
crossed_back (more p e q f c) = more q f p e (crossed_back c)

-- neighbours, each turned round, and the two of them turned round as one
crossed_turned : (w m : ℕ) (l : List ℕ) → Bytes l → length l ≡ m * (w + w) → Crossed w m (turned w (m + m) l) (turned (w + w) m l)
unfolding turned
crossed_turned w zero [] p e = none
crossed_turned w zero (x ∷ l) p e = absurd (omega (arith, zero-mul (w + w)))
crossed_turned w (suc m) l p e =
    let size : length l ≡ m * (w + w) + (w + w) = e ∙ suc-mul m (w + w) in
    let r : List ℕ = drop w (drop w l) in
    let a : List ℕ = reverse (take w l) in
    let b : List ℕ = reverse (take w (drop w l)) in
    let first : length a ≡ w = simp (length-reverse, length-take) (omega arith) in
    let second : length b ≡ w = simp (length-reverse, length-take, length-drop) (omega arith) in
    let rest : length r ≡ m * (w + w) = simp length-drop (omega arith) in
    let later = bytes_drop w p in
    rw (suc-add, add-suc, take-add w w l, reverse-append, append_assoc, ← drop-drop w w l)
    (more (bytes-reverse (bytes_take w p)) first (bytes-reverse (bytes_take w later)) second (crossed_turned w m r (bytes_drop w later) rest))

module _ (w k : ℕ) (same : 2 ^ k ≡ 256 ^ w) where
  below : {l : List ℕ} → Bytes l → length l ≡ w → little_value l < 2 ^ k
  below p e = rw (same, ← e) (little_value_below p)

  -- two fields and the rest
  fields : (a b r : List ℕ) → length a ≡ w → length b ≡ w
      → little_value (a ++ (b ++ r)) ≡ little_value r * 2 ^ (k + k) + (little_value b * 2 ^ k + little_value a)
  fields a b r p q =
      let P : ℕ = 256 ^ w in
      let u : ℕ = little_value b in
      let v : ℕ = little_value r in
      rw (little_append a (b ++ r), little_append b r, p, q, pow-add 2 k k, same)
      (omega (arith, mul-add P u (P * v), mul_comm P u, mul_assoc P P v, mul_comm (P * P) v))

  crosses : {m : ℕ} {l l' : List ℕ} → Crossed w m l l' → exchange k (lows k m) (little_value l) ≡ little_value l'
  crosses none = rw zero-mul (and_zero_r (0 / 2 ^ k))
  crosses (more {m} {a} {b} {r} {s} p e q f c) =
      ap (exchange k (lows k (suc m))) (fields a b r e f)
      ∙ two_exchanged k (little_value r) (little_value a) (little_value b) (lows k m) (below p e) (below q f)
      ∙ ap (λ (x : ℕ). x * 2 ^ (k + k) + (little_value a * 2 ^ k + little_value b)) (crosses c)
      ∙ sym (fields b a s f e)

  -- ---- As the code has it

  module _ (m mask : ℕ) (is : mask ≡ lows k m) (fits : mask * 2 ^ k < 2 ^ 64) (l : List ℕ) (p : Bytes l) (size : length l ≡ m * (w + w)) (n : ℕ) where
    within : bit_and n mask * 2 ^ k < 2 ^ 64
    within = lt_of_le_of_lt (mul-le-mul_right (2 ^ k) (and_le_r n mask)) fits

    coded : {l₁ l₂ : List ℕ} → Crossed w m l₁ l₂ → n ≡ little_value l₁
        → bit_or ((bit_and n mask * 2 ^ k) % 2 ^ 64) (bit_and (n / 2 ^ k) mask) ≡ little_value l₂
    coded c e = rw (mod-eq_of_lt within, is, e) (crosses c)

    pub exchange_turns : n ≡ little_value (turned w (m + m) l)
        → bit_or ((bit_and n mask * 2 ^ k) % 2 ^ 64) (bit_and (n / 2 ^ k) mask) ≡ little_value (turned (w + w) m l)
    exchange_turns = coded (crossed_turned w m l p size)

    pub exchange_back : n ≡ little_value (turned (w + w) m l)
        → bit_or ((bit_and n mask * 2 ^ k) % 2 ^ 64) (bit_and (n / 2 ^ k) mask) ≡ little_value (turned w (m + m) l)
    exchange_back = coded (crossed_back (crossed_turned w m l p size))

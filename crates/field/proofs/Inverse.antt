-- Numbers and bytes are inverse both ways, once over the width and the byte order: a number read from bytes and written back is
-- those bytes (`number_back`), and a number written and read back is that number (`bytes_number`).
use Prim.Native.Nat.{ℕ, zero, suc, ◌+◌, ◌*◌, ◌/◌, ◌%◌, ◌^◌, ◌≤◌, ◌<◌}
use mathlib.Core.Path.{◌≡◌, refl, ap, ◌∙◌}
use mathlib.Core.List.{List, [], ◌∷◌, ◌++◌, reverse, reverse_aux, reverse-reverse}
use native.Mathlib.Omega.{arith}
use native.Mathlib.Nat.{pow-suc}
use lib.ListN.{length, get_or, length-append, length-reverse}
use lib.Seq.{take_at, drop_at}
use mir.Syntax.{w16, w32}
use mir.Val.{Fits, of_z}
use mir.ValLaws.{of_z-to_z}
use Rattle.field.specs.declared.Order.{Order}
use Rattle.field.specs.declared.Order.TheVariants.{Little, Big}
use Rattle.field.specs.Numbers.{tabulate, bytes_at, padded, little_value, other, low_first, number_of, little_bytes, bytes_of}
use Rattle.field.specs.Numbers.{u16_at, u32_at, i16_at, i32_at}
use Rattle.field.proofs.Tabulate.{bytes_at_part}
use Rattle.field.proofs.Stores.{length-bytes_of}

pub data Bytes : List ℕ → Type 0 where
  none : Bytes []
  one : {a : ℕ} {l : List ℕ} → a < 256 → Bytes l → Bytes (a ∷ l)

bytes_onto : {l r : List ℕ} → Bytes l → Bytes r → Bytes (reverse_aux l r)
bytes_onto none q = q
bytes_onto (one h p) q = bytes_onto p (one h q)

pub bytes-reverse : {l : List ℕ} → Bytes l → Bytes (reverse l)
bytes-reverse p = bytes_onto p none

bytes_low_first : (order : Order) {l : List ℕ} → Bytes l → Bytes (low_first order l)
bytes_low_first Little p = p
bytes_low_first Big p = bytes-reverse p

pub bytes-tabulate : (f : ℕ → ℕ) → ((i : ℕ) → f i < 256) → (n : ℕ) → Bytes (tabulate f n)
bytes-tabulate f h zero = none
bytes-tabulate f h (suc n) = one (h 0) (bytes-tabulate (λ i. f (suc i)) (λ i. h (suc i)) n)

pub little_value_back : {l : List ℕ} → Bytes l → little_bytes (length l) (little_value l) ≡ l
little_value_back none = refl
little_value_back (one {a} {l} h p) =
    let low : (a + 256 * little_value l) % 256 ≡ a = omega arith in
    let high : (a + 256 * little_value l) / 256 ≡ little_value l = omega arith in
    rw (low, high) (ap (λ (r : List ℕ). a ∷ r) (little_value_back p))

pub little_value_below : {l : List ℕ} → Bytes l → little_value l < 256 ^ length l
little_value_below none = omega arith
little_value_below (one {a} {l} h p) = rw (pow-suc 256 (length l)) (omega (arith, little_value_below p))

low_first_twice : (order : Order) (l : List ℕ) → low_first order (low_first order l) ≡ l
low_first_twice Little l = refl
low_first_twice Big l = reverse-reverse l

-- bytes turned round are the same number in the other order
pub number_other : (order : Order) (l : List ℕ) → number_of (other order) (reverse l) ≡ number_of order l
number_other Little l = ap little_value (reverse-reverse l)
number_other Big l = refl

length-low_first : (order : Order) (l : List ℕ) → length (low_first order l) ≡ length l
length-low_first Little l = refl
length-low_first Big l = length-reverse l

padded_all : (l : List ℕ) → padded (length l) l ≡ l
unfolding padded
padded_all [] = refl
padded_all (a ∷ l) = ap (λ (r : List ℕ). a ∷ r) (padded_all l)

-- bytes, read and written back
pub number_back : (order : Order) {l : List ℕ} (w : ℕ) → Bytes l → length l ≡ w → bytes_of order w (number_of order l) ≡ l
unfolding bytes_of padded
number_back order {l} w p e =
    let n : length (low_first order l) ≡ w = length-low_first order l ∙ e in
    let b : little_bytes w (little_value (low_first order l)) ≡ low_first order l = rw (← n) (little_value_back (bytes_low_first order p)) in
    rw (b, low_first_twice, ← e) (padded_all l)

number_below : (order : Order) {l : List ℕ} (w : ℕ) → Bytes l → length l ≡ w → number_of order l < 256 ^ w
number_below order {l} w p e =
    let n : length (low_first order l) ≡ w = length-low_first order l ∙ e in
    rw n at (little_value_below (bytes_low_first order p))

module _ (order : Order) (s : List ℕ) (all : (i : ℕ) → get_or s i 0 < 256) where
  bytes_at_bytes : (at w : ℕ) → Bytes (bytes_at at w s)
  bytes_at_bytes at w = bytes-tabulate (λ i. get_or s (at + i) 0) (λ i. all (at + i)) w

  pub u16_fits : (at : ℕ) → Fits w16 (u16_at order s at)
  unfolding u16_at
  u16_fits at = record { fits = number_below order 2 (bytes_at_bytes at 2) refl }

  pub u32_fits : (at : ℕ) → Fits w32 (u32_at order s at)
  unfolding u32_at
  u32_fits at = record { fits = number_below order 4 (bytes_at_bytes at 4) refl }

  -- each field, read and written back, is the bytes it was read from
  pub u32_back : (at : ℕ) → bytes_of order 4 (u32_at order s at) ≡ bytes_at at 4 s
  unfolding u32_at
  u32_back at = number_back order 4 (bytes_at_bytes at 4) refl

  pub i32_back : (at : ℕ) → bytes_of order 4 (of_z w32 (i32_at order s at)) ≡ bytes_at at 4 s
  i32_back at = rw (of_z-to_z w32 (u32_at order s at) (u32_fits at)) (u32_back at)

  u16_back : (at : ℕ) → bytes_of order 2 (u16_at order s at) ≡ bytes_at at 2 s
  unfolding u16_at
  u16_back at = number_back order 2 (bytes_at_bytes at 2) refl

  pub i16_back : (at : ℕ) → bytes_of order 2 (of_z w16 (i16_at order s at)) ≡ bytes_at at 2 s
  i16_back at = rw (of_z-to_z w16 (u16_at order s at) (u16_fits at)) (u16_back at)

-- the other way: a number, written and read back
pub little_value_of : (w n : ℕ) → n < 256 ^ w → little_value (little_bytes w n) ≡ n
little_value_of zero n h = omega arith
little_value_of (suc w) n h =
    let p : n < 256 ^ w * 256 = rw (pow-suc 256 w) at h in
    omega (arith, little_value_of w (n / 256) (omega arith))

length-little_bytes : (w n : ℕ) → length (little_bytes w n) ≡ w
length-little_bytes zero n = refl
length-little_bytes (suc w) n = ap suc (length-little_bytes w (n / 256))

pub bytes_number : (order : Order) (w n : ℕ) → n < 256 ^ w → number_of order (bytes_of order w n) ≡ n
unfolding bytes_of
bytes_number order w n h =
    let l = low_first order (little_bytes w n) in
    let len : length l ≡ w = length-low_first order (little_bytes w n) ∙ length-little_bytes w n in
    let all : padded w l ≡ l = rw len at (padded_all l) in
    rw (all, low_first_twice) (little_value_of w n h)

-- a number of four bytes, read where it stands
pub word_at : (order : Order) (a r : List ℕ) (n at : ℕ) → length a ≡ at → n < 4294967296 → u32_at order (a ++ (bytes_of order 4 n ++ r)) at ≡ n
unfolding u32_at
word_at order a r n at e h =
    let own = bytes_of order 4 n in
    let s = a ++ (own ++ r) in
    let b = length-bytes_of order 4 n in
    let room : at + 4 ≤ length s = rw (length-append, length-append) (omega arith) in
    let part : bytes_at at 4 s ≡ own = bytes_at_part at 4 s room ∙ rw (drop_at a (own ++ r) at e) (take_at own r 4 b) in
    ap (number_of order) part ∙ bytes_number order 4 n h

-- Lists of bytes, as the numbers they stand for.
use Prim.Native.Nat.{ℕ, zero, suc, ◌+◌, ◌*◌, ◌/◌, ◌%◌, ◌^◌}
use mathlib.Core.Path.{◌≡◌, refl}
use mathlib.Core.List.{List, [], ◌∷◌, ◌++◌}
use native.Mathlib.Nat.{pow-suc, mul_assoc}
use native.Mathlib.Omega.{arith}
use lib.ListN.{length, take, drop}
use Rattle.field.specs.Numbers.{little_value, little_bytes}
use Rattle.field.proofs.Inverse.{Bytes, none, one, bytes-reverse}
use Rattle.units.specs.Units.{turned}
use Rattle.words.specs.Words.{word_bytes}

-- ---- Parts of bytes are bytes

pub bytes_take : (n : ℕ) {l : List ℕ} → Bytes l → Bytes (take n l)
bytes_take zero p = none
bytes_take (suc n) none = none
bytes_take (suc n) (one h p) = one h (bytes_take n p)

pub bytes_drop : (n : ℕ) {l : List ℕ} → Bytes l → Bytes (drop n l)
bytes_drop zero p = p
bytes_drop (suc n) none = none
bytes_drop (suc n) (one h p) = bytes_drop n p

bytes-append : {a b : List ℕ} → Bytes a → Bytes b → Bytes (a ++ b)
bytes-append none q = q
bytes-append (one h p) q = one h (bytes-append p q)

pub bytes_turned : (w n : ℕ) {l : List ℕ} → Bytes l → Bytes (turned w n l)
unfolding turned
bytes_turned w zero p = p
bytes_turned w (suc n) p = bytes-append (bytes-reverse (bytes_take w p)) (bytes_turned w n (bytes_drop w p))

pub bytes_little : (w n : ℕ) → Bytes (little_bytes w n)
bytes_little zero n = none
bytes_little (suc w) n = one {a = n % 256} (omega arith) (bytes_little w (n / 256))

-- ---- Their numbers

-- bytes behind others stand for as much more as these are many
pub little_append : (a b : List ℕ) → little_value (a ++ b) ≡ little_value a + 256 ^ length a * little_value b
little_append [] b = omega arith
little_append (x ∷ a) b =
    let more = little_append a b in
    let e : 256 ^ suc (length a) * little_value b ≡ 256 * (256 ^ length a * little_value b) =
    rw pow-suc (omega (arith, mul_assoc (256 ^ length a) 256 (little_value b))) in
    omega arith

pub length-word_bytes : (n : ℕ) → length (word_bytes n) ≡ 8
unfolding word_bytes
length-word_bytes n = refl

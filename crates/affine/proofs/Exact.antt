-- Products and sums of whole numbers in binary32 are exact where the result is at most 2 ^ 24 in size. Assumes nothing.
use mathlib.Core.Path.{◌≡◌, refl, sym, ap, ◌∙◌, subst}
use mathlib.Core.Bool.{Bool, true, false, not, cond, ◌&&◌, beq}
use Prim.Native.Nat.{ℕ, zero, suc, ◌+◌, ◌-◌, ◌*◌, ◌^◌, ◌≤◌, ◌<◌}
use native.Mathlib.Nat.{mul-one, mul-zero, zero-mul, add-mul, mul_comm, mul_assoc, mul-mul-mul_comm, mul-pos, mul-sub}
use native.Mathlib.Nat.{mul-le-mul, le_trans, zero-lt-suc, mul-lt-mul_of_pos_right, lt_of_mul-lt-mul_right}
use native.Mathlib.Omega.{arith}
use lib.Dec.{T, ltb, ltb→lt, lt→ltb, nltb→le}
use lib.IntN.{ℤ, pos, negsuc, neg_ℤ, nat_abs, ◌+ℤ◌, ◌*ℤ◌, neg_ℤ-+ℤ, neg_ℤ-neg_ℤ, +ℤ_comm}
use lib.Ieee.{Float, nan, inf, fin, binary32, up, down, unlike, round, sum, add, mul, neg, of_int}
use lib.Ieee.Back.{round_whole}
use lib.Ieee.Exact.{HasValue}
use lib.Ieee.Fits.{down_pos}
use lib.Ieee.Scale.{round_same}
use borrow.Author.Tests.{lt-ltb, le-ltb}
use Rattle.affine.specs.Method.{index_of}
use Rattle.affine.specs.Whole.{signed, IsWhole}

-- ---- integers by sign and size
signed_mul : (s t : Bool) (a b : ℕ) → signed (unlike s t) (a * b) ≡ signed s a *ℤ signed t b
signed_mul false false a b = refl
signed_mul false true a zero = ap (λ (x : ℕ). neg_ℤ (pos x)) (mul-zero a) ∙ sym (ap pos (mul-zero a))
signed_mul false true a (suc b) = refl
signed_mul true false zero b = ap (λ (x : ℕ). neg_ℤ (pos x)) (zero-mul b) ∙ sym (ap pos (zero-mul b))
signed_mul true false (suc a) b = refl
signed_mul true true zero zero = refl
signed_mul true true zero (suc b) = ap pos (zero-mul (suc b)) ∙ sym (ap (λ (x : ℕ). neg_ℤ (pos x)) (zero-mul (suc b)))
signed_mul true true (suc a) zero = ap pos (mul-zero (suc a)) ∙ sym (ap (λ (x : ℕ). neg_ℤ (pos x)) (mul-zero (suc a)))
signed_mul true true (suc a) (suc b) = refl

-- a - b, for a < b and for b ≤ a
below : (a b : ℕ) → a < b → pos a +ℤ neg_ℤ (pos b) ≡ neg_ℤ (pos (b - a))
below a zero h = absurd (none h)
  where
    none : a < 0 → ⊥
    none h = omega arith
below a (suc b) h =
    ap (λ (t : Bool). cond t (negsuc (suc b - suc a)) (pos (a - suc b))) (lt-ltb a (suc b) h) ∙ sym (ap (λ (x : ℕ). neg_ℤ (pos x)) (one_more h))
  where
    one_more : a < suc b → suc b - a ≡ suc (suc b - suc a)
    one_more h = omega arith

above : (a b : ℕ) → b ≤ a → pos a +ℤ neg_ℤ (pos b) ≡ pos (a - b)
above a zero h = ap pos same
  where
    same : a + 0 ≡ a - 0
    same = omega arith
above a (suc b) h = ap (λ (t : Bool). cond t (negsuc (suc b - suc a)) (pos (a - suc b))) (le-ltb a (suc b) h)

size_signed : (s : Bool) (n : ℕ) → nat_abs (signed s n) ≡ n
size_signed false n = refl
size_signed true zero = refl
size_signed true (suc n) = refl

-- ---- x has the whole value z, at most B in size
pub record Within (x : Float) (z : ℤ) (B : ℕ) : Type 0 where
  pub whole : IsWhole x z
  pub small : whole.size ≤ B

pub within : {x : Float} {z : ℤ} (B : ℕ) → IsWhole x z → nat_abs z ≤ B → Within x z B
within B w h = record { whole = w; small = subst (λ (n : ℕ). n ≤ B) (sym (ap nat_abs w.is) ∙ size_signed w.sign w.size) h }

pub size_within : {x : Float} {z : ℤ} {B : ℕ} → Within x z B → nat_abs z ≤ B
size_within {x} {z} {B} v =
    subst (λ (n : ℕ). n ≤ B) (sym (size_signed v.whole.sign v.whole.size) ∙ ap nat_abs v.whole.is) v.small

pub wider : {x : Float} {z : ℤ} {A : ℕ} (B : ℕ) → Within x z A → A ≤ B → Within x z B
wider B v h = record { whole = v.whole; small = le_trans v.small h }

pub index_within : (i : ℕ) → i < 32768 → Within (index_of i) (pos i) 32767
unfolding of_int
index_within i h =
    record { whole = record { sign = false; size = i; value = round_whole binary32 false i (omega arith); is = refl }; small = omega arith }

-- x is the whole number z, rounded; z is at most B in size
record Rounded (x : Float) (z : ℤ) (B : ℕ) : Type 0 where
  sign : Bool
  size : ℕ
  is : signed sign size ≡ z
  small : size ≤ B
  rounds : x ≡ round binary32 sign size 1

rounded_within : {x : Float} {z : ℤ} {B : ℕ} (r : Rounded x z B) → r.size ≤ 2 ^ 24 → Within x z B
rounded_within {x} {z} {B} r h =
    subst (λ (y : Float). Within y z B) (sym r.rounds)
    (record {
      whole = record { sign = r.sign; size = r.size; value = round_whole binary32 r.sign r.size h; is = r.is };
      small = r.small;
    })

-- ---- the product
plain : (a b c : ℕ) → a * 1 ≡ b * c → a ≡ b * c
plain a b c h = sym (mul-one a) ∙ h

mul_of : (x y : Float) (s t : Bool) (a b : ℕ) → HasValue x s a 1 → HasValue y t b 1 → mul binary32 x y ≡ round binary32 (unlike s t) (a * b) 1
unfolding mul
mul_of nan y s t a b p q = absurd p
mul_of (inf u) y s t a b p q = absurd p
mul_of (fin u m e) nan s t a b p q = absurd q
mul_of (fin u m e) (inf v) s t a b p q = absurd q
mul_of (fin u m e) (fin v n d) s t a b p q =
    (λ i. round binary32 (unlike (p.0 i) (q.0 i)) (m * up e * (n * up d)) (down e * down d))
    ∙ round_same binary32 (unlike s t) (m * up e * (n * up d)) (down e * down d) (a * b) 1 (mul-pos (down_pos e) (down_pos d)) (zero-lt-suc 0)
    (mul-one (m * up e * (n * up d))
    ∙ (λ i. plain (m * up e) a (down e) p.1 i * plain (n * up d) b (down d) q.1 i)
    ∙ mul-mul-mul_comm a (down e) b (down d))

pub mul_within : {x y : Float} {a b : ℤ} {A B : ℕ} → Within x a A → Within y b B → A * B ≤ 2 ^ 24 → Within (mul binary32 x y) (a *ℤ b) (A * B)
mul_within {x} {y} v w h =
    let p = v.whole in
    let q = w.whole in
    let small = mul-le-mul v.small w.small in
    rounded_within
    (record {
      sign = unlike p.sign q.sign;
      size = p.size * q.size;
      is = signed_mul p.sign q.sign p.size q.size ∙ (λ i. p.is i *ℤ q.is i);
      small = small;
      rounds = mul_of x y p.sign q.sign p.size q.size p.value q.value;
    })
    (le_trans small h)

-- ---- the sum
-- a common factor of both and of the divisor leaves the sum
sum_scaled : (s t : Bool) (a b c : ℕ) → 0 < c → sum binary32 s (a * c) t (b * c) c ≡ sum binary32 s a t b 1
unfolding sum
sum_scaled s t a b c C = λ i. cond (beq s t) (added i) (cond (tests a b i) (taken t a b i) (taken_away i))
  where
    added : round binary32 s (a * c + b * c) c ≡ round binary32 s (a + b) 1
    added = round_same binary32 s (a * c + b * c) c (a + b) 1 C (zero-lt-suc 0) (mul-one (a * c + b * c) ∙ sym (add-mul a b c))

    taken : (u : Bool) (a b : ℕ) → round binary32 u (b * c - a * c) c ≡ round binary32 u (b - a) 1
    taken u a b =
        round_same binary32 u (b * c - a * c) c (b - a) 1 C (zero-lt-suc 0)
        (mul-one (b * c - a * c) ∙ (λ i. mul_comm b c i - mul_comm a c i) ∙ sym (mul-sub c b a) ∙ mul_comm c (b - a))

    same : (p q : Bool) → (T p → T q) → (T q → T p) → p ≡ q
    same true true f g = refl
    same true false f g = absurd (f tt)
    same false true f g = absurd (g tt)
    same false false f g = refl

    tests : (a b : ℕ) → ltb (a * c) (b * c) ≡ ltb a b
    tests a b =
        same (ltb (a * c) (b * c)) (ltb a b) (λ h. lt→ltb a b (lt_of_mul-lt-mul_right c (ltb→lt (a * c) (b * c) h)))
        (λ h. lt→ltb (a * c) (b * c) (mul-lt-mul_of_pos_right (ltb→lt a b h) C))

    taken_away : round binary32 (s && ltb (b * c) (a * c)) (a * c - b * c) c ≡ round binary32 (s && ltb b a) (a - b) 1
    taken_away = ap (λ (u : Bool). round binary32 (s && u) (a * c - b * c) c) (tests b a) ∙ taken (s && ltb b a) b a

add_of : (x y : Float) (s t : Bool) (a b : ℕ) → HasValue x s a 1 → HasValue y t b 1 → add binary32 x y ≡ sum binary32 s a t b 1
unfolding add
add_of nan y s t a b p q = absurd p
add_of (inf u) y s t a b p q = absurd p
add_of (fin u m e) nan s t a b p q = absurd q
add_of (fin u m e) (inf v) s t a b p q = absurd q
add_of (fin u m e) (fin v n d) s t a b p q =
    (λ i. sum binary32 (p.0 i) (left i) (q.0 i) (right i) (down e * down d)) ∙ sum_scaled s t a b (down e * down d) (mul-pos (down_pos e) (down_pos d))
  where
    left : m * up e * down d ≡ a * (down e * down d)
    left = ap (λ (z : ℕ). z * down d) (plain (m * up e) a (down e) p.1) ∙ mul_assoc a (down e) (down d)

    right : n * up d * down e ≡ b * (down e * down d)
    right = ap (λ (z : ℕ). z * down e) (plain (n * up d) b (down d) q.1) ∙ mul_assoc b (down d) (down e) ∙ ap (λ (z : ℕ). b * z) (mul_comm (down d) (down e))

one_rounding : (s : Bool) (n : ℕ) (z : ℤ) (B : ℕ) → n ≤ B → signed s n ≡ z → Rounded (round binary32 s n 1) z B
one_rounding s n z B h e = record { sign = s; size = n; is = e; small = h; rounds = refl }

sum_rounded : (s t : Bool) (a b : ℕ) → Rounded (sum binary32 s a t b 1) (signed s a +ℤ signed t b) (a + b)
unfolding sum
sum_rounded false false a b = one_rounding false (a + b) (pos (a + b)) (a + b) (omega arith) refl
sum_rounded true true a b = one_rounding true (a + b) (neg_ℤ (pos a) +ℤ neg_ℤ (pos b)) (a + b) (omega arith) (neg_ℤ-+ℤ (pos a) (pos b))
sum_rounded false true a b = go (ltb a b) (ltb→lt a b) (nltb→le a b)
  where
    go : (t : Bool) → (T t → a < b) → (T (not t) → b ≤ a)
        → Rounded (cond t (round binary32 true (b - a) 1) (round binary32 false (a - b) 1)) (pos a +ℤ neg_ℤ (pos b)) (a + b)
    go true l g = one_rounding true (b - a) (pos a +ℤ neg_ℤ (pos b)) (a + b) (omega arith) (sym (below a b (l tt)))
    go false l g = one_rounding false (a - b) (pos a +ℤ neg_ℤ (pos b)) (a + b) (omega arith) (sym (above a b (g tt)))
sum_rounded true false a b = go (ltb a b) (ltb b a) (ltb→lt a b) (ltb→lt b a) (nltb→le a b) (nltb→le b a)
  where
    swapped : pos b +ℤ neg_ℤ (pos a) ≡ neg_ℤ (pos a) +ℤ pos b
    swapped = +ℤ_comm (pos b) (neg_ℤ (pos a))

    zeros : a ≤ b → b ≤ a → a - b ≡ b - a
    zeros l m = omega arith

    go : (t u : Bool) → (T t → a < b) → (T u → b < a) → (T (not t) → b ≤ a) → (T (not u) → a ≤ b)
        → Rounded (cond t (round binary32 false (b - a) 1) (round binary32 u (a - b) 1)) (neg_ℤ (pos a) +ℤ pos b) (a + b)
    go true u l m n o =
        one_rounding false (b - a) (neg_ℤ (pos a) +ℤ pos b) (a + b) (omega arith) (sym (above b a (omega (arith, l tt))) ∙ swapped)
    go false true l m n o = one_rounding true (a - b) (neg_ℤ (pos a) +ℤ pos b) (a + b) (omega arith) (sym (below b a (m tt)) ∙ swapped)
    go false false l m n o =
        one_rounding false (a - b) (neg_ℤ (pos a) +ℤ pos b) (a + b) (omega arith)
        (ap pos (zeros (o tt) (n tt)) ∙ sym (above b a (o tt)) ∙ swapped)

add_rounded : {x y : Float} {a b : ℤ} {A B : ℕ} → Within x a A → Within y b B → Rounded (add binary32 x y) (a +ℤ b) (A + B)
add_rounded {x} {y} {a} {b} {A} {B} v w =
    let p = v.whole in
    let q = w.whole in
    let r = sum_rounded p.sign q.sign p.size q.size in
    record {
      sign = r.sign;
      size = r.size;
      is = r.is ∙ (λ i. p.is i +ℤ q.is i);
      small = omega (arith, v.small, w.small, r.small);
      rounds = add_of x y p.sign q.sign p.size q.size p.value q.value ∙ r.rounds;
    }

pub add_within : {x y : Float} {a b : ℤ} {A B : ℕ} → Within x a A → Within y b B → A + B ≤ 2 ^ 24 → Within (add binary32 x y) (a +ℤ b) (A + B)
add_within v w h = let r = add_rounded v w in rounded_within r (le_trans r.small h)

-- the same where only the sum itself is known to be small
pub add_exact : {x y : Float} {a b : ℤ} {A B : ℕ} → Within x a A → Within y b B → nat_abs (a +ℤ b) ≤ 2 ^ 24
    → IsWhole (add binary32 x y) (a +ℤ b)
add_exact v w h =
    let r = add_rounded v w in
    (rounded_within r (subst (λ (n : ℕ). n ≤ 2 ^ 24) (sym (ap nat_abs r.is) ∙ size_signed r.sign r.size) h)).whole

-- ---- the negative
signed_not : (s : Bool) (n : ℕ) → signed (not s) n ≡ neg_ℤ (signed s n)
signed_not false n = refl
signed_not true n = sym (neg_ℤ-neg_ℤ (pos n))

neg_of : (x : Float) (s : Bool) (a : ℕ) → HasValue x s a 1 → HasValue (neg x) (not s) a 1
unfolding neg
neg_of nan s a p = absurd p
neg_of (inf u) s a p = absurd p
neg_of (fin u m e) s a p = (ap not p.0, p.1)

pub neg_within : {x : Float} {z : ℤ} {B : ℕ} → Within x z B → Within (neg x) (neg_ℤ z) B
neg_within {x} v =
    let p = v.whole in
    record {
      whole =
          record {
            sign = not p.sign;
            size = p.size;
            value = neg_of x p.sign p.size p.value;
            is = signed_not p.sign p.size ∙ ap neg_ℤ p.is;
          };
      small = v.small;
    }

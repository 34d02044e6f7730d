-- A number in decimal: the rule without a bound on the digits, how many there are, that they are digits, and that they have the number's value.
use mathlib.Core.Path.{◌≡◌, refl, sym, ap, ◌∙◌}
use mathlib.Core.Bool.{Bool, true, false}
use mathlib.Core.List.{List, [], ◌∷◌, ◌++◌}
use Prim.Native.Nat.{ℕ, zero, suc, ◌+◌, ◌-◌, ◌*◌, ◌/◌, ◌%◌, ◌^◌, ◌≤◌, ◌<◌}
use native.Mathlib.Omega.{arith}
use native.Mathlib.Nat.{pow-succ'}
use lib.Dec.{ltb}
use lib.ListN.{length, length-append}
use borrow.Author.Tests.{ltb-true, ltb-false, lt-ltb, le-ltb}
use Rattle.decimal.specs.Decimal.{digits, decimal}

-- ---- the rule

digits_one : (more n : ℕ) → n < 10 → digits more n ≡ (48 + n) ∷ []
unfolding digits
digits_one zero n l = refl
digits_one (suc more) n l = rw (lt-ltb n 10 l)

digits_next : (more n : ℕ) → 10 ≤ n → digits (suc more) n ≡ digits more (n / 10) ++ ((48 + n % 10) ∷ [])
unfolding digits
digits_next more n l = rw (le-ltb n 10 l)

-- a bound of n is enough
digits_enough : (k m n : ℕ) → n ≤ k → n ≤ m → digits k n ≡ digits m n
digits_enough zero m n a b = digits_one zero n (omega arith) ∙ sym (digits_one m n (omega arith))
digits_enough (suc k) zero n a b = digits_one (suc k) n (omega arith) ∙ sym (digits_one zero n (omega arith))
digits_enough (suc k) (suc m) n a b = go (ltb n 10) refl (λ l. digits_enough k m (n / 10) (omega arith) (omega arith))
  where
    go : (t : Bool) → ltb n 10 ≡ t → (10 ≤ n → digits k (n / 10) ≡ digits m (n / 10)) → digits (suc k) n ≡ digits (suc m) n
    go true e f = let l = ltb-true n 10 e in digits_one (suc k) n l ∙ sym (digits_one (suc m) n l)
    go false e f =
        let l = ltb-false n 10 e in
        digits_next k n l ∙ ap (λ (ds : List ℕ). ds ++ ((48 + n % 10) ∷ [])) (f l) ∙ sym (digits_next m n l)

pub decimal_one : (n : ℕ) → n < 10 → decimal n ≡ (48 + n) ∷ []
unfolding decimal
decimal_one n l = digits_one n n l

pub decimal_next : (n : ℕ) → 10 ≤ n → decimal n ≡ decimal (n / 10) ++ ((48 + n % 10) ∷ [])
unfolding decimal
decimal_next zero l = absurd (omega arith)
decimal_next (suc m) l =
    digits_next m (suc m) l
    ∙ ap (λ (ds : List ℕ). ds ++ ((48 + suc m % 10) ∷ [])) (digits_enough m (suc m / 10) (suc m / 10) (omega arith) (omega arith))

-- What holds of one digit, and with the digits of n / 10 of those of n, holds of every number in decimal.
module _ (P : ℕ → List ℕ → Type 0) (one : (n : ℕ) → n < 10 → P n ((48 + n) ∷ []))
    (next : (n : ℕ) → 10 ≤ n → P (n / 10) (decimal (n / 10)) → P n (decimal (n / 10) ++ ((48 + n % 10) ∷ []))) where
  up_to : (k n : ℕ) → n ≤ k → P n (decimal n)
  up_to zero n h = let l : n < 10 = omega arith in rw (decimal_one n l) (one n l)
  up_to (suc k) n h = go (ltb n 10) refl (λ l. up_to k (n / 10) (omega arith))
    where
      go : (t : Bool) → ltb n 10 ≡ t → (10 ≤ n → P (n / 10) (decimal (n / 10))) → P n (decimal n)
      go true e f = let l = ltb-true n 10 e in rw (decimal_one n l) (one n l)
      go false e f = let l = ltb-false n 10 e in rw (decimal_next n l) (next n l (f l))

  pub by_digits : (n : ℕ) → P n (decimal n)
  by_digits n = up_to n n (omega arith)

-- ---- how many digits

pub decimal_longer : (n : ℕ) → 10 ≤ n → length (decimal n) ≡ length (decimal (n / 10)) + 1
decimal_longer n l = rw (decimal_next n l) (simp length-append)

pub decimal_some : (n : ℕ) → 0 < length (decimal n)
decimal_some = by_digits (λ n ds. 0 < length ds) (λ n l. omega arith) (λ n l h. simp length-append (omega arith))

-- a number below 10 ^ k has at most k digits, and 0 has one
pub decimal_most : (k n : ℕ) → n < 10 ^ suc k → length (decimal n) ≤ suc k
decimal_most zero n h = rw (decimal_one n (omega arith)) (omega arith)
decimal_most (suc k) n h = go (ltb n 10) refl (λ l. decimal_most k (n / 10) (omega (arith, pow-succ' 10 (suc k))))
  where
    go : (t : Bool) → ltb n 10 ≡ t → (10 ≤ n → length (decimal (n / 10)) ≤ suc k) → length (decimal n) ≤ suc (suc k)
    go true e f = rw (decimal_one n (ltb-true n 10 e)) (omega arith)
    go false e f = let l = ltb-false n 10 e in omega (arith, decimal_longer n l, f l)

tens_some : (k : ℕ) → 0 < 10 ^ k
tens_some zero = omega arith
tens_some (suc k) = omega (arith, pow-succ' 10 k, tens_some k)

-- one of 10 ^ k or more has more than k
pub decimal_least : (k n : ℕ) → 10 ^ k ≤ n → k < length (decimal n)
decimal_least zero n h = decimal_some n
decimal_least (suc k) n h =
    let more : 10 ≤ n = omega (arith, pow-succ' 10 k, tens_some k) in
    omega (arith, decimal_longer n more, decimal_least k (n / 10) (omega (arith, pow-succ' 10 k)))

-- ---- which bytes

-- no byte of the list is b
abbrev pub Lacks : ℕ → List ℕ → Type 0
Lacks b [] = Unit {0}
Lacks b (x ∷ xs) = (x ≡ b → ⊥) × Lacks b xs

pub lacks_append : (b : ℕ) (xs ys : List ℕ) → Lacks b xs → Lacks b ys → Lacks b (xs ++ ys)
lacks_append b [] ys h k = k
lacks_append b (x ∷ xs) ys h k = (h.0, lacks_append b xs ys h.1 k)

-- each is one of `0` to `9`
pub decimal_lacks : (b : ℕ) → ((d : ℕ) → d < 10 → 48 + d ≡ b → ⊥) → (n : ℕ) → Lacks b (decimal n)
decimal_lacks b other =
    by_digits (λ n ds. Lacks b ds) (λ n l. (other n l, tt))
    (λ n l h. lacks_append b (decimal (n / 10)) ((48 + n % 10) ∷ []) h (other (n % 10) (omega arith), tt))

-- ---- the value

-- the number that digits stand for, behind others that stand for v
abbrev pub value_after : ℕ → List ℕ → ℕ
value_after v [] = v
value_after v (d ∷ ds) = value_after (10 * v + (d - 48)) ds

value_next : (v : ℕ) (ds : List ℕ) (d : ℕ) → value_after v (ds ++ (d ∷ [])) ≡ 10 * value_after v ds + (d - 48)
value_next v [] d = refl
value_next v (x ∷ ds) d = value_next (10 * v + (x - 48)) ds d

pub decimal_value : (n : ℕ) → value_after 0 (decimal n) ≡ n
decimal_value =
    by_digits (λ n ds. value_after 0 ds ≡ n) (λ n l. omega arith)
    (λ n l e. value_next 0 (decimal (n / 10)) (48 + n % 10) ∙ omega (arith, e))

-- so no two numbers have the same digits
pub decimal_same : (m n : ℕ) → decimal m ≡ decimal n → m ≡ n
decimal_same m n e = sym (decimal_value m) ∙ ap (value_after 0) e ∙ decimal_value n

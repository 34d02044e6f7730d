-- What rules 1 to 4 decide, rule by rule: each law names the rules that have passed and the one that refuses.
use Rattle.refusal.specs.declared.Rule.TheVariants.{ShortHeader, AxisCount, HeaderSize, UnknownMagic}
use Rattle.std.specs.Prelude.{Err}
use Prim.Native.Nat.{ℕ, ◌+◌, ◌*◌, ◌<◌, ◌≤◌}
use mathlib.Core.Path.{◌≡◌, refl, sym}
use mathlib.Core.Bool.{Bool, true, false, cond, ◌&&◌, ◌||◌}
use mathlib.Core.List.{List}
use native.Mathlib.Omega.{arith}
use borrow.Author.Tests.{lt-ltb, le-ltb, eq-eqb, ne_eqb, eqb-true, eqb-false}
use lib.Dec.{eqb}
use lib.ListN.{length, get_or}
use Rattle.field.specs.declared.Order.TheVariants.{Little, Big}
use Rattle.field.specs.Numbers.{bytes_at, little_value, u32_at, i32_at}
use Rattle.field.proofs.Inverse.{Bytes, none, one}
use Rattle.refusal.specs.Table.{refusal, verdict}
use Rattle.datatype.specs.Datatypes.{is_number}
use Rattle.header.specs.declared.Kind.TheVariants.{Single, Pair}
use Rattle.number.specs.Same.{same_numbers}
use Rattle.layout.specs.File.{holds_in, order_of, has_magic, kind_of, start_in, started}

-- numbers are the same exactly when their last digits to the base 256 are, and what is before these
digit_same : (a b x y : ℕ) → a < 256 → b < 256 → eqb (a + 256 * x) (b + 256 * y) ≡ eqb a b && eqb x y
digit_same a b x y h k = by (eqb a b) refl (eqb x y) refl
  where
    by : (t : Bool) → eqb a b ≡ t → (u : Bool) → eqb x y ≡ u → eqb (a + 256 * x) (b + 256 * y) ≡ eqb a b && eqb x y
    by true d true e = rw (d, e) (eq-eqb (a + 256 * x) (b + 256 * y) (omega (arith, eqb-true a b d, eqb-true x y e)))
    by true d false e = rw (d, e) (ne_eqb (a + 256 * x) (b + 256 * y) (λ s. eqb-false x y e (omega arith)))
    by false d u e = rw d (ne_eqb (a + 256 * x) (b + 256 * y) (λ s. eqb-false a b d (omega arith)))

-- so bytes are the same exactly when their numbers are
same_number : {l m : List ℕ} → Bytes l → Bytes m → length l ≡ length m → eqb (little_value l) (little_value m) ≡ same_numbers l m
same_number none none e = refl
same_number none (one h q) e = absurd (omega arith)
same_number (one h p) none e = absurd (omega arith)
same_number (one {a} {l} h p) (one {a = b} {l = m} k q) e = rw (← same_number p q (omega arith)) (digit_same a b (little_value l) (little_value m) h k)

-- four bytes of a file, by their number
pub same_word : (s : List ℕ) → ((i : ℕ) → get_or s i 0 < 256) → (at : ℕ) {m : List ℕ} → Bytes m → length m ≡ 4
    → eqb (u32_at Little s at) (little_value m) ≡ same_numbers (bytes_at at 4 s) m
unfolding u32_at
same_word s byte at b e = same_number (one (byte (at + 0)) (one (byte (at + 1)) (one (byte (at + 2)) (one (byte (at + 3)) none)))) b (sym e)

-- of two tests either holds exactly when the one that is chosen by the first does
chosen : {A : Type 0} (f : A → Bool) (a b : A) → (f a || f b) ≡ f (cond (f a) a b)
chosen f a b = by (f a) refl
  where
    by : (t : Bool) → f a ≡ t → (f a || f b) ≡ f (cond (f a) a b)
    by true e = rw (e, e)
    by false e = rw e

-- rule 2 asks of both orders, and rule 4 of both kinds; a file's own is the one in which it passes
pub either : (s : List ℕ) → (holds_in Little s || holds_in Big s) ≡ holds_in (order_of s) s
unfolding order_of
either s = chosen (λ o. holds_in o s) Little Big

pub either_kind : (s : List ℕ) → (has_magic Single s || has_magic Pair s) ≡ has_magic (kind_of s) s
unfolding kind_of
either_kind s = chosen (λ k. has_magic k s) Single Pair

module _ (s : List ℕ) (len : ℕ) where
  pub starts_1 : len < 348 → Err (refusal ShortHeader 0) ≡ start_in s len
  unfolding start_in verdict
  starts_1 h = simp (lt-ltb len 348 h)

  module _ (long : 348 ≤ len) where
    pub starts_2 : holds_in (order_of s) s ≡ false → Err (refusal AxisCount 40) ≡ start_in s len
    unfolding start_in verdict
    starts_2 o = simp (le-ltb len 348 long, either s, o)

    module _ (o : holds_in (order_of s) s ≡ true) where
      pub starts_3 : is_number (i32_at (order_of s) s 0) 348 ≡ false → Err (refusal HeaderSize 0) ≡ start_in s len
      unfolding start_in verdict
      starts_3 n = simp (le-ltb len 348 long, either s, o, n)

      module _ (n : is_number (i32_at (order_of s) s 0) 348 ≡ true) where
        pub starts_4 : has_magic (kind_of s) s ≡ false → Err (refusal UnknownMagic 344) ≡ start_in s len
        unfolding start_in verdict
        starts_4 m = simp (le-ltb len 348 long, either s, o, n, either_kind s, m)

        pub starts_read : has_magic (kind_of s) s ≡ true → started (order_of s) (kind_of s) ≡ start_in s len
        unfolding start_in verdict
        starts_read m = simp (le-ltb len 348 long, either s, o, n, either_kind s, m)

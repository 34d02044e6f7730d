-- The test of specs/Same.antt passes exactly two lists that are equal.
use Prim.Native.Nat.{ℕ}
use mathlib.Core.Path.{◌≡◌, refl}
use mathlib.Core.Bool.{true, and-eq-true_iff, false≢true}
use mathlib.Core.List.{List, [], ◌∷◌}
use lib.Dec.{eqb}
use borrow.Author.Tests.{eqb-true, eq-eqb}
use Rattle.number.specs.Same.{same_numbers}

pub same_is : (l m : List ℕ) → same_numbers l m ≡ true → l ≡ m
same_is [] [] e = refl
same_is [] (b ∷ m) e = absurd (false≢true e)
same_is (a ∷ l) [] e = absurd (false≢true e)
same_is (a ∷ l) (b ∷ m) e =
    let p = (and-eq-true_iff (eqb a b) (same_numbers l m)).0 e in
    let h : a ≡ b = eqb-true a b p.0 in
    let t : l ≡ m = same_is l m p.1 in
    cc

pub same_self : (l : List ℕ) → same_numbers l l ≡ true
same_self [] = refl
same_self (a ∷ l) = rw (eq-eqb a a refl, same_self l)

-- The six orders of three axes, and the laws that hold for each of them.
use mathlib.Core.Path.{◌≡◌, refl, ap, ◌∙◌}
use mathlib.Core.Bool.{Bool, true, false, ◌&&◌, ◌||◌, and-eq-true_iff}
use mathlib.Core.List.{List, [], ◌∷◌}
use Prim.Native.Nat.{ℕ, ◌*◌}
use native.Mathlib.Omega.{arith}
use native.Mathlib.Nat.{mul_left_comm}
use Rattle.grid.specs.Grid.{voxels, within}
use borrow.Author.Tests.{eqb-true}
use lib.Dec.{eqb, ltb}
use Rattle.reorient.specs.declared.Turn.{Turn}
use Rattle.reorient.specs.Reorient.{named, is_permutation, permuted, unpermuted, mirrored_in, one_of, composed, inverse, identity}

-- a turn of given axes
abbrev pub order : Turn → ℕ → ℕ → ℕ → Turn
order t a b c = record { axis1 = a; axis2 = b; axis3 = c; reversed1 = t.reversed1; reversed2 = t.reversed2; reversed3 = t.reversed3 }

or_cases : {P : Type 0} (x y : Bool) → (x ≡ true → P) → (y ≡ true → P) → (x || y) ≡ true → P
or_cases true y f g h = f refl
or_cases false y f g h = g h

-- old axis o is named by one of the three
by_name : {P : Type 0} (t : Turn) (o : ℕ) → (t.axis1 ≡ o → P) → (t.axis2 ≡ o → P) → (t.axis3 ≡ o → P) → named t o ≡ true → P
by_name t o f g h n =
    or_cases (eqb t.axis1 o) (eqb t.axis2 o || eqb t.axis3 o) (λ e. f (eqb-true t.axis1 o e))
    (λ m. or_cases (eqb t.axis2 o) (eqb t.axis3 o) (λ e. g (eqb-true t.axis2 o e)) (λ e. h (eqb-true t.axis3 o e)) m) n

-- what holds of the six orders holds of each permutation
pub by_order : (P : ℕ → ℕ → ℕ → Type 0) → P 1 2 3 → P 1 3 2 → P 2 1 3 → P 2 3 1 → P 3 1 2 → P 3 2 1
    → (t : Turn) → is_permutation t ≡ true → P t.axis1 t.axis2 t.axis3
by_order P p123 p132 p213 p231 p312 p321 t h =
    let h1 = (and-eq-true_iff (named t 1) (named t 2 && named t 3)).0 h in
    let h2 = (and-eq-true_iff (named t 2) (named t 3)).0 h1.1 in
    by_name t 1
    (λ a. by_name t 2 (λ b. absurd (omega arith))
    (λ b. by_name t 3 (λ c. absurd (omega arith)) (λ c. absurd (omega arith)) (λ c. rw (a, b, c) p123) h2.1)
    (λ b. by_name t 3 (λ c. absurd (omega arith)) (λ c. rw (a, b, c) p132) (λ c. absurd (omega arith)) h2.1) h2.0)
    (λ a. by_name t 2
    (λ b. by_name t 3 (λ c. absurd (omega arith)) (λ c. absurd (omega arith)) (λ c. rw (a, b, c) p213) h2.1)
    (λ b. absurd (omega arith))
    (λ b. by_name t 3 (λ c. rw (a, b, c) p312) (λ c. absurd (omega arith)) (λ c. absurd (omega arith)) h2.1) h2.0)
    (λ a. by_name t 2
    (λ b. by_name t 3 (λ c. absurd (omega arith)) (λ c. rw (a, b, c) p231) (λ c. absurd (omega arith)) h2.1)
    (λ b. by_name t 3 (λ c. rw (a, b, c) p321) (λ c. absurd (omega arith)) (λ c. absurd (omega arith)) h2.1)
    (λ b. absurd (omega arith)) h2.0)
    h1.0

-- the new file's flips, seen from the old one
pub unpermuted_mirrored_in : (l m n i j k : ℕ) (ns is : List ℕ) (f g e : Bool) (t : Turn) → is_permutation t ≡ true
    → unpermuted 0 t (mirrored_in (f ∷ (g ∷ (e ∷ []))) (permuted 0 t (l ∷ (m ∷ (n ∷ ns)))) (i ∷ (j ∷ (k ∷ is))))
    ≡ mirrored_in (unpermuted false t (f ∷ (g ∷ (e ∷ [])))) (l ∷ (m ∷ (n ∷ ns))) (unpermuted 0 t (i ∷ (j ∷ (k ∷ is))))
unfolding unpermuted permuted mirrored_in
unpermuted_mirrored_in l m n i j k ns is f g e t h =
    by_order
    (λ a b c.
    unpermuted 0 (order t a b c) (mirrored_in (f ∷ (g ∷ (e ∷ []))) (permuted 0 (order t a b c) (l ∷ (m ∷ (n ∷ ns)))) (i ∷ (j ∷ (k ∷ is))))
    ≡ mirrored_in (unpermuted false (order t a b c) (f ∷ (g ∷ (e ∷ [])))) (l ∷ (m ∷ (n ∷ ns)))
    (unpermuted 0 (order t a b c) (i ∷ (j ∷ (k ∷ is)))))
    refl refl refl refl refl refl t h

-- two turns, one after the other
pub permuted_twice : {A : Type 0} (d : A) (xs : List A) (t u : Turn) → is_permutation u ≡ true
    → permuted d u (permuted d t xs) ≡ permuted d (composed t u) xs
unfolding permuted composed
permuted_twice d xs t u h =
    by_order (λ a b c. permuted d (order u a b c) (permuted d t xs) ≡ permuted d (composed t (order u a b c)) xs)
    refl refl refl refl refl refl u h

abbrev BackTwice : {A : Type 0} (d : A) (xs : List A) (t u : Turn) → Type 0
BackTwice d xs t u = unpermuted d t (unpermuted d u xs) ≡ unpermuted d (composed t u) xs

pub unpermuted_twice : {A : Type 0} (d : A) (xs : List A) (t u : Turn) → is_permutation t ≡ true → is_permutation u ≡ true
    → unpermuted d t (unpermuted d u xs) ≡ unpermuted d (composed t u) xs
unfolding unpermuted composed
unpermuted_twice d xs t u h g =
    by_order (λ a b c. BackTwice d xs (order t a b c) u)
    (by_order (λ a b c. BackTwice d xs (order t 1 2 3) (order u a b c)) refl refl refl refl refl refl u g)
    (by_order (λ a b c. BackTwice d xs (order t 1 3 2) (order u a b c)) refl refl refl refl refl refl u g)
    (by_order (λ a b c. BackTwice d xs (order t 2 1 3) (order u a b c)) refl refl refl refl refl refl u g)
    (by_order (λ a b c. BackTwice d xs (order t 2 3 1) (order u a b c)) refl refl refl refl refl refl u g)
    (by_order (λ a b c. BackTwice d xs (order t 3 1 2) (order u a b c)) refl refl refl refl refl refl u g)
    (by_order (λ a b c. BackTwice d xs (order t 3 2 1) (order u a b c)) refl refl refl refl refl refl u g)
    t h

pub inverse_permutation : (t : Turn) → is_permutation t ≡ true → is_permutation (inverse t) ≡ true
unfolding inverse
inverse_permutation t h = by_order (λ a b c. is_permutation (inverse (order t a b c)) ≡ true) refl refl refl refl refl refl t h

one_of_self : (r : Bool) → one_of r r ≡ false
one_of_self true = refl
one_of_self false = refl

pub composed_inverse : (t : Turn) → is_permutation t ≡ true → composed t (inverse t) ≡ identity
unfolding composed inverse identity
composed_inverse t h =
    let e1 = one_of_self t.reversed1 in
    let e2 = one_of_self t.reversed2 in
    let e3 = one_of_self t.reversed3 in
    by_order (λ a b c. composed (order t a b c) (inverse (order t a b c)) ≡ identity)
    (rw (e1, e2, e3)) (rw (e1, e2, e3)) (rw (e1, e2, e3)) (rw (e1, e2, e3)) (rw (e1, e2, e3)) (rw (e1, e2, e3)) t h

-- the same voxels in another order
pub voxels_permuted : (l m n : ℕ) (ns : List ℕ) (t : Turn) → is_permutation t ≡ true
    → voxels (permuted 0 t (l ∷ (m ∷ (n ∷ ns)))) ≡ voxels (l ∷ (m ∷ (n ∷ ns)))
unfolding voxels permuted
voxels_permuted l m n ns t h =
    let v = voxels ns in
    by_order (λ a b c. voxels (permuted 0 (order t a b c) (l ∷ (m ∷ (n ∷ ns)))) ≡ voxels (l ∷ (m ∷ (n ∷ ns))))
    refl
    (ap (λ (x : ℕ). l * x) (mul_left_comm n m v))
    (mul_left_comm m l (n * v))
    (ap (λ (x : ℕ). m * x) (mul_left_comm n l v) ∙ mul_left_comm m l (n * v))
    (mul_left_comm n l (m * v) ∙ ap (λ (x : ℕ). l * x) (mul_left_comm n m v))
    (ap (λ (x : ℕ). n * x) (mul_left_comm m l v) ∙ mul_left_comm n l (m * v) ∙ ap (λ (x : ℕ). l * x) (mul_left_comm n m v))
    t h

pub all_four : (x y z w : Bool) → (x && (y && (z && w))) ≡ true → (x ≡ true) × (y ≡ true) × (z ≡ true) × (w ≡ true)
all_four x y z w h =
    let p = (and-eq-true_iff x (y && (z && w))).0 h in
    let q = (and-eq-true_iff y (z && w)).0 p.1 in
    let r = (and-eq-true_iff z w).0 q.1 in
    (p.0, q.0, r.0, r.1)

-- an index is within the new lengths where it is within the old ones when it is taken back
swap_and : (x y r : Bool) → (x && (y && r)) ≡ (y && (x && r))
swap_and true true r = refl
swap_and true false r = refl
swap_and false true r = refl
swap_and false false r = refl

pub within_permuted : (l m n i j k : ℕ) (ns is : List ℕ) (t : Turn) → is_permutation t ≡ true
    → within (permuted 0 t (l ∷ (m ∷ (n ∷ ns)))) (i ∷ (j ∷ (k ∷ is))) ≡ within (l ∷ (m ∷ (n ∷ ns))) (unpermuted 0 t (i ∷ (j ∷ (k ∷ is))))
unfolding permuted unpermuted within
within_permuted l m n i j k ns is t h =
    let r = within ns is in
    by_order (λ a b c. within (permuted 0 (order t a b c) (l ∷ (m ∷ (n ∷ ns)))) (i ∷ (j ∷ (k ∷ is)))
    ≡ within (l ∷ (m ∷ (n ∷ ns))) (unpermuted 0 (order t a b c) (i ∷ (j ∷ (k ∷ is)))))
    refl
    (ap (λ (q : Bool). ltb i l && q) (swap_and (ltb j n) (ltb k m) r))
    (swap_and (ltb i m) (ltb j l) (ltb k n && r))
    (ap (λ (q : Bool). ltb i m && q) (swap_and (ltb j n) (ltb k l) r) ∙ swap_and (ltb i m) (ltb k l) (ltb j n && r))
    (swap_and (ltb i n) (ltb j l) (ltb k m && r) ∙ ap (λ (q : Bool). ltb j l && q) (swap_and (ltb i n) (ltb k m) r))
    (swap_and (ltb i n) (ltb j m) (ltb k l && r)
    ∙ ap (λ (q : Bool). ltb j m && q) (swap_and (ltb i n) (ltb k l) r)
    ∙ swap_and (ltb j m) (ltb k l) (ltb i n && r))
    t h

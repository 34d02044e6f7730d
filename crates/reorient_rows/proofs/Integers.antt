-- Sums and products of integers, for the exact case of a turned row: a row's value at a new index is that of the old row at the old index.
use mathlib.Core.Path.{◌≡◌, refl, sym, ap, ◌∙◌}
use mathlib.Core.Bool.{Bool, true, false}
use mathlib.Core.List.{[], ◌∷◌}
use Prim.Native.Nat.{ℕ, zero, suc, ◌+◌, ◌-◌, ◌*◌, ◌<◌}
use native.Mathlib.Nat.{mul-add, zero-mul}
use native.Mathlib.Omega.{arith}
use lib.ListN.{get_or}
use lib.IntN.{ℤ, pos, negsuc, neg_ℤ, ◌+ℤ◌, ◌*ℤ◌, neg_ℤ-neg_ℤ, neg_ℤ-+ℤ, +ℤ_assoc, +ℤ_comm, +ℤ_idl, +ℤ_invl}
use Rattle.reorient.specs.declared.Turn.{Turn}
use Rattle.reorient.specs.Reorient.{is_permutation, shown_as, mirrored}
use Rattle.reorient.proofs.Orders.{by_order, order}

-- ---- Laws of the integers

mul_sum : (c : ℤ) (a b : ℕ) → c *ℤ pos (a + b) ≡ c *ℤ pos a +ℤ c *ℤ pos b
mul_sum (pos n) a b = ap pos (mul-add n a b)
mul_sum (negsuc n) a b = ap (λ (k : ℕ). neg_ℤ (pos k)) (mul-add (suc n) a b) ∙ neg_ℤ-+ℤ (pos (suc n * a)) (pos (suc n * b))

mul_neg : (c : ℤ) (k : ℕ) → neg_ℤ c *ℤ pos k ≡ neg_ℤ (c *ℤ pos k)
mul_neg (pos zero) k = ap pos (zero-mul k) ∙ sym (ap (λ (n : ℕ). neg_ℤ (pos n)) (zero-mul k))
mul_neg (pos (suc n)) k = refl
mul_neg (negsuc n) k = sym (neg_ℤ-neg_ℤ (pos (suc n * k)))

-- the first two of three, and the last two, exchanged
first_two : (x y z : ℤ) → x +ℤ y +ℤ z ≡ y +ℤ x +ℤ z
first_two x y z = ap (λ w. w +ℤ z) (+ℤ_comm x y)

last_two : (x y z : ℤ) → x +ℤ y +ℤ z ≡ x +ℤ z +ℤ y
last_two x y z = +ℤ_assoc x y z ∙ ap (λ w. x +ℤ w) (+ℤ_comm y z) ∙ sym (+ℤ_assoc x z y)

-- ---- One axis

-- the column after an old axis, and the shift after it, as `facing` and `shifted` of the definitions have them
abbrev pub faced : Bool → ℤ → ℤ
faced false c = c
faced true c = neg_ℤ c

abbrev pub moved : Bool → ℕ → ℤ → ℤ → ℤ
moved false n c s = s
moved true n c s = s +ℤ c *ℤ pos (n - 1)

taken_back : (x p q s : ℤ) → x +ℤ neg_ℤ p +ℤ (s +ℤ (q +ℤ p)) ≡ x +ℤ q +ℤ s
taken_back x p q s =
    let other : s +ℤ (q +ℤ p) ≡ p +ℤ (q +ℤ s) = +ℤ_comm s (q +ℤ p) ∙ ap (λ w. w +ℤ s) (+ℤ_comm q p) ∙ +ℤ_assoc p q s in
    let none : neg_ℤ p +ℤ (p +ℤ (q +ℤ s)) ≡ q +ℤ s =
    sym (+ℤ_assoc (neg_ℤ p) p (q +ℤ s)) ∙ ap (λ w. w +ℤ (q +ℤ s)) (+ℤ_invl p) ∙ +ℤ_idl (q +ℤ s) in
    ap (λ w. x +ℤ neg_ℤ p +ℤ w) other ∙ +ℤ_assoc x (neg_ℤ p) (p +ℤ (q +ℤ s)) ∙ ap (λ w. x +ℤ w) none ∙ sym (+ℤ_assoc x q s)

-- what the new column gives at the new index, the shift makes up for; x stands for the other columns
axis_same : (r : Bool) (n j : ℕ) (c x s : ℤ) → j < n → x +ℤ faced r c *ℤ pos j +ℤ moved r n c s ≡ x +ℤ c *ℤ pos (mirrored r n j) +ℤ s
axis_same false n j c x s h = refl
axis_same true n j c x s h =
    let parts : n - 1 ≡ (n - 1 - j) + j = omega arith in
    let q : ℤ = c *ℤ pos (n - 1 - j) in
    let whole : c *ℤ pos (n - 1) ≡ q +ℤ c *ℤ pos j = ap (λ (k : ℕ). c *ℤ pos k) parts ∙ mul_sum c (n - 1 - j) j in
    (λ i. x +ℤ mul_neg c j i +ℤ (s +ℤ whole i)) ∙ taken_back x (c *ℤ pos j) q s

-- ---- A row

-- three columns at an index
abbrev pub across : ℤ → ℤ → ℤ → ℕ → ℕ → ℕ → ℤ
across a b c i j k = a *ℤ pos i +ℤ b *ℤ pos j +ℤ c *ℤ pos k

-- the column of an old axis
abbrev pub column_of : ℤ → ℤ → ℤ → ℕ → ℤ
column_of a b c o = get_or (a ∷ (b ∷ (c ∷ []))) (o - 1) (pos 0)

-- the columns permuted, and the index with them
pub across_permuted : (a b c : ℤ) (i j k : ℕ) (t : Turn) → is_permutation t ≡ true
    → across (column_of a b c t.axis1) (column_of a b c t.axis2) (column_of a b c t.axis3) i j k
    ≡ across a b c (shown_as t 1 i j k) (shown_as t 2 i j k) (shown_as t 3 i j k)
across_permuted a b c i j k t h =
    by_order
    (λ x y z. across (column_of a b c x) (column_of a b c y) (column_of a b c z) i j k
    ≡ across a b c (shown_as (order t x y z) 1 i j k) (shown_as (order t x y z) 2 i j k) (shown_as (order t x y z) 3 i j k))
    refl
    (last_two (a *ℤ pos i) (c *ℤ pos j) (b *ℤ pos k))
    (first_two (b *ℤ pos i) (a *ℤ pos j) (c *ℤ pos k))
    (last_two (b *ℤ pos i) (c *ℤ pos j) (a *ℤ pos k) ∙ first_two (b *ℤ pos i) (a *ℤ pos k) (c *ℤ pos j))
    (first_two (c *ℤ pos i) (a *ℤ pos j) (b *ℤ pos k) ∙ last_two (a *ℤ pos j) (c *ℤ pos i) (b *ℤ pos k))
    (first_two (c *ℤ pos i) (b *ℤ pos j) (a *ℤ pos k) ∙ last_two (b *ℤ pos j) (c *ℤ pos i) (a *ℤ pos k)
    ∙ first_two (b *ℤ pos j) (a *ℤ pos k) (c *ℤ pos i))
    t h

-- the axes reversed, and the shift with them
pub across_faced : (f g e : Bool) (l m n i j k : ℕ) (a b c s : ℤ) → i < l → j < m → k < n
    → across (faced f a) (faced g b) (faced e c) i j k +ℤ moved e n c (moved g m b (moved f l a s))
    ≡ across a b c (mirrored f l i) (mirrored g m j) (mirrored e n k) +ℤ s
across_faced f g e l m n i j k a b c s hi hj hk =
    let x : ℤ = faced f a *ℤ pos i in
    let y : ℤ = faced g b *ℤ pos j in
    let x' : ℤ = a *ℤ pos (mirrored f l i) in
    let y' : ℤ = b *ℤ pos (mirrored g m j) in
    let z' : ℤ = c *ℤ pos (mirrored e n k) in
    let s1 : ℤ = moved f l a s in
    let s2 : ℤ = moved g m b s1 in
    axis_same e n k c (x +ℤ y) s2 hk
    ∙ ap (λ w. w +ℤ s2) (last_two x y z')
    ∙ axis_same g m j b (x +ℤ z') s1 hj
    ∙ ap (λ w. w +ℤ s1) (last_two x z' y' ∙ first_two x y' z' ∙ last_two y' x z')
    ∙ axis_same f l i a (y' +ℤ z') s hi
    ∙ ap (λ w. w +ℤ s) (last_two y' z' x' ∙ first_two y' x' z')

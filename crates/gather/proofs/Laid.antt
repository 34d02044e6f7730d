-- Laws of specs/Rows.antt: what rows leave that are written in any order. A list w is what the last of them is to leave. Where each row is
-- what w has at its place, no row spoils what stands there as in w already, and each makes its own bytes so.
use mathlib.Core.Path.{◌≡◌, refl, sym, ◌∙◌}
use mathlib.Core.List.{List}
use mathlib.Core.Logic.{⊎_elim}
use Prim.Native.Nat.{ℕ, zero, suc, ◌+◌, ◌-◌, ◌*◌, ◌≤◌, ◌<◌}
use native.Mathlib.Nat.{add-zero, add-suc, mul-add, add_assoc, le_refl, eq-or-lt_of_le, eq-zero-or-pos, le_of_suc-le-suc, not-suc-le-zero}
use native.Mathlib.Numerals.{add-one}
use native.Mathlib.Omega.{arith}
use lib.ListN.{length, get_or}
use Rattle.buffer.specs.Put.{put}
use Rattle.buffer.proofs.Laws.{length-put, get_d_put_before, get_d_put_in, get_d_put_after}
use Rattle.gather.specs.Rows.{laid, stacked}

-- ---- loops that lay rows

pub laid_start : (at pitch : ℕ) (g : ℕ → List ℕ) (l : List ℕ) → l ≡ laid at pitch g 0 l
unfolding laid
laid_start at pitch g l = refl

pub laid_next : (at pitch : ℕ) (g : ℕ → List ℕ) (j : ℕ) (l out out' : List ℕ) (e : List ℕ) → out ≡ laid at pitch g j l
    → out' ≡ put out (at + pitch * j) e → e ≡ g j → out' ≡ laid at pitch g (j + 1) l
unfolding laid
laid_next at pitch g j l out out' e eo ep ee = rw (add-one, ep, eo, ee)

-- the same rows leave the same
pub laid_same : (at pitch : ℕ) (f g : ℕ → List ℕ) (n : ℕ) (l : List ℕ) → ((j : ℕ) → j < n → f j ≡ g j) → laid at pitch f n l ≡ laid at pitch g n l
unfolding laid
laid_same at pitch f g zero l h = refl
laid_same at pitch f g (suc n) l h = rw (laid_same at pitch f g n l (λ j m. h j (omega arith)), h n (le_refl (suc n)))

-- m rows after n others
pub laid_more : (at pitch : ℕ) (g : ℕ → List ℕ) (n m : ℕ) (l : List ℕ)
    → laid at pitch g (n + m) l ≡ laid (at + pitch * n) pitch (λ j. g (n + j)) m (laid at pitch g n l)
unfolding laid
laid_more at pitch g n zero l = rw add-zero
laid_more at pitch g n (suc m) l = rw (add-suc, laid_more at pitch g n m l, mul-add, add_assoc)

pub stacked_start : (at lift pitch : ℕ) (g : ℕ → ℕ → List ℕ) (m : ℕ) (l : List ℕ) → l ≡ stacked at lift pitch g m 0 l
unfolding stacked
stacked_start at lift pitch g m l = refl

pub stacked_next : (at lift pitch : ℕ) (g : ℕ → ℕ → List ℕ) (m k : ℕ) (l out out' : List ℕ) → out ≡ stacked at lift pitch g m k l
    → out' ≡ laid (at + lift * k) pitch (g k) m out → out' ≡ stacked at lift pitch g m (k + 1) l
unfolding stacked
stacked_next at lift pitch g m k l out out' eo ep = rw (add-one, ep, eo)

-- ---- towards w

-- byte i of l is w's
abbrev Right : List ℕ → List ℕ → ℕ → Type 0
Right w l i = get_or l i 0 ≡ get_or w i 0

-- w has e at q
pub record Piece (w : List ℕ) (q : ℕ) (e : List ℕ) : Type 0 where
  pub inside : q + length e ≤ length w
  pub own : (c : ℕ) → c < length e → get_or w (q + c) 0 ≡ get_or e c 0

module _ (w : List ℕ) where
  module _ (l : List ℕ) (q : ℕ) (e : List ℕ) (len : length l ≡ length w) (p : Piece w q e) where
    piece_makes : (c : ℕ) → c < length e → Right w (put l q e) (q + c)
    piece_makes c h = get_d_put_in l q e c h (omega (arith, p.inside)) ∙ sym (p.own c h)

    piece_keeps : (i : ℕ) → Right w l i → Right w (put l q e) i
    piece_keeps i r =
        let fit = p.inside in
        ⊎_elim
        (λ z.
        ⊎_elim
        (λ y. get_d_put_after l q e i (omega arith) (omega arith) ∙ r)
        (λ y.
        let k : q + (i - q) ≡ i = omega arith in
        rw k at (piece_makes (i - q) (omega arith)))
        (eq-zero-or-pos (q + length e - i)))
        (λ z. get_d_put_before l q e i (omega arith) (omega arith) ∙ r)
        (eq-zero-or-pos (q - i))

  -- rows, each of which w has at its place
  module _ (at pitch : ℕ) (g : ℕ → List ℕ) where
    laid-length : (n : ℕ) (l : List ℕ) → length l ≡ length w → ((j : ℕ) → j < n → Piece w (at + pitch * j) (g j))
        → length (laid at pitch g n l) ≡ length w
    unfolding laid
    laid-length zero l e p = e
    laid-length (suc n) l e p =
        let rest = laid-length n l e (λ j m. p j (omega arith)) in
        length-put (laid at pitch g n l) (at + pitch * n) (g n) (omega (arith, (p n (le_refl (suc n))).inside)) ∙ rest

    laid_keeps : (n : ℕ) (l : List ℕ) → length l ≡ length w → ((j : ℕ) → j < n → Piece w (at + pitch * j) (g j))
        → (i : ℕ) → Right w l i → Right w (laid at pitch g n l) i
    unfolding laid
    laid_keeps zero l e p i r = r
    laid_keeps (suc n) l e p i r =
        let rest : (j : ℕ) → j < n → Piece w (at + pitch * j) (g j) = λ j m. p j (omega arith) in
        piece_keeps (laid at pitch g n l) (at + pitch * n) (g n) (laid-length n l e rest) (p n (le_refl (suc n))) i (laid_keeps n l e rest i r)

    laid_makes : (n : ℕ) (l : List ℕ) → length l ≡ length w → ((j : ℕ) → j < n → Piece w (at + pitch * j) (g j))
        → (k c : ℕ) → k < n → c < length (g k) → Right w (laid at pitch g n l) (at + pitch * k + c)
    unfolding laid
    laid_makes zero l e p k c h hc = absurd (not-suc-le-zero h)
    laid_makes (suc n) l e p k c h hc =
        let rest : (j : ℕ) → j < n → Piece w (at + pitch * j) (g j) = λ j m. p j (omega arith) in
        let len = laid-length n l e rest in
        let last = p n (le_refl (suc n)) in
        ⊎_elim
        (λ z. rw z (piece_makes (laid at pitch g n l) (at + pitch * n) (g n) len last c (rw z at hc)))
        (λ m. piece_keeps (laid at pitch g n l) (at + pitch * n) (g n) len last (at + pitch * k + c) (laid_makes n l e rest k c m hc))
        (eq-or-lt_of_le (le_of_suc-le-suc h))

  -- planes of them
  module _ (at lift pitch : ℕ) (g : ℕ → ℕ → List ℕ) (m : ℕ) where
    pub stacked-length : (n : ℕ) (l : List ℕ) → length l ≡ length w → ((k j : ℕ) → k < n → j < m → Piece w (at + lift * k + pitch * j) (g k j))
        → length (stacked at lift pitch g m n l) ≡ length w
    unfolding stacked
    stacked-length zero l e p = e
    stacked-length (suc n) l e p =
        laid-length (at + lift * n) pitch (g n) m (stacked at lift pitch g m n l) (stacked-length n l e (λ k j h hj. p k j (omega arith) hj))
        (λ j hj. p n j (le_refl (suc n)) hj)

    pub stacked_keeps : (n : ℕ) (l : List ℕ) → length l ≡ length w → ((k j : ℕ) → k < n → j < m → Piece w (at + lift * k + pitch * j) (g k j))
        → (i : ℕ) → Right w l i → Right w (stacked at lift pitch g m n l) i
    unfolding stacked
    stacked_keeps zero l e p i r = r
    stacked_keeps (suc n) l e p i r =
        let rest : (k j : ℕ) → k < n → j < m → Piece w (at + lift * k + pitch * j) (g k j) = λ k j h hj. p k j (omega arith) hj in
        laid_keeps (at + lift * n) pitch (g n) m (stacked at lift pitch g m n l) (stacked-length n l e rest)
        (λ j hj. p n j (le_refl (suc n)) hj) i (stacked_keeps n l e rest i r)

    pub stacked_makes : (n : ℕ) (l : List ℕ) → length l ≡ length w → ((k j : ℕ) → k < n → j < m → Piece w (at + lift * k + pitch * j) (g k j))
        → (k j c : ℕ) → k < n → j < m → c < length (g k j) → Right w (stacked at lift pitch g m n l) (at + lift * k + pitch * j + c)
    unfolding stacked
    stacked_makes zero l e p k j c h hj hc = absurd (not-suc-le-zero h)
    stacked_makes (suc n) l e p k j c h hj hc =
        let rest : (k j : ℕ) → k < n → j < m → Piece w (at + lift * k + pitch * j) (g k j) = λ k j h hj. p k j (omega arith) hj in
        let len = stacked-length n l e rest in
        let last : (j : ℕ) → j < m → Piece w (at + lift * n + pitch * j) (g n j) = λ j hj. p n j (le_refl (suc n)) hj in
        ⊎_elim
        (λ z. rw z (laid_makes (at + lift * n) pitch (g n) m (stacked at lift pitch g m n l) len last j c hj (rw z at hc)))
        (λ o.
        let i : ℕ = at + lift * k + pitch * j + c in
        laid_keeps (at + lift * n) pitch (g n) m (stacked at lift pitch g m n l) len last i (stacked_makes n l e rest k j c o hj hc))
        (eq-or-lt_of_le (le_of_suc-le-suc h))

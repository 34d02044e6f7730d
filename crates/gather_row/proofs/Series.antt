-- Laws of `series` (specs/Series.antt), for this crate's proofs and for its callers'.
use mathlib.Core.Path.{◌≡◌, refl, sym, ap, ◌∙◌}
use mathlib.Core.List.{List, ◌++◌, append_assoc, append-nil}
use mathlib.Core.Logic.{⊎_elim}
use Prim.Native.Nat.{ℕ, zero, suc, ◌+◌, ◌*◌, ◌≤◌, ◌<◌}
use native.Mathlib.Nat.{add-zero, add-suc, mul-zero, mul-suc, mul-le-mul_left, le_refl, eq-or-lt_of_le, le_of_suc-le-suc, not-suc-le-zero}
use native.Mathlib.Omega.{arith}
use lib.ListN.{length, get_or, take, drop, length-append, length-drop}
use lib.Seq.{get_or-take, get_or-drop, take-add, take_all, take-append-le, drop_at, drop-drop, drop-append-le}
use Rattle.gather_row.specs.Series.{series}

-- the same parts make the same series
pub series_same : (f g : ℕ → List ℕ) (n : ℕ) → ((k : ℕ) → k < n → f k ≡ g k) → series f n ≡ series g n
unfolding series
series_same f g zero h = refl
series_same f g (suc n) h = rw (series_same f g n (λ k l. h k (omega arith)), h n (le_refl (suc n)))

-- its first m parts, and the others
pub series_add : (g : ℕ → List ℕ) (m n : ℕ) → series g (m + n) ≡ series g m ++ series (λ k. g (m + k)) n
unfolding series
series_add g m zero = rw (add-zero, append-nil)
series_add g m (suc n) = rw (add-suc, series_add g m n) (append_assoc (series g m) (series (λ k. g (m + k)) n) (g (m + n)))

-- n blocks of m parts each
pub series_blocks : (g : ℕ → List ℕ) (m n : ℕ) → series g (m * n) ≡ series (λ q. series (λ r. g (m * q + r)) m) n
unfolding series
series_blocks g m zero = rw mul-zero
series_blocks g m (suc n) = rw (mul-suc, series_add g (m * n) m, series_blocks g m n)

-- parts of s that lie side by side, from `from` on
pub series_side : (b : ℕ) (s : List ℕ) (from n : ℕ) → series (λ k. take b (drop (from + b * k) s)) n ≡ take (b * n) (drop from s)
unfolding series
series_side b s from zero = rw mul-zero
series_side b s from (suc n) = rw (series_side b s from n, mul-suc, take-add (b * n) b (drop from s), drop-drop)

-- ---- parts of b bytes each

pub series-length : (g : ℕ → List ℕ) (b n : ℕ) → ((k : ℕ) → k < n → length (g k) ≡ b) → length (series g n) ≡ b * n
unfolding series
series-length g b zero h = sym (mul-zero b)
series-length g b (suc n) h =
    rw (length-append, series-length g b n (λ k l. h k (omega arith)), h n (le_refl (suc n)), mul-suc)

-- part k
pub series_part : (g : ℕ → List ℕ) (b n k : ℕ) → ((i : ℕ) → i < n → length (g i) ≡ b) → k < n
    → take b (drop (b * k) (series g n)) ≡ g k
unfolding series
series_part g b zero k h l = absurd (not-suc-le-zero l)
series_part g b (suc n) k h l =
    let len : length (series g n) ≡ b * n = series-length g b n (λ i m. h i (omega arith)) in
    let last : length (g n) ≡ b = h n (le_refl (suc n)) in
    ⊎_elim
    (λ e.
    ap (λ (i : ℕ). take b (drop (b * i) (series g n ++ g n))) e
    ∙ ap (λ (x : List ℕ). take b x) (drop_at (series g n) (g n) (b * n) len)
    ∙ take_all b (g n) (omega arith)
    ∙ sym (ap g e))
    (λ m.
    let fit : b * k + b ≤ b * n = omega (arith, mul-suc b k, mul-le-mul_left {m = suc k} {n = n} b m) in
    let inside : b ≤ length (drop (b * k) (series g n)) = simp length-drop (omega arith) in
    rw (drop-append-le (b * k) (series g n) (g n) (omega arith), take-append-le b (drop (b * k) (series g n)) (g n) inside)
    (series_part g b n k (λ i o. h i (omega arith)) m))
    (eq-or-lt_of_le (le_of_suc-le-suc l))

-- byte c of part k
pub series_byte : (g : ℕ → List ℕ) (b n k c : ℕ) → ((i : ℕ) → i < n → length (g i) ≡ b) → k < n → c < b
    → get_or (series g n) (b * k + c) 0 ≡ get_or (g k) c 0
series_byte g b n k c h hk hc =
    rw (← series_part g b n k h hk, get_or-take b (drop (b * k) (series g n)) c 0 hc, get_or-drop (b * k) (series g n) c 0)

-- Laws of `tabulate`, and the turns of a loop that fills a list from the front.
use Prim.Native.Nat.{ℕ, zero, suc, ◌+◌, ◌≤◌, ◌<◌}
use mathlib.Core.Path.{◌≡◌, refl, ap, ◌∙◌, sym}
use mathlib.Core.List.{List, [], ◌∷◌, ◌++◌, append-nil}
use native.Mathlib.Omega.{arith}
use native.Mathlib.Numerals.{add-one}
use lib.ListN.{length, get_or, take, drop, set, length-drop}
use lib.Seq.{drop-cons, set_at, append_snoc, drop-length, ext_get_or, length-take-le, get_or-take, get_or-drop}
use Rattle.field.specs.Numbers.{tabulate, bytes_at}

module _ {ℓ} {A : Type ℓ} where
  pub length-tabulate : (f : ℕ → A) (n : ℕ) → length (tabulate f n) ≡ n
  length-tabulate f zero = refl
  length-tabulate f (suc n) = ap suc (length-tabulate (λ i. f (suc i)) n)

  -- one value more
  pub tabulate_more : (f : ℕ → A) (n : ℕ) → tabulate f (suc n) ≡ tabulate f n ++ (f n ∷ [])
  tabulate_more f zero = refl
  tabulate_more f (suc n) = ap (λ (l : List A). f 0 ∷ l) (tabulate_more (λ i. f (suc i)) n)

  -- a turn of a loop that fills a list from the front
  pub tabulate_fill : (f : ℕ → A) (z : A) (d : List A) (n : ℕ) → n < length d
      → set (tabulate f n ++ drop n d) n (f n) ≡ tabulate f (n + 1) ++ drop (n + 1) d
  tabulate_fill f z d n h =
      rw (add-one, drop-cons d n z)
      (set_at (tabulate f n) (get_or d n z) (drop (suc n) d) (f n) n (length-tabulate f n)
      ∙ sym (append_snoc (tabulate f n) (f n) (drop (suc n) d))
      ∙ ap (λ (l : List A). l ++ drop (suc n) d) (sym (tabulate_more f n)))

  -- a turn of the loop, as its proof needs it: z is any value
  pub tabulate_turn : (f : ℕ → A) (z : A) (d : List A) (out : List A) (i : ℕ) (v : A) → i < length d → out ≡ tabulate f i ++ drop i d → v ≡ f i
      → set out i v ≡ tabulate f (i + 1) ++ drop (i + 1) d
  tabulate_turn f z d out i v h e ev = rw (e, ev) (tabulate_fill f z d i h)

  -- after the last turn
  pub tabulate_done : (f : ℕ → A) (d : List A) (out : List A) (i : ℕ) → i ≤ length d → length d ≤ i → out ≡ tabulate f i ++ drop i d
      → out ≡ tabulate f (length d)
  tabulate_done f d out i h g e =
      let same : i ≡ length d = omega arith in
      e ∙ rw (same, drop-length) (append-nil (tabulate f (length d)))

  pub tabulate_get : (f : ℕ → A) (n i : ℕ) (d : A) → i < n → get_or (tabulate f n) i d ≡ f i
  tabulate_get f zero i d h = absurd (omega arith)
  tabulate_get f (suc n) zero d h = refl
  tabulate_get f (suc n) (suc i) d h = tabulate_get (λ k. f (suc k)) n i d (omega arith)

  -- equal values give equal lists
  pub tabulate_same : (f g : ℕ → A) (n : ℕ) → ((i : ℕ) → i < n → f i ≡ g i) → tabulate f n ≡ tabulate g n
  tabulate_same f g zero h = refl
  tabulate_same f g (suc n) h = λ j. h 0 (omega arith) j ∷ tabulate_same (λ i. f (suc i)) (λ i. g (suc i)) n (λ i b. h (suc i) (omega arith)) j

-- within the list, a bytes_at is a part of it
pub bytes_at_part : (at w : ℕ) (s : List ℕ) → at + w ≤ length s → bytes_at at w s ≡ take w (drop at s)
bytes_at_part at w s h =
    let room : w ≤ length (drop at s) = simp length-drop (omega arith) in
    ext_get_or 0 (bytes_at at w s) (take w (drop at s))
    (length-tabulate (λ i. get_or s (at + i) 0) w ∙ sym (length-take-le w (drop at s) room))
    (λ i below.
    let less : i < w = rw (length-tabulate (λ k. get_or s (at + k) 0) w) at below in
    tabulate_get (λ k. get_or s (at + k) 0) w i 0 less ∙ sym (get_or-take w (drop at s) i 0 less ∙ get_or-drop at s i 0))

-- a list filled by a copy of such a part
pub part_copied : (at m : ℕ) (s out out' : List ℕ) → m ≡ length out → at + m ≤ length s → out' ≡ take m (drop at s) → out' ≡ bytes_at at (length out) s
part_copied at m s out out' all h e = e ∙ sym (bytes_at_part at m s h) ∙ ap (λ (n : ℕ). bytes_at at n s) all

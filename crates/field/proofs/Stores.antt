-- Laws of `sets`, a run of stores: one run after another, and the lengths of the runs that a header is written by.
use Prim.Native.Nat.{ℕ, zero, suc, ◌+◌, ◌*◌, ◌≤◌}
use mathlib.Core.Path.{◌≡◌, ap, ◌∙◌, sym}
use mathlib.Core.List.{List, [], ◌∷◌, ◌++◌, append_assoc, append-nil}
use native.Mathlib.Omega.{arith}
use native.Mathlib.Numerals.{add-one}
use native.Mathlib.Nat.{suc-mul, zero-mul}
use lib.ListN.{length, get_or, set, drop, length-append}
use lib.Seq.{sets, sets-eq}
use lib.IntN.{ℤ, pos}
use mir.Syntax.{w16}
use mir.Val.{of_z}
use Rattle.field.specs.declared.Order.{Order}
use Rattle.field.specs.Numbers.{tabulate, joined, padded, bytes_of, low_first, little_bytes, u32s_bytes, i16s_bytes}
use Rattle.field.proofs.Tabulate.{tabulate_more, length-tabulate}

pub sets-append : (p q l : List ℕ) (i : ℕ) → sets (sets l i p) (i + length p) q ≡ sets l i (p ++ q)
sets-append [] q l i = let e : i + 0 ≡ i = omega arith in rw e
sets-append (a ∷ p) q l i =
    let e : i + suc (length p) ≡ suc i + length p = omega arith in
    rw e (sets-append p q (set l i a) (suc i))

-- after a run of k stores, the next
pub sets-next : (p q l : List ℕ) (i k : ℕ) → length p ≡ k → sets (sets l i p) (i + k) q ≡ sets l i (p ++ q)
sets-next p q l i k e = rw (← e) (sets-append p q l i)

joined_snoc : (ps : List (List ℕ)) (p : List ℕ) → joined (ps ++ (p ∷ [])) ≡ joined ps ++ p
joined_snoc [] p = append-nil p
joined_snoc (r ∷ ps) p = ap (λ (l : List ℕ). r ++ l) (joined_snoc ps p) ∙ sym (append_assoc r (joined ps) p)

module _ (f : ℕ → List ℕ) (w : ℕ) (each : (i : ℕ) → length (f i) ≡ w) where
  pub length-joined : (n : ℕ) → length (joined (tabulate f n)) ≡ n * w
  length-joined zero = sym (zero-mul w)
  length-joined (suc n) =
      ap (λ (l : List (List ℕ)). length (joined l)) (tabulate_more f n)
      ∙ ap length (joined_snoc (tabulate f n) (f n))
      ∙ length-append (joined (tabulate f n)) (f n)
      ∙ omega (arith, length-joined n, each n, suc-mul n w)

  -- a turn of a loop that stores one piece after the other
  pub run_turn : (l : List ℕ) (at : ℕ) (buf : List ℕ) (i : ℕ) → buf ≡ sets l at (joined (tabulate f i))
      → sets buf (at + i * w) (f i) ≡ sets l at (joined (tabulate f (i + 1)))
  run_turn l at buf i e =
      rw (e, add-one)
      (sets-next (joined (tabulate f i)) (f i) l at (i * w) (length-joined i)
      ∙ ap (sets l at) (sym (ap joined (tabulate_more f i) ∙ joined_snoc (tabulate f i) (f i))))

-- the same, byte by byte
pub byte_turn : (f : ℕ → ℕ) (l : List ℕ) (at : ℕ) (buf : List ℕ) (i : ℕ) → buf ≡ sets l at (tabulate f i)
    → set buf (at + i) (f i) ≡ sets l at (tabulate f (i + 1))
byte_turn f l at buf i e =
    rw (e, add-one)
    (sets-next (tabulate f i) (f i ∷ []) l at i (length-tabulate f i) ∙ ap (sets l at) (sym (tabulate_more f i)))

-- one run of stores, taken apart at the end of its first piece
pub sets_split : (p q l : List ℕ) (i : ℕ) → sets l i (p ++ q) ≡ sets (sets l i p) (i + length p) q
sets_split p q l i = sym (sets-append p q l i)

pub length-bytes_of : (order : Order) (w n : ℕ) → length (bytes_of order w n) ≡ w
unfolding bytes_of padded
length-bytes_of order w n = length-tabulate (λ i. get_or (low_first order (little_bytes w n)) i 0) w

pub length-padded : (n : ℕ) (l : List ℕ) → length (padded n l) ≡ n
unfolding padded
length-padded n l = length-tabulate (λ i. get_or l i 0) n

pub length_u32s : (order : Order) (n : ℕ) (l : List ℕ) → length (u32s_bytes order n l) ≡ n * 4
unfolding u32s_bytes
length_u32s order n l = length-joined (λ i. bytes_of order 4 (get_or l i 0)) 4 (λ i. length-bytes_of order 4 (get_or l i 0)) n

pub length_i16s : (order : Order) (n : ℕ) (l : List ℤ) → length (i16s_bytes order n l) ≡ n * 2
unfolding i16s_bytes
length_i16s order n l =
    let b : ℕ → ℕ = λ i. of_z w16 (get_or l i (pos 0)) in
    length-joined (λ i. bytes_of order 2 (b i)) 2 (λ i. length-bytes_of order 2 (b i)) n

-- stores at the front, where they fit
pub sets_front : (p l : List ℕ) → length p ≤ length l → sets l 0 p ≡ p ++ drop (length p) l
sets_front p l h = let e : 0 + length p ≡ length p = omega arith in rw e at (sets-eq p l 0 (omega arith))

-- The laws of turned units, each once over the width w. `turned_parts` says how units lie one after another, and most others follow from it.
use mathlib.Core.Path.{◌≡◌, refl, sym, ap, ◌∙◌}
use mathlib.Core.List.{List, [], ◌∷◌, ◌++◌, append_assoc, append-nil, reverse, reverse-reverse}
use Prim.Native.Nat.{ℕ, zero, suc, ◌+◌, ◌*◌, ◌-◌, ◌≤◌}
use native.Mathlib.Nat.{suc-mul, add-mul, zero-add, add-zero, zero-mul, suc-add, le-add_right}
use native.Mathlib.Omega.{arith}
use lib.ListN.{length, take, drop, length-append, length-take, length-drop, length-reverse, take-append-drop}
use lib.Seq.{length-take-le, take-take, take_at, drop_at, drop-drop, slice_empty}
use borrow.Rule.Slice.PartMut.{put_mid}
use Rattle.number.proofs.Lists.{drop-take_add}
use Rattle.units.specs.Units.{turned, turned_at}

-- ---- Parts of a list

-- where k bytes from index `at` were replaced by those of a: what ends there, and what follows
module _ (at k : ℕ) (l a d : List ℕ) (room : at ≤ length l) (size : length a ≡ k) where
  ends : length (take at l ++ a) ≡ at + k
  ends = simp (length-append, length-take) (omega arith)

  pub take_past : take (at + k) (take at l ++ (a ++ d)) ≡ take at l ++ a
  take_past = rw (← append_assoc (take at l) a d) (take_at (take at l ++ a) d (at + k) ends)

  pub drop_past : drop (at + k) (take at l ++ (a ++ d)) ≡ d
  drop_past = rw (← append_assoc (take at l) a d) (drop_at (take at l ++ a) d (at + k) ends)

-- ---- Lengths, and units that leave all as it is

pub length-turned : (w n : ℕ) (l : List ℕ) → length (turned w n l) ≡ length l
unfolding turned
length-turned w zero l = refl
length-turned w (suc n) l = simp (length-append, length-reverse, length-turned w n (drop w l), length-take, length-drop) (omega arith)

pub length-turned_at : (w at n : ℕ) (l : List ℕ) → length (turned_at w at n l) ≡ length l
unfolding turned_at
length-turned_at w at n l = simp (length-append, length-turned, length-take, length-drop) (omega arith)

-- units of one byte stay
pub turned_bytes : (n : ℕ) (l : List ℕ) → turned 1 n l ≡ l
unfolding turned
turned_bytes zero l = refl
turned_bytes (suc n) [] = turned_bytes n []
turned_bytes (suc n) (x ∷ l) = ap (λ (r : List ℕ). x ∷ r) (turned_bytes n l)

pub turned_at_bytes : (at n : ℕ) (l : List ℕ) → turned_at 1 at n l ≡ l
unfolding turned_at
turned_at_bytes at n l = rw turned_bytes (take-append-drop at l)

-- no unit is left
pub turned_done : (w at n : ℕ) (l : List ℕ) → n ≤ 0 → turned_at w at n l ≡ l
unfolding turned_at turned
turned_done w at n l h = let e : n ≡ 0 = omega arith in rw e (take-append-drop at l)

-- ---- Units from the front

-- m units, which need only their own bytes, then n units
pub turned_parts : (w m n : ℕ) (l : List ℕ) → turned w (m + n) l ≡ turned w m (take (m * w) l) ++ turned w n (drop (m * w) l)
unfolding turned
turned_parts w zero n l = rw (zero-add, zero-mul)
turned_parts w (suc m) n l =
    let e : suc m * w ≡ w + m * w = omega (arith, suc-mul m w) in
    let t : take w (take (w + m * w) l) ≡ take w l = take-take w (w + m * w) l (le-add_right w (m * w)) in
    rw (suc-add, e, t, drop-take_add w (m * w) l, ← drop-drop (m * w) w l, append_assoc)
    (ap (λ (r : List ℕ). reverse (take w l) ++ r) (turned_parts w m n (drop w l)))

-- the units need only their own bytes
pub turned_own : (w n : ℕ) (l : List ℕ) → turned w n l ≡ turned w n (take (n * w) l) ++ drop (n * w) l
unfolding turned
turned_own w n l = rw add-zero at (turned_parts w n 0 l)

-- how long they are
length_own : (w n : ℕ) (l : List ℕ) → n * w ≤ length l → length (turned w n (take (n * w) l)) ≡ n * w
length_own w n l h = length-turned w n (take (n * w) l) ∙ length-take-le (n * w) l h

-- m of the n units, from unit k on
pub turned_within : (w k m n : ℕ) (l : List ℕ) → k + m ≤ n → (k + m) * w ≤ length l
    → take (m * w) (drop (k * w) (turned w n l)) ≡ turned w m (take (m * w) (drop (k * w) l))
turned_within w k m n l h g =
    let s : n ≡ k + (m + (n - (k + m))) = omega arith in
    let f : List ℕ = turned w k (take (k * w) l) in
    let d : List ℕ = drop (k * w) l in
    let u : List ℕ = turned w m (take (m * w) d) in
    let r : List ℕ = turned w (n - (k + m)) (drop (m * w) d) in
    let before : length f ≡ k * w = length_own w k l (omega (arith, add-mul k m w)) in
    let own : length u ≡ m * w = length_own w m d (rw length-drop (omega (arith, add-mul k m w))) in
    ap (λ (x : ℕ). take (m * w) (drop (k * w) (turned w x l))) s
    ∙ rw (turned_parts w k (m + (n - (k + m))) l, turned_parts w m (n - (k + m)) d, drop_at f (u ++ r) (k * w)) (take_at u r (m * w) own)

-- one unit alone
pub turned_one : (w : ℕ) (l : List ℕ) → turned w 1 (take w l) ≡ reverse (take w l)
unfolding turned
turned_one w l =
    let t : take w (take w l) ≡ take w l = take-take w w l (omega arith) in
    rw (t, slice_empty w l) (append-nil (reverse (take w l)))

-- turning round twice gives the list back
pub turned_twice : (w n : ℕ) (l : List ℕ) → n * w ≤ length l → turned w n (turned w n l) ≡ l
unfolding turned
turned_twice w zero l h = refl
turned_twice w (suc n) l h =
    let r : List ℕ = reverse (take w l) in
    let t : List ℕ = turned w n (drop w l) in
    let own : length r ≡ w = simp (length-reverse, length-take) (omega (arith, suc-mul n w)) in
    let h' : n * w ≤ length (drop w l) = rw length-drop (omega (arith, suc-mul n w)) in
    rw (take_at r t w, drop_at r t w, reverse-reverse (take w l), turned_twice w n (drop w l) h') (take-append-drop w l)

-- ---- Units in place

-- the first m units, then the others
pub turned_split : (w at m n : ℕ) (l : List ℕ) → at + m * w ≤ length l → turned_at w at (m + n) l ≡ turned_at w (at + m * w) n (turned_at w at m l)
unfolding turned_at
turned_split w at m n l h =
    let d : List ℕ = drop at l in
    let a : List ℕ = turned w m (take (m * w) d) in
    let r : List ℕ = drop (m * w) d in
    let room : at ≤ length l = omega arith in
    let size : length a ≡ m * w = length_own w m d (rw length-drop (omega arith)) in
    rw (turned_parts w m n d)
    (sym (rw (turned_own w m d, take_past at (m * w) l a r, drop_past at (m * w) l a r) (append_assoc (take at l) a (turned w n r))))

-- m of n units are turned round, and the others are left: a turn of a loop
pub turned_next : (w at m n : ℕ) (l l' : List ℕ) → m ≤ n → at + n * w ≤ length l → l' ≡ turned_at w at m l
    → turned_at w at n l ≡ turned_at w (at + m * w) (n - m) l'
turned_next w at m n l l' h k e =
    let s : n ≡ m + (n - m) = omega arith in
    let k' : at + m * w ≤ length l = omega (arith, add-mul m (n - m) w, ap (λ (x : ℕ). x * w) s) in
    ap (λ (x : ℕ). turned_at w at x l) s ∙ turned_split w at m (n - m) l k' ∙ sym (rw e)

-- ---- The loop that reverses each unit

-- a part of k bytes reversed in place is one unit turned round
pub turned-reverse : (w at k : ℕ) (l part : List ℕ) → k ≡ w → part ≡ reverse (take k (drop at l)) → put_mid at k l part ≡ turned_at w at 1 l
unfolding turned_at turned
turned-reverse w at k l part e p = rw (p, e, drop-drop w at l)

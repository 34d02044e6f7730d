-- What a turn of each loop of src/lib.rt does, as laws of `put`.
use mathlib.Core.Path.{◌≡◌, sym, ◌∙◌}
use mathlib.Core.List.{List, [], ◌∷◌, ◌++◌}
use Prim.Native.Nat.{ℕ, ◌+◌, ◌≤◌, ◌<◌}
use native.Mathlib.Numerals.{add-one}
use native.Mathlib.Omega.{arith}
use lib.ListN.{length, set, take, drop, length-take, length-drop}
use lib.Seq.{set_split, take-add, drop-drop}
use borrow.Rule.Slice.PartMut.{put_mid}
use Rattle.buffer.specs.Put.{put}
use Rattle.buffer.proofs.Laws.{length-put, take-drop-put, part_put, drop-put, put_right, put_left}

-- a part written whole
pub put_mid-put : (l e b : List ℕ) (at k : ℕ) → b ≡ e → k ≡ length e → put_mid at k l b ≡ put l at e
unfolding put
put_mid-put l e b at k eb ek = rw (eb, ek, ← drop-drop)

-- a store is a write of one byte
pub set-put : (l : List ℕ) (i v : ℕ) → i < length l → set l i v ≡ put l i (v ∷ [])
unfolding put
set-put l i v h = rw add-one (set_split l i v h)

-- one more byte stored right behind what was written
pub store_next : (l : List ℕ) (at : ℕ) (e b : List ℕ) (i v : ℕ) → b ≡ put l at e → i ≡ at + length e → i < length l → set b i v ≡ put l at (e ++ (v ∷ []))
store_next l at e b i v eb ei h =
    let n : length b ≡ length l = rw eb (length-put l at e (omega arith)) in
    set-put b i v (omega arith) ∙ put_right l at e (v ∷ []) b i eb ei (omega arith)

-- n bytes of l, by way of t, to another place of l
pub by_way_of : (l z t b : List ℕ) (from to n k m : ℕ) → from + n ≤ length l → k ≡ n → m ≡ n
    → t ≡ put z 0 (take k (drop from l)) → b ≡ put l to (take m t) → b ≡ put l to (take n (drop from l))
by_way_of l z t b from to n k m h ek em et eb =
    let e : List ℕ = take n (drop from l) in
    let len : length e ≡ n = simp (length-take, length-drop) (omega arith) in
    let back : take n (put z 0 e) ≡ e = rw len at (take-drop-put z 0 e (omega arith)) in
    rw (eb, et, ek, em, back)

-- A slide of n = k + m bytes downwards is one of the first k and then one of the others; upwards it is one of the last m and then one of
-- the others.
module _ (l b : List ℕ) (from to n k m : ℕ) where
  pub down_in_two : n ≡ k + m → to ≤ from → from + n ≤ length l → b ≡ put l to (take k (drop from l))
      → put l to (take n (drop from l)) ≡ put b (to + k) (take m (drop (from + k) b))
  down_in_two s o h e =
      let first : List ℕ = take k (drop from l) in
      let len : length first ≡ k = simp (length-take, length-drop) (omega arith) in
      let d : drop (from + k) b ≡ drop k (drop from l) = rw (e, drop-put l to first (from + k) (omega arith) (omega arith), drop-drop) in
      rw (s, take-add k m (drop from l), d) (sym (put_right l to first (take m (drop k (drop from l))) b (to + k) e (omega arith) (omega arith)))

  pub up_in_two : n ≡ k + m → from ≤ to → to + n ≤ length l → b ≡ put l (to + k) (take m (drop (from + k) l))
      → put l to (take n (drop from l)) ≡ put b to (take k (drop from b))
  up_in_two s o h e =
      let last : List ℕ = take m (drop (from + k) l) in
      let len : length (take k (drop from l)) ≡ k = simp (length-take, length-drop) (omega arith) in
      let d : take k (drop from b) ≡ take k (drop from l) = rw e (part_put l (to + k) last from k (omega arith) (omega arith)) in
      rw (s, take-add k m (drop from l), d, drop-drop) (sym (put_left l (to + k) last (take k (drop from l)) b to e (omega arith) (omega arith)))

-- Laws of `put` (specs/Put.antt), for this crate's proofs and for its callers': a write next to another makes one `put` of both, and
-- what a write leaves is read off by `take`, `drop` and `get_or`.
use mathlib.Core.Path.{◌≡◌, refl, ap, ◌∙◌}
use mathlib.Core.List.{List, [], ◌++◌, append_assoc, append-nil}
use Prim.Native.Nat.{ℕ, ◌+◌, ◌-◌, ◌≤◌, ◌<◌}
use native.Mathlib.Nat.{add-zero, sub_self}
use native.Mathlib.Omega.{arith}
use lib.ListN.{length, get_or, take, drop, length-take, length-drop, length-append, take-append-drop, get_or-append}
use lib.Seq.{length-take-le, take-append-le, drop-append-le, take-append-add, drop-append-add, take_at, drop_at}
use lib.Seq.{take-take, drop-drop, get_or-take, get_or-drop, sets, sets-eq}
use Rattle.number.proofs.Lists.{drop-take_add}
use Rattle.buffer.specs.Put.{put}

-- nothing written
pub put_nil : (l : List ℕ) (at : ℕ) → put l at [] ≡ l
unfolding put
put_nil l at = rw (add-zero, take-append-drop)

-- a run of stores inside the buffer is a write
pub sets-put : (l : List ℕ) (at : ℕ) (e : List ℕ) → at + length e ≤ length l → sets l at e ≡ put l at e
unfolding put
sets-put l at e h = sets-eq e l at h ∙ append_assoc (take at l) e (drop (at + length e) l)

-- what lies there already, written anew
pub put_same : (l : List ℕ) (at n : ℕ) → at + n ≤ length l → put l at (take n (drop at l)) ≡ l
unfolding put
put_same l at n h =
    let k : length (take n (drop at l)) ≡ n = length-take-le n (drop at l) (simp length-drop (omega arith)) in
    rw (k, ← drop-drop, take-append-drop, take-append-drop)

module _ (l : List ℕ) (at : ℕ) (e : List ℕ) where
  pub length-put : at + length e ≤ length l → length (put l at e) ≡ length l
  unfolding put
  length-put h = simp (length-append, length-take, length-drop) (omega arith)

  -- ---- parts of what a write leaves

  -- before it
  pub take_put : (k : ℕ) → k ≤ at → at ≤ length l → take k (put l at e) ≡ take k l
  unfolding put
  take_put k h hl =
      let n = length-take-le at l hl in
      take-append-le k (take at l) (e ++ drop (at + length e) l) (omega arith) ∙ take-take k at l h

  -- a part before it
  pub part_put : (from n : ℕ) → from + n ≤ at → at ≤ length l → take n (drop from (put l at e)) ≡ take n (drop from l)
  part_put from n h hl = rw (← drop-take_add from n (put l at e), ← drop-take_add from n l, take_put (from + n) h hl)

  -- from its place on
  pub drop-put_at : at ≤ length l → drop at (put l at e) ≡ e ++ drop (at + length e) l
  unfolding put
  drop-put_at hl = drop_at (take at l) (e ++ drop (at + length e) l) at (length-take-le at l hl)

  -- in it
  pub take-drop-put : at ≤ length l → take (length e) (drop at (put l at e)) ≡ e
  take-drop-put hl = rw (drop-put_at hl) (take_at e (drop (at + length e) l) (length e) refl)

  -- up to a place behind it
  pub take-put_past : (k : ℕ) → at + length e ≤ k → at ≤ length l
      → take k (put l at e) ≡ take at l ++ (e ++ take (k - (at + length e)) (drop (at + length e) l))
  unfolding put
  take-put_past k h hl =
      let r : ℕ = k - (at + length e) in
      let p : length (take at l ++ e) ≡ at + length e = simp (length-append, length-take) (omega arith) in
      let q : k ≡ length (take at l ++ e) + r = omega arith in
      ap (λ (n : ℕ). take n (put l at e)) q
      ∙ rw (← append_assoc (take at l) e (drop (at + length e) l)) (take-append-add (take at l ++ e) (drop (at + length e) l) r)
      ∙ append_assoc (take at l) e (take r (drop (at + length e) l))

  -- behind it
  pub drop-put : (k : ℕ) → at + length e ≤ k → at ≤ length l → drop k (put l at e) ≡ drop k l
  drop-put k h hl =
      let r : ℕ = k - (at + length e) in
      let q : k ≡ at + (length e + r) = omega arith in
      let q' : at + length e + r ≡ at + (length e + r) = omega arith in
      rw (q, ← drop-drop (length e + r) at (put l at e), drop-put_at hl, drop-append-add e (drop (at + length e) l) r, drop-drop, q')

  -- ---- a byte of what a write leaves

  pub get_d_put_before : (i : ℕ) → i < at → at ≤ length l → get_or (put l at e) i 0 ≡ get_or l i 0
  get_d_put_before i h hl = rw (← get_or-take at (put l at e) i 0 h, take_put at (omega arith) hl, get_or-take at l i 0 h)

  pub get_d_put_in : (i : ℕ) → i < length e → at ≤ length l → get_or (put l at e) (at + i) 0 ≡ get_or e i 0
  get_d_put_in i h hl = rw (← get_or-drop at (put l at e) i 0, drop-put_at hl, get_or-append e (drop (at + length e) l) 0 i h)

  pub get_d_put_after : (i : ℕ) → at + length e ≤ i → at ≤ length l → get_or (put l at e) i 0 ≡ get_or l i 0
  get_d_put_after i h hl =
      let n : ℕ = at + length e in
      let q : i ≡ n + (i - n) = omega arith in
      rw (q, ← get_or-drop n (put l at e) (i - n) 0, drop-put n (omega arith) hl, get_or-drop)

  -- ---- two writes

  -- g right behind what was written
  pub put_right : (g b : List ℕ) (at' : ℕ) → b ≡ put l at e → at' ≡ at + length e → at ≤ length l → put b at' g ≡ put l at (e ++ g)
  unfolding put
  put_right g b at' eb ea hl =
      let k : at + length (e ++ g) ≡ at + length e + length g = simp length-append (omega arith) in
      let t : take (at + length e) (put l at e) ≡ take at l ++ e = take-put_past (at + length e) (omega arith) hl ∙ rw (sub_self, append-nil) in
      rw (eb, ea, k, t, drop-put (at + length e + length g) (omega arith) hl) (simp append_assoc)

  -- g right before it
  pub put_left : (g b : List ℕ) (at' : ℕ) → b ≡ put l at e → at ≡ at' + length g → at ≤ length l → put b at' g ≡ put l at' (g ++ e)
  unfolding put
  put_left g b at' eb ea hl =
      let k : at' + length (g ++ e) ≡ at + length e = simp length-append (omega arith) in
      rw (eb, k, ← ea, take_put at' (omega arith) hl, drop-put_at hl) (simp append_assoc)

  -- within the first of two lists
  pub put-append : (r : List ℕ) → at + length e ≤ length l → put (l ++ r) at e ≡ put l at e ++ r
  unfolding put
  put-append r h = rw (take-append-le at l r (omega arith), drop-append-le (at + length e) l r h) (simp append_assoc)

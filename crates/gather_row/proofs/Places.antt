-- Laws of specs/Gather.antt: an axis more, and one axis by itself.
use mathlib.Core.Path.{◌≡◌, sym, ap, ◌∙◌}
use mathlib.Core.List.{List, [], ◌∷◌, ◌++◌}
use Prim.Native.Nat.{ℕ, zero, suc, ◌+◌, ◌-◌, ◌*◌, ◌/◌, ◌%◌, ◌≤◌, ◌<◌, zero-le, suc-le-suc}
use native.Mathlib.Nat.{add-zero, zero-add, add_assoc, mul_comm, mul_assoc, one-mul, mul-one, mul-suc, suc-mul, zero-mul}
use native.Mathlib.Nat.{mod-eq_of_lt, mod-lt, mul-add-mod_self_left, mul-add-div, mul-pos}
use native.Mathlib.Numerals.{add-one}
use native.Mathlib.Omega.{arith}
use lib.Arith.{digits_lt}
use lib.ListN.{get_or, length, take, drop, length-take, length-drop}
use lib.Seq.{take-suc, take-add, drop-drop}
use Rattle.buffer.specs.Put.{put}
use Rattle.buffer.proofs.Laws.{take-drop-put, put_right}
use Rattle.grid.proofs.Voxels.{digit_off}
use Rattle.gather_row.specs.declared.Axis.{Axis}
use Rattle.gather_row.specs.Series.{series}
use Rattle.gather_row.specs.Gather.{reach, count_of, place_in, gathered, Inside}
use Rattle.gather_row.proofs.Series.{series_same, series_blocks, series_side, series-length}

-- ---- a slowest axis more

count_snoc : (xs : List Axis) (a : Axis) → count_of (xs ++ (a ∷ [])) ≡ count_of xs * a.length
unfolding count_of
count_snoc [] a = rw (mul-one, one-mul)
count_snoc (x ∷ xs) a = rw (count_snoc xs a) (sym (mul_assoc x.length (count_of xs) a.length))

-- voxel r of block q
place_snoc : (xs : List Axis) (a : Axis) (q r : ℕ) → r < count_of xs → q < a.length
    → place_in (xs ++ (a ∷ [])) (count_of xs * q + r) ≡ place_in xs r + reach a q
unfolding count_of place_in
place_snoc [] a q r h g =
    let e : 1 * q + r ≡ q = omega arith in
    rw (e, mod-eq_of_lt g, add-zero, zero-add)
place_snoc (x ∷ xs) a q r h g =
    let p = digit_off x.length (count_of xs) r h in
    rw (mul_assoc, mul-add-mod_self_left, mul-add-div p.0 (count_of xs * q) r, place_snoc xs a q (r / x.length) p.1 g)
    (sym (add_assoc (reach x (r % x.length)) (place_in xs (r / x.length)) (reach a q)))

-- what is gathered is the blocks of the last axis, one after another
pub gathered_snoc : (b : ℕ) (s : List ℕ) (from : ℕ) (xs : List Axis) (a : Axis)
    → gathered b s from (xs ++ (a ∷ [])) ≡ series (λ q. gathered b s (from + reach a q) xs) a.length
unfolding gathered
gathered_snoc b s from xs a =
    let m : ℕ = count_of xs in
    rw (count_snoc xs a, series_blocks (λ k. take b (drop (from + place_in (xs ++ (a ∷ [])) k) s)) m a.length)
    (series_same
    (λ q. series (λ r. take b (drop (from + place_in (xs ++ (a ∷ [])) (m * q + r)) s)) m)
    (λ q. series (λ r. take b (drop (from + reach a q + place_in xs r) s)) m)
    a.length
    (λ q hq.
    series_same
    (λ r. take b (drop (from + place_in (xs ++ (a ∷ [])) (m * q + r)) s))
    (λ r. take b (drop (from + reach a q + place_in xs r) s))
    m
    (λ r hr.
    let e : from + place_in (xs ++ (a ∷ [])) (m * q + r) ≡ from + reach a q + place_in xs r = omega (arith, place_snoc xs a q r hr hq) in
    rw e)))

pub some_left : (m n : ℕ) → 0 < m * n → 0 < m
some_left zero n h = let z : 0 < 0 = rw zero-mul at h in z
some_left (suc m) n h = suc-le-suc zero-le

-- each block lies in s
pub inside_block : (b size from : ℕ) (xs : List Axis) (a : Axis) (q : ℕ) → Inside b size from (xs ++ (a ∷ [])) → q < a.length
    → Inside b size (from + reach a q) xs
inside_block b size from xs a q h g =
    record {
      some = some_left (count_of xs) a.length (rw (count_snoc xs a) at h.some);
      each = λ r l.
          let k : ℕ = count_of xs * q + r in
          let digits = digits_lt {q = q} {m = a.length} {r = r} {c = count_of xs} g l in
          let below : k < count_of (xs ++ (a ∷ [])) =
          rw (count_snoc xs a) (omega (arith, digits, mul_comm q (count_of xs), mul_comm a.length (count_of xs))) in
          omega (arith, h.each k below, place_snoc xs a q r l g);
    }

pub inside_from : (b size from : ℕ) (xs : List Axis) → Inside b size from xs → from ≤ size
inside_from b size from xs h = omega (arith, h.each 0 h.some)

-- the first k + 1 of some axes
pub axis_more : (xs : List Axis) (k : ℕ) (d : Axis) → k < length xs → take (k + 1) xs ≡ take k xs ++ (get_or xs k d ∷ [])
axis_more xs k d h = rw add-one (take-suc xs k d h)

-- ---- no axis: one voxel

pub gathered_none : (b : ℕ) (s : List ℕ) (from : ℕ) → gathered b s from [] ≡ take b (drop from s)
unfolding gathered series place_in count_of
gathered_none b s from = rw add-zero

pub length_none : (b : ℕ) (s : List ℕ) (from : ℕ) → from + b ≤ length s → length (gathered b s from []) ≡ b
length_none b s from h = rw (gathered_none b s from) (simp (length-take, length-drop) (omega arith))

inside_none : (b size from : ℕ) → Inside b size from [] → from + b ≤ size
unfolding place_in count_of
inside_none b size from h = omega (arith, h.each 0 (omega arith))

-- b bytes of s, by way of t
pub by_way_of : (s z t l l' : List ℕ) (from to b k m : ℕ) → from + b ≤ length s → k ≡ b → m ≡ b
    → t ≡ put z 0 (take k (drop from s)) → l' ≡ put l to (take m t) → l' ≡ put l to (take b (drop from s))
by_way_of s z t l l' from to b k m h ek em et el =
    let e : List ℕ = take b (drop from s) in
    let len : length e ≡ b = simp (length-take, length-drop) (omega arith) in
    let back : take b (put z 0 e) ≡ e = rw len at (take-drop-put z 0 e (omega arith)) in
    rw (el, et, ek, em, back)

-- m bytes more of a run of which `done` stand
pub run_next : (s l out out' : List ℕ) (at from done m : ℕ) → from + (done + m) ≤ length s → at + (done + m) ≤ length l
    → out ≡ put l at (take done (drop from s)) → out' ≡ put out (at + done) (take m (drop (from + done) s))
    → out' ≡ put l at (take (done + m) (drop from s))
run_next s l out out' at from done m hs hl eo e =
    let len : length (take done (drop from s)) ≡ done = simp (length-take, length-drop) (omega arith) in
    rw (e, take-add done m (drop from s), drop-drop done from s)
    (put_right l at (take done (drop from s)) (take m (drop (from + done) s)) out (at + done) eo (omega arith) (omega arith))

-- ---- one axis

-- its number j lies in s
pub inside_line : (b size from : ℕ) (a : Axis) (j : ℕ) → Inside b size from (a ∷ []) → j < a.length → from + reach a j + b ≤ size
inside_line b size from a j h g = inside_none b size (from + reach a j) (inside_block b size from [] a j h g)

pub inside_some : (b size from : ℕ) (a : Axis) → Inside b size from (a ∷ []) → 0 < a.length
unfolding count_of
inside_some b size from a h = rw mul-one at h.some

-- from a number to the next
pub reach_next : (a : Axis) (j : ℕ) → j + 1 < a.length → (a.down ≤ reach a j) × (reach a j - a.down + a.up ≡ reach a (j + 1))
reach_next a j h =
    let r : ℕ = a.length - 1 - (j + 1) in
    let e : a.length - 1 - j ≡ suc r = omega arith in
    rw (e, add-one j) (omega (arith, mul-suc a.down r), omega (arith, mul-suc a.down r, mul-suc a.up j))

pub length-row : (b : ℕ) (s : List ℕ) (from : ℕ) (a : Axis) → Inside b (length s) from (a ∷ [])
    → length (gathered b s from (a ∷ [])) ≡ a.length * b
length-row b s from a h =
    let each : (q : ℕ) → q < a.length → length (gathered b s (from + reach a q) []) ≡ b =
    λ q g. length_none b s (from + reach a q) (inside_line b (length s) from a q h g) in
    rw (gathered_snoc b s from [] a, series-length (λ q. gathered b s (from + reach a q) []) b a.length each) (mul_comm b a.length)

-- where its voxels lie side by side
module _ (b from : ℕ) (a : Axis) (eu : a.up ≡ b) (ed : a.down ≡ 0) where
  reach_side : (j : ℕ) → reach a j ≡ b * j
  reach_side j = rw (eu, ed, zero-mul, add-zero)

  pub gathered_side : (s : List ℕ) → gathered b s from (a ∷ []) ≡ take (a.length * b) (drop from s)
  gathered_side s =
      gathered_snoc b s from [] a
      ∙ series_same (λ q. gathered b s (from + reach a q) []) (λ q. take b (drop (from + b * q) s)) a.length
      (λ q h. rw (gathered_none b s (from + reach a q), reach_side q))
      ∙ series_side b s from a.length
      ∙ rw (mul_comm b a.length)

  pub inside_side : (size : ℕ) → Inside b size from (a ∷ []) → from + a.length * b ≤ size
  inside_side size h =
      let some = inside_some b size from a h in
      let m : ℕ = a.length - 1 in
      let last = inside_line b size from a m h (omega arith) in
      let n : a.length ≡ suc m = omega arith in
      omega (arith, reach_side m, ap (λ (i : ℕ). i * b) n, suc-mul m b, mul_comm b m)

-- voxels that lie in s each by itself
pub inside_one : (b size from : ℕ) (a : Axis) → 0 < a.length → ((j : ℕ) → j < a.length → from + reach a j + b ≤ size)
    → Inside b size from (a ∷ [])
unfolding count_of place_in
inside_one b size from a some h =
    record {
      some = rw mul-one some;
      each = λ k l.
          let m : k < a.length = rw mul-one at l in
          rw (mod-eq_of_lt m, add-zero) (h k m);
    }

-- ---- two axes

module _ (b size from : ℕ) (x y : Axis) where
  pub inside_two : 0 < x.length → 0 < y.length
      → ((i j : ℕ) → i < x.length → j < y.length → from + reach y j + reach x i + b ≤ size) → Inside b size from (x ∷ (y ∷ []))
  unfolding count_of place_in
  inside_two sx sy h =
      record {
        some = rw mul-one (mul-pos sx sy);
        each = λ k l.
            let row : k / x.length < y.length = (digit_off x.length y.length k (rw mul-one at l)).1 in
            rw (mod-eq_of_lt row) (omega (arith, h (k % x.length) (k / x.length) (mod-lt k sx) row));
      }

  module _ (h : Inside b size from (x ∷ (y ∷ []))) where
    pub inside_some_two : (0 < x.length) × (0 < y.length)
    unfolding count_of
    inside_some_two =
        let p : 0 < x.length * y.length = rw mul-one at h.some in
        (some_left x.length y.length p, some_left y.length x.length (rw mul_comm at p))

    pub inside_row : (j : ℕ) → j < y.length → Inside b size (from + reach y j) (x ∷ [])
    inside_row j g = inside_block b size from (x ∷ []) y j h g

    pub inside_pair : (i j : ℕ) → i < x.length → j < y.length → from + reach y j + reach x i + b ≤ size
    inside_pair i j f g = inside_line b size (from + reach y j) x i (inside_row j g) f

-- Laws of voxels that lie side by side: the run that they are, the lines into which it is cut, and parts of what was copied.
use mathlib.Core.Path.{◌≡◌, sym, ap, ◌∙◌}
use mathlib.Core.List.{List, [], ◌∷◌, ◌++◌}
use Prim.Native.Nat.{ℕ, suc, ◌+◌, ◌-◌, ◌*◌, ◌/◌, ◌≤◌, ◌<◌, min}
use native.Mathlib.Nat.{add-zero, zero-add, mul_comm, mul-suc, mul-add, zero-mul, sub-zero}
use native.Mathlib.Nat.{mul-le-mul_left, mul-le-mul_right, div-mul-le_self, le-div_iff_mul-le}
use native.Mathlib.Omega.{arith}
use lib.ListN.{length, take, drop, length-take, length-drop}
use lib.Seq.{take-take, drop-drop, take-append-le, drop-append-le}
use Rattle.number.proofs.Lists.{drop-take}
use Rattle.buffer.specs.Put.{put}
use Rattle.buffer.proofs.Laws.{drop-put_at}
use Rattle.gather_row.specs.declared.Axis.{Axis}
use Rattle.gather_row.specs.Gather.{reach, gathered, Inside, Beside, upwards, downwards}
use Rattle.gather_row.proofs.Series.{series_same}
use Rattle.gather_row.proofs.Places.{gathered_snoc, gathered_none, inside_line, inside_some, inside_one}

-- ---- voxels that lie side by side, one way or the other

-- each lies in the run of all
pub reach_below : (b : ℕ) (y : Axis) → Beside b y → (j : ℕ) → j < y.length → reach y j + b ≤ y.length * b
reach_below b y (upwards eu ed) j h =
    rw (eu, ed, zero-mul, add-zero) (omega (arith, mul-suc b j, mul-le-mul_left {m = suc j} {n = y.length} b h, mul_comm b y.length))
reach_below b y (downwards eu ed) j h =
    let r : ℕ = y.length - 1 - j in
    let m : suc r ≤ y.length = omega arith in
    rw (eu, ed, zero-mul, zero-add) (omega (arith, mul-suc b r, mul-le-mul_left {m = suc r} {n = y.length} b m, mul_comm b y.length))

-- with the one at its end the run is whole
last_run : (b : ℕ) (y : Axis) → 0 < y.length → b * (y.length - 1) + b ≡ y.length * b
last_run b y some =
    let m : ℕ = y.length - 1 in
    let e : y.length ≡ suc m = omega arith in
    omega (arith, mul-suc b m, ap (λ (i : ℕ). b * i) e, mul_comm b y.length)

pub record Ending (b : ℕ) (y : Axis) : Type 0 where
  pub q : ℕ
  pub below : q < y.length
  pub end : reach y q + b ≡ y.length * b

pub ending : (b : ℕ) (y : Axis) → 0 < y.length → Beside b y → Ending b y
ending b y some (upwards eu ed) =
    let m : ℕ = y.length - 1 in
    let last = last_run b y some in
    record { q = m; below = omega arith; end = rw (eu, ed, zero-mul, add-zero) last }
ending b y some (downwards eu ed) = record { q = 0; below = some; end = rw (eu, ed, zero-mul, zero-add, sub-zero) (last_run b y some) }

-- ---- parts

-- a part of the first n bytes
pub part_take : (b r n : ℕ) (s : List ℕ) → r + b ≤ n → take b (drop r (take n s)) ≡ take b (drop r s)
part_take b r n s h = rw (drop-take r n s) (take-take b (n - r) (drop r s) (omega arith))

-- what a write at the start leaves there
pub part_start : (l e : List ℕ) (i n : ℕ) → i + n ≤ length e → take n (drop i (put l 0 e)) ≡ take n (drop i e)
part_start l e i n h =
    let whole : put l 0 e ≡ e ++ drop (0 + length e) l = drop-put_at l 0 e (omega arith) in
    rw (whole, drop-append-le i e (drop (0 + length e) l) (omega arith))
    (take-append-le n (drop i e) (drop (0 + length e) l) (simp length-drop (omega arith)))

-- ---- a line

-- voxels of a line that was copied
module _ (b : ℕ) (a : Axis) (t : Beside b a) where
  pub inside_copy : (size : ℕ) → 0 < a.length → a.length * b ≤ size → Inside b size 0 (a ∷ [])
  inside_copy size some fit = inside_one b size 0 a some (λ j h. omega (arith, reach_below b a t j h))

  pub inside_whole : (size from : ℕ) → Inside b size from (a ∷ []) → from + a.length * b ≤ size
  inside_whole size from h =
      let e = ending b a (inside_some b size from a h) t in
      omega (arith, inside_line b size from a e.q h e.below, e.end)

  pub gathered_copy : (s z line : List ℕ) (from n : ℕ) → Inside b (length s) from (a ∷ []) → n ≡ a.length * b
      → line ≡ put z 0 (take n (drop from s)) → gathered b line 0 (a ∷ []) ≡ gathered b s from (a ∷ [])
  gathered_copy s z line from n h en e =
      let fit = inside_whole (length s) from h in
      let len : length (take n (drop from s)) ≡ n = simp (length-take, length-drop) (omega arith) in
      gathered_snoc b line 0 [] a
      ∙ series_same (λ j. gathered b line (0 + reach a j) []) (λ j. gathered b s (from + reach a j) []) a.length
      (λ j hj.
      let r : ℕ = reach a j in
      let below = reach_below b a t j hj in
      gathered_none b line (0 + r)
      ∙ rw (e, zero-add) (part_start z (take n (drop from s)) r b (omega arith))
      ∙ part_take b r n (drop from s) (omega arith)
      ∙ ap (λ (u : List ℕ). take b u) (drop-drop r from s)
      ∙ sym (gathered_none b s (from + r)))
      ∙ sym (gathered_snoc b s from [] a)

-- ---- the lines of an axis

-- m numbers of y from j on
abbrev pub part_of : Axis → ℕ → Axis
part_of y m = record { length = m; up = y.up; down = y.down }

pub reach_part : (y : Axis) (j m i : ℕ) → j + m ≤ y.length → i < m
    → y.up * j + y.down * (y.length - j - m) + reach (part_of y m) i ≡ reach y (j + i)
reach_part y j m i h hi =
    let e : y.length - 1 - (j + i) ≡ y.length - j - m + (m - 1 - i) = omega arith in
    rw (e, mul-add y.up j i, mul-add y.down (y.length - j - m) (m - 1 - i)) (omega arith)

-- a turn of a loop over lines: the sizes
pub cut_sizes : (b n j m : ℕ) → 1 ≤ b → b ≤ 32 → j < n → m ≡ min (n - j) (64 / b) → (1 ≤ m) × (j + m ≤ n) × (m * b ≤ 64)
cut_sizes b n j m some hb hj e =
    let side : 1 ≤ 64 / b = (le-div_iff_mul-le {k = b} {x = 1} {y = 64} some).1 (omega arith) in
    let all = mul-le-mul_right {m = m} {n = 64 / b} b (omega arith) in
    (omega arith, omega arith, omega (arith, div-mul-le_self 64 b))

-- n numbers that lie side by side in reverse
abbrev pub back_of : ℕ → ℕ → Axis
back_of n b = record { length = n; up = 0; down = b }

pub is_back : (a : Axis) (b : ℕ) → a.up ≡ 0 → a.down ≡ b → a ≡ back_of a.length b
is_back a b eu ed = ap (λ (u : ℕ). record { length = a.length; up = u; down = a.down }) eu ∙ ap (λ (d : ℕ). back_of a.length d) ed

-- a turn of `backwards`: m of them from j on make a line
pub record CutBack (b size from n j m : ℕ) : Type 0 where
  pub some : 1 ≤ m
  pub till : j + m ≤ n
  pub line : m * b ≤ 64
  pub place : (i : ℕ) → i < m → from + b * (n - j - m) + reach (back_of m b) i ≡ from + reach (back_of n b) (j + i)
  pub inside : Inside b size (from + b * (n - j - m)) (back_of m b ∷ [])

pub cut_back : (b size from n j m : ℕ) → 1 ≤ b → b ≤ 32 → Inside b size from (back_of n b ∷ []) → j < n → m ≡ min (n - j) (64 / b)
    → CutBack b size from n j m
cut_back b size from n j m hs hb h hj e =
    let sizes = cut_sizes b n j m hs hb hj e in
    let place : (i : ℕ) → i < m → from + b * (n - j - m) + reach (back_of m b) i ≡ from + reach (back_of n b) (j + i) =
    λ i hi. omega (arith, reach_part (back_of n b) j m i sizes.1 hi) in
    record {
      some = sizes.0;
      till = sizes.1;
      line = sizes.2;
      place = place;
      inside = inside_one b size (from + b * (n - j - m)) (back_of m b) sizes.0
          (λ i hi. omega (arith, place i hi, inside_line b size from (back_of n b) (j + i) h (omega arith)));
    }

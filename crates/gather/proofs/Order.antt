-- The rows of three axes leave what is gathered, in whichever order they are laid.
use mathlib.Core.Path.{◌≡◌, sym, ap, ◌∙◌}
use mathlib.Core.List.{List, [], ◌∷◌}
use mathlib.Core.Logic.{⊎_elim}
use Prim.Native.Nat.{ℕ, suc, ◌+◌, ◌-◌, ◌*◌, ◌/◌, ◌%◌, ◌≤◌, ◌<◌}
use native.Mathlib.Nat.{mul-one, mul_comm, mul-suc, mul-le-mul_left, mod-lt, div-add-mod', eq-zero-or-pos}
use native.Mathlib.Omega.{arith}
use lib.ListN.{length, get_or}
use lib.Seq.{ext_get_or}
use Rattle.buffer.specs.Put.{put}
use Rattle.buffer.proofs.Laws.{length-put, get_d_put_before, get_d_put_in, get_d_put_after}
use Rattle.gather_row.specs.declared.Axis.{Axis}
use Rattle.gather_row.specs.Gather.{reach, count_of, gathered, Inside}
use Rattle.gather.specs.Rows.{stacked}
use Rattle.gather_row.proofs.Series.{series-length, series_byte}
use Rattle.grid.proofs.Voxels.{digit_off}
use Rattle.gather_row.proofs.Places.{some_left, gathered_snoc, length-row, inside_block, inside_two, inside_row, inside_pair}
use Rattle.gather.proofs.Laid.{Piece, stacked-length, stacked_keeps, stacked_makes}

-- byte i is w's from the start, or lies in a row
data Known (w l : List ℕ) (at lift pitch : ℕ) (g : ℕ → ℕ → List ℕ) (m n i : ℕ) : Type 0 where
  stands : get_or l i 0 ≡ get_or w i 0 → Known w l at lift pitch g m n i
  comes : (k j c : ℕ) → k < n → j < m → c < length (g k j) → at + lift * k + pitch * j + c ≡ i → Known w l at lift pitch g m n i

stacked_all : (w l : List ℕ) (at lift pitch : ℕ) (g : ℕ → ℕ → List ℕ) (m n : ℕ) → length l ≡ length w
    → ((k j : ℕ) → k < n → j < m → Piece w (at + lift * k + pitch * j) (g k j))
    → ((i : ℕ) → Known w l at lift pitch g m n i) → stacked at lift pitch g m n l ≡ w
stacked_all w l at lift pitch g m n e p h =
    ext_get_or 0 (stacked at lift pitch g m n l) w (stacked-length w at lift pitch g m n l e p) (λ i f. all i (h i))
  where
    all : (i : ℕ) → Known w l at lift pitch g m n i → get_or (stacked at lift pitch g m n l) i 0 ≡ get_or w i 0
    all i (stands r) = stacked_keeps w at lift pitch g m n l e p i r
    all i (comes k j c hk hj hc q) = rw q at (stacked_makes w at lift pitch g m n l e p k j c hk hj hc)

module _ (b : ℕ) (s : List ℕ) (from : ℕ) (x y z : Axis) (h : Inside b (length s) from (x ∷ (y ∷ (z ∷ [])))) where
  abbrev whole : List ℕ
  whole = gathered b s from (x ∷ (y ∷ (z ∷ [])))

  abbrev row : ℕ → ℕ → List ℕ
  row k j = gathered b s (from + reach z k + reach y j) (x ∷ [])

  abbrev pitch : ℕ
  pitch = x.length * b

  abbrev lift : ℕ
  lift = pitch * y.length

  -- the planes of x by y
  pub inside_plane : (k : ℕ) → k < z.length → Inside b (length s) (from + reach z k) (x ∷ (y ∷ []))
  inside_plane k hk = inside_block b (length s) from (x ∷ (y ∷ [])) z k h hk

  row-length : (k j : ℕ) → k < z.length → j < y.length → length (row k j) ≡ pitch
  row-length k j hk hj = length-row b s (from + reach z k + reach y j) x (inside_row b (length s) (from + reach z k) x y (inside_plane k hk) j hj)

  plane_length : (k : ℕ) → k < z.length → length (gathered b s (from + reach z k) (x ∷ (y ∷ []))) ≡ lift
  plane_length k hk = rw (gathered_snoc b s (from + reach z k) (x ∷ []) y) (series-length (row k) pitch y.length (λ j hj. row-length k j hk hj))

  pub whole_length : length whole ≡ lift * z.length
  whole_length =
      rw (gathered_snoc b s from (x ∷ (y ∷ [])) z) (series-length (λ k. gathered b s (from + reach z k) (x ∷ (y ∷ []))) lift z.length plane_length)

  some_three : (0 < x.length) × (0 < y.length) × (0 < z.length)
  unfolding count_of
  some_three =
      let p : 0 < x.length * (y.length * z.length) = rw mul-one at h.some in
      let q : 0 < y.length * z.length = some_left (y.length * z.length) x.length (rw mul_comm at p) in
      (some_left x.length (y.length * z.length) p, some_left y.length z.length q, some_left z.length y.length (rw mul_comm at q))

  -- no size is above that of the whole, and the last row ends with it
  pub sizes : (pitch ≤ lift) × (lift ≤ lift * z.length) × (lift * (z.length - 1) + pitch * (y.length - 1) + pitch ≡ lift * z.length)
  sizes =
      let ey : y.length ≡ suc (y.length - 1) = omega (arith, some_three.1) in
      let ez : z.length ≡ suc (z.length - 1) = omega (arith, some_three.2) in
      let up : pitch * y.length ≡ pitch * (y.length - 1) + pitch = ap (λ (i : ℕ). pitch * i) ey ∙ mul-suc pitch (y.length - 1) in
      let over : lift * z.length ≡ lift * (z.length - 1) + lift = ap (λ (i : ℕ). lift * i) ez ∙ mul-suc lift (z.length - 1) in
      (omega arith, omega arith, omega arith)

  -- the planes of x by z
  pub inside_across : (j : ℕ) → j < y.length → Inside b (length s) (from + reach y j) (x ∷ (z ∷ []))
  inside_across j hj =
      inside_two b (length s) (from + reach y j) x z some_three.0 some_three.2
      (λ i k hi hk. omega (arith, inside_pair b (length s) (from + reach z k) x y (inside_plane k hk) i j hi hj))

  below_lift : (j c : ℕ) → j < y.length → c < pitch → pitch * j + c < lift
  below_lift j c hj hc = omega (arith, mul-suc pitch j, mul-le-mul_left {m = suc j} {n = y.length} pitch hj)

  whole_byte : (k j c : ℕ) → k < z.length → j < y.length → c < pitch → get_or whole (lift * k + (pitch * j + c)) 0 ≡ get_or (row k j) c 0
  whole_byte k j c hk hj hc =
      rw (gathered_snoc b s from (x ∷ (y ∷ [])) z)
      (series_byte (λ k. gathered b s (from + reach z k) (x ∷ (y ∷ []))) lift z.length k (pitch * j + c) plane_length hk (below_lift j c hj hc)
      ∙ rw (gathered_snoc b s (from + reach z k) (x ∷ []) y) (series_byte (row k) pitch y.length j c (λ j hj. row-length k j hk hj) hj hc))

  module _ (l : List ℕ) (at : ℕ) (room : at + length whole ≤ length l) where
    want_length : length l ≡ length (put l at whole)
    want_length = sym (length-put l at whole room)

    want_piece : (k j : ℕ) → k < z.length → j < y.length → Piece (put l at whole) (at + lift * k + pitch * j) (row k j)
    want_piece k j hk hj =
        let len = row-length k j hk hj in
        let up = mul-le-mul_left {m = suc j} {n = y.length} pitch hj in
        let over = mul-le-mul_left {m = suc k} {n = z.length} lift hk in
        record {
          inside = omega (arith, want_length, whole_length, mul-suc pitch j, mul-suc lift k);
          own = λ c hc.
              let low = below_lift j c hj (omega arith) in
              let place : at + lift * k + pitch * j + c ≡ at + (lift * k + (pitch * j + c)) = omega arith in
              rw place
              (get_d_put_in l at whole (lift * k + (pitch * j + c)) (omega (arith, whole_length, mul-suc lift k)) (omega arith)
              ∙ whole_byte k j c hk hj (omega arith));
        }

    -- each byte between is that of a row
    want_known : (i : ℕ) → Known (put l at whole) l at lift pitch row y.length z.length i
    want_known i =
        ⊎_elim
        (λ e.
        ⊎_elim
        (λ f. stands (sym (get_d_put_after l at whole i (omega arith) (omega arith))))
        (λ f.
        let t : ℕ = i - at in
        let k : ℕ = t / lift in
        let r : ℕ = t % lift in
        let j : ℕ = r / pitch in
        let c : ℕ = r % pitch in
        let dk = digit_off lift z.length t (omega (arith, whole_length)) in
        let dj = digit_off pitch y.length r (mod-lt t dk.0) in
        let len = row-length k j dk.1 dj.1 in
        let below = mod-lt r dj.0 in
        comes k j c dk.1 dj.1 (omega arith)
        (omega (arith, div-add-mod' t lift, div-add-mod' r pitch, mul_comm k lift, mul_comm j pitch)))
        (eq-zero-or-pos (at + length whole - i)))
        (λ e. stands (sym (get_d_put_before l at whole i (omega arith) (omega arith))))
        (eq-zero-or-pos (at - i))

    -- plane after plane
    pub in_order_lem : stacked at lift pitch row y.length z.length l ≡ put l at whole
    in_order_lem = stacked_all (put l at whole) l at lift pitch row y.length z.length want_length want_piece want_known

    -- all the rows of a number of y before those of the next
    pub across : stacked at pitch lift (λ j k. gathered b s (from + reach y j + reach z k) (x ∷ [])) z.length y.length l ≡ put l at whole
    across =
        stacked_all (put l at whole) l at pitch lift other z.length y.length want_length
        (λ j k hj hk.
        let e : at + pitch * j + lift * k ≡ at + lift * k + pitch * j = omega arith in
        rw (e, same j k) (want_piece k j hk hj))
        (λ i. turned i (want_known i))
      where
        other : ℕ → ℕ → List ℕ
        other j k = gathered b s (from + reach y j + reach z k) (x ∷ [])

        same : (j k : ℕ) → other j k ≡ row k j
        same j k = let e : from + reach y j + reach z k ≡ from + reach z k + reach y j = omega arith in rw e

        turned : (i : ℕ) → Known (put l at whole) l at lift pitch row y.length z.length i
            → Known (put l at whole) l at pitch lift other z.length y.length i
        turned i (stands r) = stands r
        turned i (comes k j c hk hj hc q) = comes j k c hj hk (rw (same j k) hc) (omega arith)

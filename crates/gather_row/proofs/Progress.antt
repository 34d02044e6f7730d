-- The invariant of a loop that writes the parts of a series one behind another.
use mathlib.Core.Path.{◌≡◌, refl, sym, ap, ◌∙◌}
use mathlib.Core.List.{List, ◌++◌}
use Prim.Native.Nat.{ℕ, ◌+◌, ◌-◌, ◌≤◌, ◌<◌}
use native.Mathlib.Nat.{add-zero}
use native.Mathlib.Omega.{arith}
use lib.ListN.{length, length-append}
use Rattle.buffer.specs.Put.{put}
use Rattle.buffer.proofs.Laws.{put_right, put_nil, length-put}
use Rattle.gather_row.specs.Series.{series}
use Rattle.gather_row.proofs.Series.{series_add}

-- of the n parts of g, j stand in `out`, which was l, from `at` to `to`
pub record Progress (l : List ℕ) (at : ℕ) (g : ℕ → List ℕ) (n : ℕ) (out : List ℕ) (to j : ℕ) : Type 0 where
  pub written : out ≡ put l at (series g j)
  pub behind : to ≡ at + length (series g j)
  pub turn : j ≤ n
  pub room : at + length (series g n) ≤ length l
  pub kept : length out ≡ length l

module _ (l : List ℕ) (at : ℕ) (g : ℕ → List ℕ) (n : ℕ) where
  pub progress_start : at + length (series g n) ≤ length l → Progress l at g n l at 0
  unfolding series
  progress_start h = record { written = sym (put_nil l at); behind = omega arith; turn = omega arith; room = h; kept = refl }

  module _ (out : List ℕ) (to j : ℕ) (v : Progress l at g n out to j) where
    -- there is room for m parts more
    pub progress_room_for : (m : ℕ) → j + m ≤ n → (e : List ℕ) → e ≡ series (λ i. g (j + i)) m → to + length e ≤ length out
    progress_room_for m h e ee =
        let r : ℕ = n - (j + m) in
        let q : n ≡ j + m + r = omega arith in
        let all : series g n ≡ (series g j ++ e) ++ series (λ i. g (j + m + i)) r =
        ap (λ (i : ℕ). series g i) q ∙ rw (series_add g (j + m) r, series_add g j m, ee) in
        let len : length (series g n) ≡ length (series g j) + length e + length (series (λ i. g (j + m + i)) r) =
        rw all (simp length-append) in
        omega (arith, v.behind, v.room, v.kept)

    -- m parts written too, right behind
    pub progress_more : (m : ℕ) → j + m ≤ n → (out' e : List ℕ) (to' : ℕ) → out' ≡ put out to e → e ≡ series (λ i. g (j + i)) m
        → to' ≡ to + length e → Progress l at g n out' to' (j + m)
    progress_more m h out' e to' eo ee et =
        let sum : series g (j + m) ≡ series g j ++ e = rw ee (series_add g j m) in
        let len : length (series g (j + m)) ≡ length (series g j) + length e = rw sum (length-append (series g j) e) in
        record {
          written = rw (sum, eo) (put_right l at (series g j) e out to v.written v.behind (omega (arith, v.room)));
          behind = omega (arith, v.behind);
          turn = h;
          room = v.room;
          kept = rw eo (length-put out to e (progress_room_for m h e ee)) ∙ v.kept;
        }

    -- the same for part j alone
    one_more : g j ≡ series (λ i. g (j + i)) 1
    unfolding series
    one_more = rw add-zero

    pub progress_room : j < n → to + length (g j) ≤ length out
    progress_room h = progress_room_for 1 (omega arith) (g j) one_more

    pub progress_next : j < n → (out' e : List ℕ) (to' : ℕ) → out' ≡ put out to e → e ≡ g j → to' ≡ to + length (g j)
        → Progress l at g n out' to' (j + 1)
    progress_next h out' e to' eo ee et =
        progress_more 1 (omega arith) out' e to' eo (ee ∙ one_more) (et ∙ ap (λ (x : List ℕ). to + length x) (sym ee))

    pub progress_done : n ≤ j → (out ≡ put l at (series g n)) × (to ≡ at + length (series g n))
    progress_done h =
        let e : j ≡ n = omega (arith, v.turn) in
        (rw e at v.written, rw e at v.behind)

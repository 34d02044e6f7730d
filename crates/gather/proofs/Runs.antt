-- Laws of the tiles of src/lib.rt: a run of the source for each number of x, one after another, from which the rows are taken.
use mathlib.Core.Path.{◌≡◌, sym, ap, ◌∙◌}
use mathlib.Core.List.{List, [], ◌∷◌}
use Prim.Native.Nat.{ℕ, suc, ◌+◌, ◌-◌, ◌*◌, ◌/◌, ◌≤◌, ◌<◌, min}
use native.Mathlib.Nat.{add-zero, mul_comm, mul-suc, zero-mul, mul-le-mul_left}
use native.Mathlib.Omega.{arith}
use lib.ListN.{length, take, drop}
use lib.Seq.{drop-drop}
use Rattle.buffer.specs.Put.{put}
use Rattle.gather_row.specs.declared.Axis.{Axis}
use Rattle.gather_row.specs.Gather.{reach, gathered, Inside, Beside, upwards, downwards}
use Rattle.gather_row.proofs.Series.{series_same, series_part}
use Rattle.gather_row.proofs.Places.{gathered_snoc, gathered_none, length_none, length-row}
use Rattle.gather_row.proofs.Places.{inside_line, inside_one, inside_two, inside_some_two, inside_pair}
use Rattle.gather_row.proofs.Lines.{reach_below, ending, part_take, part_start, part_of, reach_part, cut_sizes}
use Rattle.gather.specs.Rows.{Tiled}

-- ---- a tile

-- the column of the tile that is a row: a run from each number of x to the next
abbrev pub column : ℕ → Axis → Axis → Axis
column b x y = record { length = x.length; up = y.length * b; down = 0 }

module _ (b : ℕ) (x y : Axis) (t : Tiled b x y) (from : ℕ) where
  module _ (size : ℕ) (h : Inside b size from (x ∷ (y ∷ []))) where
    -- each run lies in the source
    pub inside_run : Inside (y.length * b) size from (x ∷ [])
    inside_run =
        let some = inside_some_two b size from x y h in
        let e = ending b y some.1 t.beside in
        inside_one (y.length * b) size from x some.0 (λ i l. omega (arith, inside_pair b size from x y h i e.q l e.below, e.end))

    -- and each voxel of the tile in the tile
    pub inside_tile : (room : ℕ) → x.length * (y.length * b) ≤ room → Inside b room 0 (column b x y ∷ (y ∷ []))
    inside_tile room fit =
        let some = inside_some_two b size from x y h in
        let run : ℕ = y.length * b in
        inside_two b room 0 (column b x y) y some.0 some.1
        (λ i j hi hj.
        let below = reach_below b y t.beside j hj in
        rw (zero-mul, add-zero)
        (omega (arith, mul-suc run i, mul-le-mul_left {m = suc i} {n = x.length} run hi, mul_comm run x.length)))

  -- a row from the tile is the row from the source
  pub row_by_tile : (s block l : List ℕ) → Inside b (length s) from (x ∷ (y ∷ [])) → block ≡ put l 0 (gathered (y.length * b) s from (x ∷ []))
      → (j : ℕ) → j < y.length → gathered b block (0 + reach y j) (column b x y ∷ []) ≡ gathered b s (from + reach y j) (x ∷ [])
  row_by_tile s block l h e j hj =
      let run : ℕ = y.length * b in
      let r : ℕ = reach y j in
      let tile : List ℕ = gathered run s from (x ∷ []) in
      let below = reach_below b y t.beside j hj in
      let ins = inside_run (length s) h in
      let len : length tile ≡ x.length * run = length-row run s from x ins in
      let len' : (i : ℕ) → i < x.length → length (gathered run s (from + reach x i) []) ≡ run =
      λ i hi. length_none run s (from + reach x i) (inside_line run (length s) from x i ins hi) in
      gathered_snoc b block (0 + r) [] (column b x y)
      ∙ series_same (λ i. gathered b block (0 + r + reach (column b x y) i) []) (λ i. gathered b s (from + r + reach x i) []) x.length
      (λ i hi.
      let more = mul-le-mul_left {m = suc i} {n = x.length} run hi in
      let fit : run * i + run ≤ length tile = omega (arith, mul-suc run i, mul_comm run x.length) in
      let place : 0 + r + reach (column b x y) i ≡ run * i + r = rw (zero-mul, add-zero) (omega arith) in
      let back : from + reach x i + r ≡ from + r + reach x i = omega arith in
      let part : take run (drop (run * i) tile) ≡ take run (drop (from + reach x i) s) =
      ap (λ (u : List ℕ). take run (drop (run * i) u)) (gathered_snoc run s from [] x)
      ∙ series_part (λ q. gathered run s (from + reach x q) []) run x.length i len' hi
      ∙ gathered_none run s (from + reach x i) in
      gathered_none b block (0 + r + reach (column b x y) i)
      ∙ ap (λ (u : ℕ). take b (drop u block)) place
      ∙ ap (λ (u : List ℕ). take b u) (sym (drop-drop r (run * i) block))
      ∙ sym (part_take b r run (drop (run * i) block) below)
      ∙ ap (λ (u : List ℕ). take b (drop r u)) (rw e (part_start l tile (run * i) run fit) ∙ part)
      ∙ part_take b r run (drop (from + reach x i) s) below
      ∙ ap (λ (u : List ℕ). take b u) (drop-drop r (from + reach x i) s)
      ∙ ap (λ (u : ℕ). take b (drop u s)) back
      ∙ sym (gathered_none b s (from + r + reach x i)))
      ∙ sym (gathered_snoc b s (from + r) [] x)

-- ---- the tiles of an axis

pub part_tiled : (b : ℕ) (x y : Axis) (m : ℕ) → Tiled b x y → Tiled b x (part_of y m)
part_tiled b x y m t =
    record { some = t.some; narrow = t.narrow; beside = part_beside t.beside }
  where
    part_beside : Beside b y → Beside b (part_of y m)
    part_beside (upwards eu ed) = upwards eu ed
    part_beside (downwards eu ed) = downwards eu ed

-- a turn of `tiles`: of the numbers of y, m from j on make a tile
pub record Cut (b size from : ℕ) (x y : Axis) (j m : ℕ) : Type 0 where
  pub some : 1 ≤ m
  pub till : j + m ≤ y.length
  pub line : m * b ≤ 64
  pub tiled : Tiled b x (part_of y m)
  pub inside : Inside b size (from + (y.up * j + y.down * (y.length - j - m))) (x ∷ (part_of y m ∷ []))

pub cut : (b size from : ℕ) (x y : Axis) (j m : ℕ) → Tiled b x y → b ≤ 32 → Inside b size from (x ∷ (y ∷ [])) → j < y.length
    → m ≡ min (y.length - j) (64 / b) → Cut b size from x y j m
cut b size from x y j m t hb h hj e =
    let sizes = cut_sizes b y.length j m t.some hb hj e in
    let some = inside_some_two b size from x y h in
    record {
      some = sizes.0;
      till = sizes.1;
      line = sizes.2;
      tiled = part_tiled b x y m t;
      inside = inside_two b size (from + (y.up * j + y.down * (y.length - j - m))) x (part_of y m) some.0 sizes.0
          (λ i k hi hk. omega (arith, reach_part y j m k sizes.1 hk, inside_pair b size from x y h i (j + k) hi (omega arith)));
    }

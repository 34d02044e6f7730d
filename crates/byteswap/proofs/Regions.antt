-- The extensions of a swapped file: their sizes and codes read in the other byte order as they did, so the walk over them lists the
-- same spans (`walk_turned`).
use Prim.Native.Nat.{ℕ, suc, ◌+◌, ◌-◌, ◌≤◌, ◌<◌}
use mathlib.Core.Path.{◌≡◌, refl, sym, ap, ◌∙◌}
use mathlib.Core.List.{List, [], ◌∷◌, ◌++◌}
use native.Mathlib.Omega.{arith}
use lib.IntN.{pos, nat_abs}
use lib.ListN.{length, get_or}
use lib.Seq.{take_at, drop_at}
use mir.Syntax.{w32}
use mir.Val.{to_z}
use Rattle.field.specs.declared.Order.{Order}
use Rattle.field.specs.Numbers.{other, i32_at, u32s_at, joined}
use Rattle.extension.specs.declared.Span.{Span}
use Rattle.extension.specs.Walk.{extension_limit, span_at, walk, listed}
use Rattle.extension.specs.Pieces.{pieces, Complete, AllComplete, none, one, spans_from}
use Rattle.extension.proofs.Pieces.{walk_join, length-spans_from}
use Rattle.units.specs.Runs.{Run, run, turn_runs}
use Rattle.units.proofs.Runs.{span_of, length-turn_runs, runs_append}
use Rattle.turning.specs.Turn.{extension_runs}
use Rattle.byteswap.proofs.Places.{u32s_same}

-- ---- One extension

-- an extension with its size and code turned round
abbrev piece_runs : List ℕ → List Run
piece_runs x = run 4 2 ∷ run 1 (length x - 8) ∷ []

abbrev turned_piece : List ℕ → List ℕ
turned_piece x = turn_runs (piece_runs x) x

module _ (o : Order) (x : List ℕ) (w : Complete o x) where
  piece_span : span_of (piece_runs x) ≡ length x
  unfolding span_of
  piece_span = omega (arith, w.least)

  room : span_of (piece_runs x) ≤ length x
  room = omega (arith, piece_span)

  both_same : u32s_at (other o) (turned_piece x) 0 2 ≡ u32s_at o x 0 2
  both_same = u32s_same (piece_runs x) x room o 0 2 refl

  size_same : i32_at (other o) (turned_piece x) 0 ≡ i32_at o x 0
  size_same = ap (λ (l : List ℕ). to_z w32 (get_or l 0 0)) both_same

  code_same : i32_at (other o) (turned_piece x) 4 ≡ i32_at o x 4
  code_same = ap (λ (l : List ℕ). to_z w32 (get_or l 1 0)) both_same

  length_same : length (turned_piece x) ≡ length x
  length_same = length-turn_runs (piece_runs x) x

  complete_same : Complete (other o) (turned_piece x)
  complete_same =
      record {
        size = size_same ∙ w.size ∙ ap pos (sym length_same);
        least = rw length_same w.least;
        units = rw length_same w.units;
        code = rw code_same w.code;
      }

  span_same : (at : ℕ) → span_at (other o) at (turned_piece x) ≡ span_at o at x
  span_same at = λ i. record { start = at; size = size_same i; code = code_same i }

  -- the runs of its span turn it so, and leave what follows
  piece_turned : (at : ℕ) (rs : List Run) (l : List ℕ)
      → turn_runs (run 4 2 ∷ run 1 (nat_abs (span_at o at x).size - 8) ∷ rs) (x ++ l) ≡ turned_piece x ++ turn_runs rs l
  piece_turned at rs l =
      let n : nat_abs (i32_at o x 0) ≡ length x = ap nat_abs w.size in
      rw (
        n,
        runs_append (piece_runs x) rs (x ++ l),
        take_at x l (span_of (piece_runs x)) (sym piece_span),
        drop_at x l (span_of (piece_runs x)) (sym piece_span),
      )

-- ---- All of them

abbrev turned_pieces : List (List ℕ) → List (List ℕ)
turned_pieces [] = []
turned_pieces (x ∷ xs) = turned_piece x ∷ turned_pieces xs

length-pieces : (xs : List (List ℕ)) → length (turned_pieces xs) ≡ length xs
length-pieces [] = refl
length-pieces (x ∷ xs) = ap suc (length-pieces xs)

runs_none : turn_runs [] [] ≡ []
unfolding turn_runs
runs_none = refl

module _ (o : Order) where
  all_same : {xs : List (List ℕ)} → AllComplete o xs → AllComplete (other o) (turned_pieces xs)
  all_same none = none
  all_same (one {x} w ws) = one (complete_same o x w) (all_same ws)

  spans_same : (at : ℕ) {xs : List (List ℕ)} → AllComplete o xs → spans_from (other o) at (turned_pieces xs) ≡ spans_from o at xs
  unfolding spans_from
  spans_same at none = refl
  spans_same at (one {x} {xs} w ws) =
      let later = ap (λ (n : ℕ). spans_from (other o) (at + n) (turned_pieces xs)) (length_same o x w) in
      λ i. span_same o x w at i ∷ (later ∙ spans_same (at + length x) ws) i

  joined_turned : (at : ℕ) {xs : List (List ℕ)} → AllComplete o xs
      → turn_runs (extension_runs (spans_from o at xs)) (joined xs) ≡ joined (turned_pieces xs)
  unfolding spans_from
  joined_turned at none = runs_none
  joined_turned at (one {x} {xs} w ws) =
      piece_turned o x w at (extension_runs (spans_from o (at + length x) xs)) (joined xs)
      ∙ ap (λ (l : List ℕ). turned_piece x ++ l) (joined_turned (at + length x) ws)

  -- a region that is complete extensions, as the walk of a file lists them
  pub walk_turned : (at : ℕ) (rest : List ℕ) (xs : List Span) → AllComplete o (pieces xs rest) → spans_from o at (pieces xs rest) ≡ xs
      → joined (pieces xs rest) ≡ rest → 0 < length xs → length xs ≤ extension_limit
      → walk (other o) extension_limit at (turn_runs (extension_runs xs) rest) ≡ listed xs
  walk_turned at rest xs complete spans region some few =
      let ps = pieces xs rest in
      let n : length ps ≡ length xs = sym (length-spans_from o at ps) ∙ ap length spans in
      let m = length-pieces ps in
      let turned : turn_runs (extension_runs xs) rest ≡ joined (turned_pieces ps) =
      (λ i. turn_runs (extension_runs (sym spans i)) (sym region i)) ∙ joined_turned at complete in
      rw turned
      (walk_join (other o) extension_limit at (all_same complete) (omega arith) (omega arith) (λ e. omega arith)
      ∙ ap listed (spans_same at complete ∙ spans))

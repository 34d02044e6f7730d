-- The loop that turns round the size and code of each extension: what is left to do at each turn. And what a caller needs: the
-- extensions of an accepted file stand there as the loop asks, and their runs are those of its list (`listed_holds`).
use mathlib.Core.Path.{◌≡◌, refl, sym, ap, ◌∙◌}
use mathlib.Core.Bool.{Bool, true, false, cond}
use mathlib.Core.List.{List, [], ◌++◌, append_assoc}
use Prim.Native.Nat.{ℕ, suc, ◌+◌, ◌-◌, ◌*◌, ◌≤◌, ◌<◌}
use native.Mathlib.Omega.{arith}
use native.Mathlib.Nat.{zero-add}
use lib.IntN.{nat_abs}
use lib.ListN.{length, take, drop, length-append, length-drop, take-append-drop}
use lib.Seq.{length-take-le, get_or-drop, drop-drop, drop-append_seam}
use Rattle.field.specs.declared.Order.{Order}
use Rattle.field.specs.Numbers.{u32_at, i32_at, joined}
use Rattle.number.proofs.Lists.{drop-take}
use Rattle.extension.specs.declared.Span.{Span}
use Rattle.extension.specs.Walk.{extension_limit, first_place, listed, rest_of, extensions_in}
use Rattle.extension.specs.Fills.{Fills, full, next}
use Rattle.extension.specs.Pieces.{Complete, AllComplete, spans_from}
use Rattle.extension.specs.Pieces as Pieces
use Rattle.extension.proofs.Signs.{to_z_low}
use Rattle.extension.proofs.Regions.{u32_same}
use Rattle.extension.proofs.Pieces.{i32_front, opened}
use Rattle.units.specs.Units.{turned, turned_at}
use Rattle.units.specs.Runs.{run, turn_runs, turn_runs_at}
use Rattle.units.proofs.Units.{drop_past, length-turned, turned_own}
use Rattle.units.proofs.Runs.{span_of}
use Rattle.units.proofs.Chain.{Chain, chain_next, chain_stay}
use Rattle.turning.specs.Turn.{extension_runs, runs_in, Standing, none, one}

-- the runs of extensions span what the extensions fill
pub fills_span : {at end : ℕ} {xs : List Span} → Fills at end xs → at + span_of (extension_runs xs) ≡ end
unfolding span_of
fills_span (full e) = omega arith
fills_span (next s p f) = omega (arith, p.least, fills_span f)

-- ---- The loop

-- `goal` is what the loop comes to in the end; n extensions are still to be turned, from `at` on
pub record Turning (goal : List ℕ) (order : Order) (n at : ℕ) (buf : List ℕ) : Type 0 where
  pub stand : Standing order n (drop at buf)
  pub comes : goal ≡ turn_runs_at at (runs_in order n (drop at buf)) buf

-- the runs of extensions span no more than is there
standing_span : {order : Order} {n : ℕ} {s : List ℕ} → Standing order n s → span_of (runs_in order n s) ≤ length s
unfolding span_of runs_in
standing_span none = omega arith
standing_span {order} (one {n} {s} least room later) = omega (arith, standing_span later, length-drop (u32_at order s 0) s)

-- the number at a place is that of the front of what lies from there on
number_at : (order : Order) (at : ℕ) (s : List ℕ) → u32_at order (drop at s) 0 ≡ u32_at order s at
number_at order at s = u32_same order (drop at s) s 0 at (λ k below. rw zero-add (get_or-drop at s k 0))

-- what follows the units that are turned stays
behind : (w at n m : ℕ) (l : List ℕ) → at + n * w ≤ length l → at + n * w ≤ m → drop m (turned_at w at n l) ≡ drop m l
unfolding turned_at
behind w at n m l h b =
    let d : List ℕ = drop at l in
    let a : List ℕ = turned w n (take (n * w) d) in
    let k : ℕ = m - (at + n * w) in
    let ends : at + n * w + k ≡ m = omega arith in
    let room : at ≤ length l = omega arith in
    let size : length a ≡ n * w = length-turned w n (take (n * w) d) ∙ length-take-le (n * w) d (rw length-drop (omega arith)) in
    rw (← ends, ← drop-drop k (at + n * w) (turned_at w at n l), ← drop-drop k (at + n * w) l)
    (ap (drop k) (rw (turned_own w n d, drop_past at (n * w) l a (drop (n * w) d)) (drop-drop (n * w) at l)))

-- the one at the front, and those after it
starts : {order : Order} {n : ℕ} {s : List ℕ} → Standing order (suc n) s
    → (8 ≤ u32_at order s 0) × (u32_at order s 0 ≤ length s) × Standing order n (drop (u32_at order s 0) s)
starts (one least room later) = (least, room, later)

module _ {goal : List ℕ} {order : Order} {n at : ℕ} {buf : List ℕ} (t : Turning goal order (suc n) at buf) where
  -- the next one lies in the buffer
  pub turn_room : (8 ≤ u32_at order buf at) × (at + u32_at order buf at ≤ length buf)
  turn_room =
      let f = starts t.stand in
      rw (← number_at order at buf) (f.0, omega (arith, f, length-drop at buf))

  turn_chain : Chain goal at (runs_in order (suc n) (drop at buf)) buf
  turn_chain = record { comes = t.comes; room = omega (arith, turn_room, standing_span t.stand, length-drop at buf) }

  -- a turn of the loop
  pub turn_next : (buf' : List ℕ) → buf' ≡ turned_at 4 at 2 buf → Turning goal order n (at + u32_at order buf at) buf'
  unfolding runs_in
  turn_next buf' e =
      let f = starts t.stand in
      let l = length-drop at buf in
      let size : ℕ = u32_at order (drop at buf) 0 in
      let c = chain_stay (at + 2 * 4) (size - 8) _ buf' (chain_next at (run 4 2) _ buf buf' turn_chain e) in
      let ends : at + 2 * 4 + (size - 8) ≡ at + size = omega arith in
      let stays = behind 4 at 2 (at + size) buf (omega arith) (omega arith) in
      let rest : drop (at + size) buf' ≡ drop size (drop at buf) = rw e stays ∙ sym (drop-drop size at buf) in
      rw (← number_at order at buf) record { stand = rw rest f.2; comes = rw rest (rw ends at c.comes) }

-- one more of n is still to be turned, where k of them are
pub turn_left : {goal : List ℕ} {order : Order} {n k at : ℕ} {buf : List ℕ} → k < n → Turning goal order (n - k) at buf
    → Turning goal order (suc (n - (k + 1))) at buf
turn_left {n = n} {k = k} h t = let e : n - k ≡ suc (n - (k + 1)) = omega arith in rw e at t

-- after the last
pub turn_done : {goal : List ℕ} {order : Order} {at : ℕ} {buf : List ℕ} → Turning goal order 0 at buf → buf ≡ goal
unfolding runs_in turn_runs_at turn_runs
turn_done {goal} {order} {at} {buf} t = sym (t.comes ∙ take-append-drop at buf)

-- ---- What a caller needs

-- the extensions of these spans stand at the front of some bytes
pub record Holds (order : Order) (s : List ℕ) (xs : List Span) : Type 0 where
  pub stand : Standing order (length xs) s
  pub runs : runs_in order (length xs) s ≡ extension_runs xs

-- an extension states its length
size_front : {order : Order} {x : List ℕ} (r : List ℕ) → Complete order x → u32_at order (x ++ r) 0 ≡ length x
size_front {order} {x} r w = (to_z_low (u32_at order (x ++ r) 0) (length x) (i32_front order x r 0 (omega arith) ∙ w.size)).0

holds_none : (order : Order) (s : List ℕ) → Holds order s []
unfolding runs_in
holds_none order s = record { stand = none; runs = refl }

-- whole extensions, one after the other, stand there, and their runs are those of their spans
joined_holds : {order : Order} {xs : List (List ℕ)} (at : ℕ) (s : List ℕ) → AllComplete order xs
    → Holds order (joined xs ++ s) (spans_from order at xs)
unfolding spans_from runs_in
joined_holds {order} at s Pieces.none = holds_none order s
joined_holds {order} at s (Pieces.one {x} {xs} w ws) =
    let later = joined_holds (at + length x) s ws in
    let r : List ℕ = joined xs ++ s in
    let size : u32_at order (x ++ r) 0 ≡ length x = size_front r w in
    let same : nat_abs (i32_at order x 0) ≡ length x = ap nat_abs w.size in
    let least : 8 ≤ u32_at order (x ++ r) 0 = omega (arith, w.least) in
    let room : u32_at order (x ++ r) 0 ≤ length (x ++ r) = omega (arith, length-append x r) in
    let rest : drop (u32_at order (x ++ r) 0) (x ++ r) ≡ r = rw size (drop-append_seam x r) in
    rw append_assoc record { stand = one least room (rw (← rest) at later.stand); runs = rw (rest, later.runs, size, same) }

-- the extensions of a file, where its extender says that there are some
pub listed_holds : (order : Order) (end : ℕ) (file : List ℕ) (xs : List Span) (some : Bool)
    → cond some (extensions_in order end file) (listed []) ≡ listed xs → Holds order (drop first_place file) xs
unfolding extensions_in
listed_holds order end file xs true e =
    let rest : List ℕ = drop first_place file in
    let o = opened order extension_limit first_place (rest_of file end first_place) xs e in
    let h = joined_holds first_place (drop (end - first_place) rest) o.complete in
    rw (o.region, o.spans, drop-take, take-append-drop) at h
listed_holds order end file xs false e = let z : xs ≡ [] = cc in rw z (holds_none order (drop first_place file))

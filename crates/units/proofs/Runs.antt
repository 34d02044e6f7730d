-- The laws of lists of runs. Where one list follows another, each turns round its own bytes (`runs_append`); what is read of the result follows from that.
use mathlib.Core.Path.{◌≡◌, refl, sym, ap, ◌∙◌}
use mathlib.Core.List.{List, [], ◌∷◌, ◌++◌, append_assoc, append-nil}
use Prim.Native.Nat.{ℕ, ◌+◌, ◌*◌, ◌-◌, ◌≤◌}
use native.Mathlib.Nat.{add-mul, add_assoc, zero-add, le-add_right, mul-le-mul_right}
use native.Mathlib.Omega.{arith}
use lib.ListN.{length, take, drop, length-append, length-take, length-drop, take-append-drop}
use lib.Seq.{length-take-le, take-take, take_at, drop_at, drop-drop}
use Rattle.units.specs.Units.{turned}
use Rattle.number.proofs.Lists.{drop-take, drop-take_add}
use Rattle.units.specs.Runs.{Run, run, turn_runs, turn_runs_at, header_runs}
use Rattle.units.proofs.Units.{take_past, drop_past, length-turned, turned_twice, turned_within}

-- ---- Runs from the front

-- how many bytes the runs span
unfoldable pub span_of : List Run → ℕ
span_of [] = 0
span_of (r ∷ rs) = r.count * r.width + span_of rs

pub length-turn_runs : (rs : List Run) (l : List ℕ) → length (turn_runs rs l) ≡ length l
unfolding turn_runs
length-turn_runs [] l = refl
length-turn_runs (r ∷ rs) l = simp (length-append, length-turned, length-turn_runs rs (drop (r.count * r.width) l), length-take, length-drop) (omega arith)

pub span-append : (rs qs : List Run) → span_of (rs ++ qs) ≡ span_of rs + span_of qs
unfolding span_of
span-append [] qs = sym (zero-add (span_of qs))
span-append (r ∷ rs) qs = rw (span-append rs qs, add_assoc)

-- the header's runs span the header
pub header_span : span_of header_runs ≡ 348
unfolding span_of
header_span = refl

-- turning round twice gives the list back
pub runs_twice : (rs : List Run) (l : List ℕ) → span_of rs ≤ length l → turn_runs rs (turn_runs rs l) ≡ l
unfolding turn_runs span_of
runs_twice [] l h = refl
runs_twice (r ∷ rs) l h =
    let m : ℕ = r.count * r.width in
    let a : List ℕ = turned r.width r.count (take m l) in
    let b : List ℕ = turn_runs rs (drop m l) in
    let t : length (take m l) ≡ m = length-take-le m l (omega arith) in
    let own : length a ≡ m = length-turned r.width r.count (take m l) ∙ t in
    let h' : span_of rs ≤ length (drop m l) = rw length-drop (omega arith) in
    rw (take_at a b m, drop_at a b m, turned_twice r.width r.count (take m l) (omega arith), runs_twice rs (drop m l) h') (take-append-drop m l)

-- two lists of runs, one after the other
pub runs_append : (rs qs : List Run) (l : List ℕ) → turn_runs (rs ++ qs) l ≡ turn_runs rs (take (span_of rs) l) ++ turn_runs qs (drop (span_of rs) l)
unfolding turn_runs span_of
runs_append [] qs l = refl
runs_append (r ∷ rs) qs l =
    let m : ℕ = r.count * r.width in
    let t : take m (take (m + span_of rs) l) ≡ take m l = take-take m (m + span_of rs) l (le-add_right m (span_of rs)) in
    rw (t, drop-take_add m (span_of rs) l, ← drop-drop (span_of rs) m l, append_assoc)
    (ap (λ (x : List ℕ). turned r.width r.count (take m l) ++ x) (runs_append rs qs (drop m l)))

-- the runs need only their own bytes
pub runs_own : (rs : List Run) (l : List ℕ) → turn_runs rs l ≡ turn_runs rs (take (span_of rs) l) ++ drop (span_of rs) l
unfolding turn_runs
runs_own rs l = rw append-nil at (runs_append rs [] l)

-- how long they are
pub length_own_runs : (rs : List Run) (l : List ℕ) → span_of rs ≤ length l → length (turn_runs rs (take (span_of rs) l)) ≡ span_of rs
length_own_runs rs l h = length-turn_runs rs (take (span_of rs) l) ∙ length-take-le (span_of rs) l h

-- the bytes past the runs stay
pub runs_behind : (rs : List Run) (l : List ℕ) → span_of rs ≤ length l → drop (span_of rs) (turn_runs rs l) ≡ drop (span_of rs) l
runs_behind rs l h =
    let own = turn_runs rs (take (span_of rs) l) in
    ap (drop (span_of rs)) (runs_own rs l) ∙ drop_at own (drop (span_of rs) l) (span_of rs) (length_own_runs rs l h)

-- ---- What is read of the result

-- a run of the list: its bytes in the result are the old ones, turned round
pub runs_part : (before after : List Run) (w n : ℕ) (l : List ℕ) → span_of before + n * w ≤ length l
    → take (n * w) (drop (span_of before) (turn_runs (before ++ (run w n ∷ after)) l)) ≡ turned w n (take (n * w) (drop (span_of before) l))
unfolding turn_runs
runs_part before after w n l h =
    let p : ℕ = span_of before in
    let f : List ℕ = turn_runs before (take p l) in
    let d : List ℕ = drop p l in
    let u : List ℕ = turned w n (take (n * w) d) in
    let r : List ℕ = turn_runs after (drop (n * w) d) in
    let own : length u ≡ n * w = length-turned w n (take (n * w) d) ∙ length-take-le (n * w) d (rw length-drop (omega arith)) in
    rw (runs_append before (run w n ∷ after) l, drop_at f (u ++ r) p (length_own_runs before l (omega arith))) (take_at u r (n * w) own)

-- runs between others: their bytes in the result are the old ones, turned round by these runs alone
pub runs_middle : (before middle after : List Run) (l : List ℕ) → span_of before + span_of middle ≤ length l
    → take (span_of middle) (drop (span_of before) (turn_runs (before ++ (middle ++ after)) l)) ≡ turn_runs middle (take (span_of middle) (drop (span_of before) l))
runs_middle before middle after l h =
    let d : List ℕ = drop (span_of before) l in
    let f : List ℕ = turn_runs before (take (span_of before) l) in
    let m : List ℕ = turn_runs middle (take (span_of middle) d) in
    let r : List ℕ = turn_runs after (drop (span_of middle) d) in
    let room : span_of middle ≤ length d = rw length-drop (omega arith) in
    rw (
      runs_append before (middle ++ after) l,
      drop_at f (turn_runs (middle ++ after) d) (span_of before) (length_own_runs before l (omega arith)),
      runs_append middle after d,
    )
    (take_at m r (span_of middle) (length_own_runs middle d room))

-- a part of a part
take-inside : (a k m : ℕ) (l : List ℕ) → a + k ≤ m → take k (drop a (take m l)) ≡ take k (drop a l)
take-inside a k m l h = rw (drop-take a m l) (take-take k (m - a) (drop a l) (omega arith))

-- a field: m units of a run of n, from unit k of it on
pub runs_field : (before after : List Run) (w n k m : ℕ) (l : List ℕ) → k + m ≤ n → span_of before + n * w ≤ length l
    → take (m * w) (drop (span_of before + k * w) (turn_runs (before ++ (run w n ∷ after)) l)) ≡ turned w m (take (m * w) (drop (span_of before + k * w) l))
runs_field before after w n k m l h g =
    let p : ℕ = span_of before in
    let x : List ℕ = drop p (turn_runs (before ++ (run w n ∷ after)) l) in
    let d : List ℕ = drop p l in
    let i : k * w + m * w ≤ n * w = rw (← add-mul k m w) (mul-le-mul_right w h) in
    let len : length (take (n * w) d) ≡ n * w = length-take-le (n * w) d (rw length-drop (omega arith)) in
    rw (
      ← drop-drop (k * w) p (turn_runs (before ++ (run w n ∷ after)) l),
      ← drop-drop (k * w) p l,
      ← take-inside (k * w) (m * w) (n * w) x,
      runs_part before after w n l g,
    )
    (turned_within w k m n (take (n * w) d) h (omega (arith, add-mul k m w)) ∙ ap (turned w m) (take-inside (k * w) (m * w) (n * w) d i))

-- ---- Runs in place

pub length-turn_runs_at : (at : ℕ) (rs : List Run) (l : List ℕ) → length (turn_runs_at at rs l) ≡ length l
unfolding turn_runs_at
length-turn_runs_at at rs l = simp (length-append, length-turn_runs, length-take, length-drop) (omega arith)

-- a list of runs in place, then the others
pub runs_split : (at : ℕ) (rs qs : List Run) (l : List ℕ) → at + span_of rs ≤ length l
    → turn_runs_at at (rs ++ qs) l ≡ turn_runs_at (at + span_of rs) qs (turn_runs_at at rs l)
unfolding turn_runs_at
runs_split at rs qs l h =
    let s : ℕ = span_of rs in
    let d : List ℕ = drop at l in
    let a : List ℕ = turn_runs rs (take s d) in
    let room : at ≤ length l = omega arith in
    let size : length a ≡ s = length_own_runs rs d (rw length-drop (omega arith)) in
    rw (runs_append rs qs d)
    (sym (rw (runs_own rs d, take_past at s l a (drop s d), drop_past at s l a (drop s d)) (append_assoc (take at l) a (turn_runs qs (drop s d)))))

-- Which unit stands at a place of a list of runs, as a computed test, and that it is turned round: each field of a header is an
-- instance.
use Prim.Native.Nat.{ℕ, ◌+◌, ◌-◌, ◌*◌, ◌/◌, ◌≤◌, ◌<◌}
use mathlib.Core.Path.{◌≡◌, refl, ap, ◌∙◌}
use mathlib.Core.Bool.{Bool, true, false, cond, ◌&&◌, and-eq-true_iff, false≢true}
use mathlib.Core.List.{List, [], ◌∷◌, ◌++◌, reverse}
use native.Mathlib.Omega.{arith}
use native.Mathlib.Nat.{add-mul, zero-add, one-mul, mul-le-mul_right}
use borrow.Author.Tests.{leb-true, eqb-true}
use lib.Dec.{leb, eqb}
use lib.ListN.{length, take, drop, length-drop}
use lib.Seq.{length-take-le, drop_at, drop-drop}
use Rattle.units.specs.Units.{turned}
use Rattle.units.specs.Runs.{Run, run, turn_runs}
use Rattle.units.proofs.Units.{length-turned, turned_one}
use Rattle.units.proofs.Runs.{span_of, runs_field}

-- n units of w bytes stand from place p on, all in one run
abbrev pub units_at : ℕ → ℕ → ℕ → List Run → Bool
units_at w n p [] = false
units_at w n p (r ∷ rs) =
    cond (leb (r.count * r.width) p)
    (units_at w n (p - r.count * r.width) rs)
    (eqb r.width w && (eqb (p / w * w) p && leb (p / w + n) r.count))

-- unit i of them lies in the runs, and is turned round
pub record Turns (w at : ℕ) (rs : List Run) (l : List ℕ) : Type 0 where
  pub inside : at + w ≤ span_of rs
  pub unit : take w (drop at (turn_runs rs l)) ≡ reverse (take w (drop at l))

-- in the first run
first_turns : (w n p i : ℕ) (r : Run) (rs : List Run) (l : List ℕ) → r.width ≡ w → p / w * w ≡ p → p / w + n ≤ r.count → i < n
    → span_of (r ∷ rs) ≤ length l → Turns w (p + i * w) (r ∷ rs) l
unfolding span_of
first_turns w n p i r rs l e q h b room =
    let k : ℕ = p / w + i in
    let at : k * w ≡ p + i * w = add-mul (p / w) i w ∙ ap (λ (x : ℕ). x + i * w) q in
    let whole : r.count * w + span_of rs ≤ length l = rw e at room in
    let more : (k + 1) * w ≤ r.count * w = mul-le-mul_right w (omega arith) in
    let f = runs_field [] rs w r.count k 1 l (omega arith) (omega arith) in
    let same : r ≡ run w r.count = λ j. run (e j) r.count in
    record {
      inside = rw e (omega (arith, more, at, add-mul k 1 w, one-mul w));
      unit = rw (same, ← at) (rw (zero-add, one-mul) at f ∙ turned_one w (drop (k * w) l));
    }

-- in a later run
later_turns : (w at : ℕ) (r : Run) (rs : List Run) (l : List ℕ) → span_of (r ∷ rs) ≤ length l → Turns w at rs (drop (r.count * r.width) l)
    → Turns w (r.count * r.width + at) (r ∷ rs) l
unfolding span_of turn_runs
later_turns w at r rs l room t =
    let m : ℕ = r.count * r.width in
    let a : List ℕ = turned r.width r.count (take m l) in
    let b : List ℕ = turn_runs rs (drop m l) in
    let own : length a ≡ m = length-turned r.width r.count (take m l) ∙ length-take-le m l (omega arith) in
    record {
      inside = omega (arith, t.inside);
      unit = rw (← drop-drop at m (a ++ b), ← drop-drop at m l, drop_at a b m own) t.unit;
    }

module _ (w n p i : ℕ) (r : Run) (rs : List Run) (l : List ℕ) (b : i < n) (room : span_of (r ∷ rs) ≤ length l) where
  abbrev past : ℕ
  past = r.count * r.width

  room_left : span_of rs ≤ length (drop past l)
  unfolding span_of
  room_left = rw length-drop (omega arith)

  either_run : (span_of rs ≤ length (drop past l) → units_at w n (p - past) rs ≡ true → Turns w (p - past + i * w) rs (drop past l))
      → (t : Bool) → leb past p ≡ t → cond t (units_at w n (p - past) rs) (eqb r.width w && (eqb (p / w * w) p && leb (p / w + n) r.count)) ≡ true
      → Turns w (p + i * w) (r ∷ rs) l
  either_run later true e h =
      let f = leb-true past p e in
      let at : past + (p - past + i * w) ≡ p + i * w = omega arith in
      rw at at (later_turns w (p - past + i * w) r rs l room (later room_left h))
  either_run later false e h =
      let a = (and-eq-true_iff (eqb r.width w) (eqb (p / w * w) p && leb (p / w + n) r.count)).0 h in
      let d = (and-eq-true_iff (eqb (p / w * w) p) (leb (p / w + n) r.count)).0 a.1 in
      first_turns w n p i r rs l (eqb-true r.width w a.0) (eqb-true (p / w * w) p d.0) (leb-true (p / w + n) r.count d.1) b room

pub turns_at : (w n p i : ℕ) (rs : List Run) (l : List ℕ) → i < n → span_of rs ≤ length l → units_at w n p rs ≡ true → Turns w (p + i * w) rs l
turns_at w n p i [] l b room h = absurd (false≢true h)
turns_at w n p i (r ∷ rs) l b room h =
    either_run w n p i r rs l b room (turns_at w n (p - r.count * r.width) i rs (drop (r.count * r.width) l) b) (leb (r.count * r.width) p) refl h

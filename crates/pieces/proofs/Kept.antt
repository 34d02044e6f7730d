-- What is kept depends on the bytes so far alone: a fresh start keeps what `kept_of` says of none, and a piece takes what is kept of b to
-- what is kept of b and the piece.
use Prim.Native.Nat.{ℕ, ◌+◌, ◌≤◌}
use mathlib.Core.Path.{◌≡◌, refl, sym, ap, ◌∙◌}
use mathlib.Core.Bool.{Bool, true, false, cond, ◌||◌, and-eq-true_iff, false≢true}
use mathlib.Core.List.{List, [], ◌++◌}
use native.Mathlib.Omega.{arith}
use borrow.Author.Tests.{ltb-true, ltb-false, leb-true}
use lib.Dec.{ltb, leb}
use lib.ListN.{length, take, replicate, length-append}
use lib.Seq.{take-nil}
use Rattle.field.specs.Numbers.{bytes_at}
use Rattle.extension.specs.Walk.{first_place}
use Rattle.layout.specs.File.{order_of}
use Rattle.piece_walk.specs.declared.Walk.{Walk}
use Rattle.piece_walk.specs.Marks.{marks_of}
use Rattle.piece_walk.specs.Walking.{walked_on}
use Rattle.piece_walk.specs.Whole.{walk_of}
use Rattle.piece_walk.proofs.Standing.{walk_nowhere, walked_first, walked_later, walk_behind, walk_before}
use Rattle.pieces.specs.Pieces.{front_length, fresh, end_in, walk_with, is_skipped, skipped_by, read_on, taken_with}
use Rattle.pieces.specs.Kept.{front_of, kept_of}
use Rattle.pieces.proofs.Fronts.{no_front, front_kept, front_with_lem}

module _ (b piece : List ℕ) where
  abbrev c : List ℕ
  c = b ++ piece

  abbrev end_of : List ℕ → ℕ
  end_of s = end_in (order_of (front_of s)) (front_of s)

  walk_with_lem : walk_with (front_of c) (walk_of (order_of (front_of b)) (end_of b) b) (length b) piece ≡ walk_of (order_of (front_of c)) (end_of c) c
  unfolding walk_with
  walk_with_lem = by (ltb (length b) front_length) refl
    where
      by : (t : Bool) → ltb (length b) front_length ≡ t
          → walked_on (order_of (front_of c)) (end_of c) (walk_of (order_of (front_of b)) (end_of b) b) (length b) piece ≡ walk_of (order_of (front_of c)) (end_of c) c
      by true e =
          let h : length b ≤ first_place = omega (arith, ltb-true (length b) front_length e) in
          ap (λ g. walked_on (order_of (front_of c)) (end_of c) g (length b) piece) (walk_nowhere (order_of (front_of b)) (end_of b) b h)
          ∙ walked_first (order_of (front_of c)) (end_of c) b piece (end_of b) h
      by false e =
          ap (λ f. walked_on (order_of (front_of c)) (end_of c) (walk_of (order_of f) (end_in (order_of f) f) b) (length b) piece)
          (front_kept b piece (ltb-false (length b) front_length e))
          ∙ walked_later (order_of (front_of c)) (end_of c) b piece

  read_kept : read_on (kept_of b) piece ≡ kept_of c
  unfolding kept_of read_on
  read_kept =
      let f = front_with_lem b piece in
      let w = ap (λ l. walk_with l (walk_of (order_of (front_of b)) (end_of b) b) (length b) piece) f ∙ walk_with_lem in
      λ i. record { taken = sym (length-append b piece) i; front = f i; walk = w i }

  -- a piece that is skipped
  module _ (some : front_length ≤ length b) where
    same_walk : walk_of (order_of (front_of b)) (end_of b) b ≡ walk_of (order_of (front_of b)) (end_of b) c → skipped_by (kept_of b) piece ≡ kept_of c
    unfolding kept_of
    same_walk e =
        let f = front_kept b piece some in
        let w = e ∙ ap (λ l. walk_of (order_of l) (end_in (order_of l) l) c) f in
        λ i. record { taken = sym (length-append b piece) i; front = f i; walk = w i }

    skipped_by_lem : (t u : Bool) → leb (end_of b) (length b) ≡ t → leb (length b + length piece) (walk_of (order_of (front_of b)) (end_of b) b).at ≡ u
        → (t || u) ≡ true → skipped_by (kept_of b) piece ≡ kept_of c
    skipped_by_lem true u e d o = same_walk (walk_behind (order_of (front_of b)) (end_of b) b piece (leb-true (end_of b) (length b) e))
    skipped_by_lem false true e d o =
        let h = leb-true (length b + length piece) (walk_of (order_of (front_of b)) (end_of b) b).at d in
        same_walk (walk_before (order_of (front_of b)) (end_of b) b piece (omega (arith, length-append b piece)))
    skipped_by_lem false false e d o = absurd (false≢true o)

  pub taken_kept : taken_with (kept_of b) piece ≡ kept_of c
  unfolding taken_with kept_of
  taken_kept = by (is_skipped (front_of b) (walk_of (order_of (front_of b)) (end_of b) b).at (length b) (length b + length piece)) refl
    where
      at : ℕ
      at = (walk_of (order_of (front_of b)) (end_of b) b).at

      by : (t : Bool) → is_skipped (front_of b) at (length b) (length b + length piece) ≡ t
          → cond t (skipped_by (kept_of b) piece) (read_on (kept_of b) piece) ≡ kept_of c
      by true e =
          let p = (and-eq-true_iff (leb front_length (length b)) (leb (end_of b) (length b) || leb (length b + length piece) at)).0 e in
          skipped_by_lem (leb-true front_length (length b) p.0) (leb (end_of b) (length b)) (leb (length b + length piece) at) refl refl p.1
      by false e = read_kept

pub fresh_kept : fresh ≡ kept_of []
unfolding fresh kept_of
fresh_kept =
    let order = order_of (front_of []) in
    let e = end_in order (front_of []) in
    let m : replicate 8 0 ≡ bytes_at first_place 8 (take e []) = rw (take-nil {A = ℕ} e) in
    let w : ◌≡◌ {A = Walk} (record { at = first_place; count = 0; coming = replicate 8 0; marks = marks_of [] }) (walk_of order e []) =
    (λ i. record { at = first_place; count = 0; coming = m i; marks = marks_of [] }) ∙ sym (walk_nowhere order e [] (omega arith)) in
    λ i. record { taken = 0; front = no_front i; walk = w i }

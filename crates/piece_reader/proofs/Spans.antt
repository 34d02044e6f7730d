-- The spans that marks say, one mark more.
use Prim.Native.Nat.{ℕ, suc, ◌+◌, ◌<◌}
use mathlib.Core.Path.{◌≡◌, sym, ap, ◌∙◌}
use mathlib.Core.List.{List, [], ◌∷◌, ◌++◌}
use native.Mathlib.Omega.{arith}
use lib.ListN.{length, get_or, set, take}
use lib.Seq.{take-suc, length-take-le}
use Rattle.number.specs.Natural.{natural_of}
use Rattle.extension.specs.declared.Span.{Span}
use Rattle.extension.specs.Walk.{extension_limit, first_place, span}
use Rattle.extension.specs.Listing.{spans_of}
use Rattle.listing.proofs.Filled.{spans_more}
use Rattle.piece_walk.specs.declared.Mark.{Mark}
use Rattle.piece_walk.specs.Marks.{no_mark, place_by, spans_by}
use Rattle.piece_walk.proofs.Marks.{spans_next, place_next, length_spans}

module _ (marks : List Mark) (i : ℕ) (inside : i < length marks) where
  abbrev m : Mark
  m = get_or marks i no_mark

  next : take (i + 1) marks ≡ take i marks ++ (m ∷ [])
  next = let e : i + 1 ≡ suc i = omega arith in ap (λ n. take n marks) e ∙ take-suc marks i no_mark inside

  pub place_turn : (start : ℕ) → start ≡ place_by first_place (take i marks)
      → start + natural_of m.size ≡ place_by first_place (take (i + 1) marks)
  place_turn start p = rw (next, p) (sym (place_next first_place (take i marks) m))

  pub span_turn : i < extension_limit → (spans : List Span) (start : ℕ) → spans ≡ spans_of (spans_by first_place (take i marks))
      → start ≡ place_by first_place (take i marks)
      → set spans i (span start m.size m.code) ≡ spans_of (spans_by first_place (take (i + 1) marks))
  span_turn few spans start e p =
      let ys = spans_by first_place (take i marks) in
      let n : i ≡ length ys = sym (length_spans first_place (take i marks) ∙ length-take-le i marks (omega arith)) in
      (λ j. set (e j) (n j) (span (p j) m.size m.code))
      ∙ spans_more ys (span (place_by first_place (take i marks)) m.size m.code) (omega arith)
      ∙ ap spans_of (sym (ap (spans_by first_place) next ∙ spans_next first_place (take i marks) m))

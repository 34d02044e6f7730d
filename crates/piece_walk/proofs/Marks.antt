-- Marks: those of a list that grows by a span (`marks_more`), and the spans that follow from the marks of spans which stand one after the
-- other (`spans_back`).
use Prim.Native.Nat.{ℕ, suc, ◌+◌, ◌-◌, ◌<◌}
use mathlib.Core.Path.{◌≡◌, refl, sym, ap, ◌∙◌}
use mathlib.Core.List.{List, [], ◌∷◌, ◌++◌}
use native.Mathlib.Omega.{arith}
use lib.IntN.{pos, nat_abs}
use lib.ListN.{length, set, take, replicate}
use lib.Seq.{take-append_seam}
use Rattle.number.specs.Natural.{natural_of}
use Rattle.number.proofs.Lists.{fill_more}
use Rattle.extension.specs.declared.Span.{Span}
use Rattle.extension.specs.Walk.{extension_limit, span}
use Rattle.piece_walk.specs.declared.Mark.{Mark}
use Rattle.piece_walk.specs.Marks.{mark_of, no_mark, marked, marks_of, place_by, spans_by}

length_marked : (xs : List Span) → length (marked xs) ≡ length xs
length_marked [] = refl
length_marked (x ∷ xs) = ap suc (length_marked xs)

marked_more : (xs : List Span) (x : Span) → marked (xs ++ (x ∷ [])) ≡ marked xs ++ (mark_of x ∷ [])
marked_more [] x = refl
marked_more (y ∷ ys) x = ap (λ ms. mark_of y ∷ ms) (marked_more ys x)

pub marks_more : (xs : List Span) (x : Span) → length xs < extension_limit
    → set (marks_of xs) (length xs) (mark_of x) ≡ marks_of (xs ++ (x ∷ []))
unfolding marks_of
marks_more xs x h =
    rw (← length_marked (xs ++ (x ∷ [])), marked_more xs x, ← length_marked xs)
    (fill_more (marked xs) no_mark (mark_of x) extension_limit (omega (arith, length_marked xs)))

-- spans that stand one after the other from a place on
pub data Follows : ℕ → List Span → Type 0 where
  none : {at : ℕ} → Follows at []
  one : {at : ℕ} {x : Span} {xs : List Span} → x.start ≡ at → x.size ≡ pos (nat_abs x.size) → Follows (at + nat_abs x.size) xs
      → Follows at (x ∷ xs)

spans_by_lem : {at : ℕ} {xs : List Span} → Follows at xs → spans_by at (marked xs) ≡ xs
spans_by_lem none = refl
spans_by_lem (one {at} {x} {xs} s n f) =
    let m : natural_of x.size ≡ nat_abs x.size = ap natural_of n in
    (λ i. record { start = sym s i; size = x.size; code = x.code } ∷ spans_by (at + m i) (marked xs)) ∙ ap (λ ys. x ∷ ys) (spans_by_lem f)

pub spans_back : {at : ℕ} {xs : List Span} → Follows at xs → spans_by at (take (length xs) (marks_of xs)) ≡ xs
unfolding marks_of
spans_back {at} {xs} f =
    let zeros = replicate (extension_limit - length xs) no_mark in
    ap (λ n. spans_by at (take n (marked xs ++ zeros))) (sym (length_marked xs))
    ∙ ap (spans_by at) (take-append_seam (marked xs) zeros)
    ∙ spans_by_lem f

-- the spans of marks one by one
pub spans_next : (at : ℕ) (ms : List Mark) (m : Mark) → spans_by at (ms ++ (m ∷ [])) ≡ spans_by at ms ++ (span (place_by at ms) m.size m.code ∷ [])
spans_next at [] m = refl
spans_next at (x ∷ ms) m = ap (λ ys. span at x.size x.code ∷ ys) (spans_next (at + natural_of x.size) ms m)

pub place_next : (at : ℕ) (ms : List Mark) (m : Mark) → place_by at (ms ++ (m ∷ [])) ≡ place_by at ms + natural_of m.size
place_next at [] m = refl
place_next at (x ∷ ms) m = place_next (at + natural_of x.size) ms m

pub length_spans : (at : ℕ) (ms : List Mark) → length (spans_by at ms) ≡ length ms
length_spans at [] = refl
length_spans at (m ∷ ms) = ap suc (length_spans (at + natural_of m.size) ms)

-- The text of the card's lines: how many bytes a line has, and how lines are written one behind the other.
use Rattle.std.specs.Prelude.{Ok, Err, Some, None}
use mathlib.Core.Path.{◌≡◌, refl, sym, ap, ◌∙◌}
use mathlib.Core.List.{List, [], ◌∷◌, ◌++◌, append_assoc}
use Prim.Native.Nat.{ℕ, zero, suc, ◌+◌, ◌-◌, ◌≤◌}
use native.Mathlib.Omega.{arith}
use native.Mathlib.Numerals.{add-one}
use lib.ListN.{length, length-append}
use Rattle.refusal.specs.declared.Refusal.{Refusal}
use Rattle.buffer.specs.Put.{put}
use Rattle.buffer.proofs.Laws.{put_nil, put_right}
use Rattle.decimal.specs.Decimal.{decimal}
use Rattle.timing.specs.declared.Acquisition.{Acquisition}
use Rattle.slice_rank.specs.Ranked.{ranked_by}
use Rattle.card_lines.specs.Lines.{line, lines_to, ended, line_text, lines_text}

-- lines behind one another
pub ended-append : (xs ys : List (List ℕ)) → ended (xs ++ ys) ≡ ended xs ++ ended ys
unfolding ended
ended-append [] ys = refl
ended-append (x ∷ xs) ys = rw (ended-append xs ys) (sym (append_assoc x (10 ∷ ended xs) (ended ys)))

pub ended_one : (l : List ℕ) → ended (l ∷ []) ≡ l ++ (10 ∷ [])
unfolding ended
ended_one l = refl

-- ---- the line of a rank, by what the call answers of it
module _ (a : Acquisition) (rank : ℕ) where
  shown_text : (s : ℕ) → ranked_by a rank ≡ Ok (Some s) → line_text a rank ≡ (decimal rank ++ (32 ∷ [])) ++ (decimal s ++ (10 ∷ []))
  unfolding line
  shown_text s e = rw e (ended_one (line rank s) ∙ simp append_assoc)

  pub shown_length : (s : ℕ) → ranked_by a rank ≡ Ok (Some s) → length (line_text a rank) ≡ length (decimal rank) + length (decimal s) + 2
  shown_length s e = rw (shown_text s e) (simp length-append (omega arith))

  -- no line
  pub unstated_text : ranked_by a rank ≡ Ok None → line_text a rank ≡ []
  unfolding ended
  unstated_text e = rw e

  pub refused_text : (r : Refusal) → ranked_by a rank ≡ Err r → line_text a rank ≡ []
  unfolding ended
  refused_text r e = rw e

  pub none_written : (l : List ℕ) (at : ℕ) → line_text a rank ≡ [] → (at ≡ at + length (line_text a rank)) × (l ≡ put l at (line_text a rank))
  none_written l at e = rw e (omega arith, sym (put_nil l at))

  -- a line, in two parts
  pub line_written : (l b d : List ℕ) (at p q s : ℕ) → ranked_by a rank ≡ Ok (Some s) → at + length (line_text a rank) ≤ length l
      → p ≡ at + length (decimal rank) + 1 → b ≡ put l at (decimal rank ++ (32 ∷ []))
      → q ≡ p + length (decimal s) + 1 → d ≡ put b p (decimal s ++ (10 ∷ []))
      → (q ≡ at + length (line_text a rank)) × (d ≡ put l at (line_text a rank))
  line_written l b d at p q s e h ep eb eq ed =
      let n = shown_length s e in
      let k : length (decimal rank ++ (32 ∷ [])) ≡ length (decimal rank) + 1 = length-append (decimal rank) (32 ∷ []) in (
        omega arith,
        ed ∙ put_right l at (decimal rank ++ (32 ∷ [])) (decimal s ++ (10 ∷ [])) b p eb (omega arith) (omega arith)
            ∙ ap (put l at) (sym (shown_text s e)),
      )

-- ---- the lines of the first ranks
module _ (a : Acquisition) where
  lines_next : (n : ℕ) → lines_text a (n + 1) ≡ lines_text a n ++ line_text a n
  unfolding lines_to
  lines_next n = rw add-one (ended-append (lines_to a n) _)

  pub length-next : (n : ℕ) → length (lines_text a (n + 1)) ≡ length (lines_text a n) + length (line_text a n)
  length-next n = rw (lines_next n) (length-append (lines_text a n) (line_text a n))

  -- fewer lines are not longer
  lines_longer : (m k : ℕ) → length (lines_text a m) ≤ length (lines_text a (m + k))
  lines_longer m zero = let e : m + 0 ≡ m = omega arith in rw e (omega arith)
  lines_longer m (suc k) =
      let e : m + suc k ≡ m + k + 1 = omega arith in
      rw (e, length-next (m + k)) (omega (arith, lines_longer m k))

  pub lines_upto : (m n : ℕ) → m ≤ n → length (lines_text a m) ≤ length (lines_text a n)
  lines_upto m n l = let e : m + (n - m) ≡ n = omega arith in rw e at (lines_longer m (n - m))

  pub no_lines : lines_text a 0 ≡ []
  unfolding lines_to ended
  no_lines = refl

  -- one line more
  pub next_written : (l b d : List ℕ) (at n : ℕ) → at ≡ length (lines_text a n) → b ≡ put l 0 (lines_text a n) → d ≡ put b at (line_text a n)
      → d ≡ put l 0 (lines_text a (n + 1))
  next_written l b d at n ea eb ed =
      ed ∙ put_right l 0 (lines_text a n) (line_text a n) b at eb (omega arith) (omega arith) ∙ ap (put l 0) (sym (lines_next n))

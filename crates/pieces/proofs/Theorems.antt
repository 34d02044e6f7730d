-- What a piece does to any state, and what is kept after any pieces from a fresh start, over the definitions that the promises cite.
use Rattle.refusal.specs.declared.Rule.TheVariants.{TooManyBytes}
use Rattle.std.specs.Prelude.{Err}
use Prim.Native.Nat.{ℕ, ◌+◌, ◌≤◌, ◌<◌}
use mathlib.Core.Path.{◌≡◌, refl, sym, ap, ◌∙◌}
use mathlib.Core.Bool.{Bool, true, false, cond}
use mathlib.Core.List.{List, [], ◌∷◌, ◌++◌, append_assoc, append-nil}
use native.Mathlib.Omega.{arith}
use borrow.Author.Tests.{ltb-false, lt-ltb, le-ltb}
use lib.ListN.{length, take, length-append}
use Rattle.refusal.specs.Table.{refusal, no_refusal}
use Rattle.refusal.proofs.Rows.{refused_never}
use Rattle.field.specs.Numbers.{joined}
use Rattle.extension.specs.Walk.{extension_limit, first_place}
use Rattle.layout.specs.File.{order_of}
use Rattle.piece_walk.specs.Marks.{spans_by}
use Rattle.piece_walk.specs.Whole.{whole_from, walk_of}
use Rattle.piece_walk.proofs.Standing.{standing_spans}
use Rattle.pieces.specs.declared.Pieces.{Pieces}
use Rattle.pieces.specs.Pieces.{total_limit, passes_total, fresh, end_in, is_skipped, skipped_by, read_on, taken_with, Taken, taken_of}
use Rattle.pieces.specs.Feeding.{after_all, taken_from}
use Rattle.pieces.specs.Kept.{front_of, kept_of}
use Rattle.pieces.proofs.Kept.{taken_kept, fresh_kept}

-- "25 for a piece that would pass that total, before anything else; the reader's state stays": of any state
module _ (s : Pieces) (piece : List ℕ) where
  pub past_total : total_limit < s.taken + length piece → ◌≡◌ {A = Taken} (taken_of s piece) (record { verdict = Err (refusal TooManyBytes 0); pieces = s })
  unfolding taken_of
  past_total h = rw (lt-ltb total_limit (s.taken + length piece) h)

  pub within_total : s.taken + length piece ≤ total_limit → ◌≡◌ {A = Taken} (taken_of s piece) (record { verdict = no_refusal; pieces = taken_with s piece })
  unfolding taken_of
  within_total h = rw (le-ltb total_limit (s.taken + length piece) h)

  -- a piece that is taken is within the total, and all its bytes count
  with_taken : (taken_with s piece).taken ≡ s.taken + length piece
  unfolding taken_with read_on
  with_taken = by (is_skipped s.front s.walk.at s.taken (s.taken + length piece))
    where
      by : (t : Bool) → (cond t (skipped_by s piece) (read_on s piece)).taken ≡ s.taken + length piece
      by true = refl
      by false = refl

  pub accepted_taken : (taken_of s piece).verdict ≡ no_refusal
      → (s.taken + length piece ≤ total_limit) × ((taken_of s piece).pieces.taken ≡ s.taken + length piece)
  unfolding taken_of
  accepted_taken e = by (passes_total s.taken (length piece)) refl e
    where
      refused : Taken
      refused = record { verdict = Err (refusal TooManyBytes 0); pieces = s }

      by : (t : Bool) → passes_total s.taken (length piece) ≡ t
          → (cond t refused (record { verdict = no_refusal; pieces = taken_with s piece })).verdict ≡ no_refusal
          → (s.taken + length piece ≤ total_limit)
          × ((cond t refused (record { verdict = no_refusal; pieces = taken_with s piece })).pieces.taken ≡ s.taken + length piece)
      by true d q = refused_never q
      by false d q = (ltb-false total_limit (s.taken + length piece) d, with_taken)

-- one piece more than b, refused and not
module _ (b p : List ℕ) where
  past_kept : passes_total (length b) (length p) ≡ true → (taken_of (kept_of b) p).pieces ≡ kept_of b
  unfolding taken_of kept_of
  past_kept e = rw e

  fits_with : passes_total (length b) (length p) ≡ false → (taken_of (kept_of b) p).pieces ≡ taken_with (kept_of b) p
  unfolding taken_of kept_of
  fits_with e = rw e

  fits_kept : passes_total (length b) (length p) ≡ false → (taken_of (kept_of b) p).pieces ≡ kept_of (b ++ p)
  fits_kept e = fits_with e ∙ taken_kept b p

module _ (n : ℕ) (p : List ℕ) (ps : List (List ℕ)) where
  skipped : passes_total n (length p) ≡ true → taken_from n (p ∷ ps) ≡ taken_from n ps
  unfolding taken_from
  skipped e = rw e

  counted : passes_total n (length p) ≡ false → taken_from n (p ∷ ps) ≡ p ∷ taken_from (n + length p) ps
  unfolding taken_from
  counted e = rw e

none_left : (n : ℕ) → taken_from n [] ≡ []
unfolding taken_from
none_left n = refl

-- what is kept after b and pieces
keeps : (b : List ℕ) (ps : List (List ℕ)) → after_all (kept_of b) ps ≡ kept_of (b ++ joined (taken_from (length b) ps))
unfolding after_all
keeps b [] = ap (λ qs. kept_of qs) (sym (append-nil b)) ∙ ap (λ qs. kept_of (b ++ joined qs)) (sym (none_left (length b)))
keeps b (p ∷ ps) = by (λ c. keeps c ps) (passes_total (length b) (length p)) refl
  where
    by : ((c : List ℕ) → after_all (kept_of c) ps ≡ kept_of (c ++ joined (taken_from (length c) ps))) → (t : Bool) → passes_total (length b) (length p) ≡ t
        → after_all (taken_of (kept_of b) p).pieces ps ≡ kept_of (b ++ joined (taken_from (length b) (p ∷ ps)))
    by ih true e =
        ap (λ s. after_all s ps) (past_kept b p e) ∙ ih b ∙ ap (λ qs. kept_of (b ++ joined qs)) (sym (skipped (length b) p ps e))
    by ih false e =
        ap (λ s. after_all s ps) (fits_kept b p e)
        ∙ ih (b ++ p)
        ∙ ap (λ l. kept_of l) (append_assoc b p (joined (taken_from (length (b ++ p)) ps)))
        ∙ ap (λ n. kept_of (b ++ (p ++ joined (taken_from n ps)))) (length-append b p)
        ∙ ap (λ qs. kept_of (b ++ joined qs)) (sym (counted (length b) p ps e))

-- What is kept after any pieces, "keeps no payload or voxel bytes": what `kept_of` says of the bytes so far (specs/Kept.antt), and so
-- the same however these were cut. Refused pieces are left out.
pub pieces_kept : (ps : List (List ℕ)) → after_all fresh ps ≡ kept_of (joined (taken_from 0 ps))
pieces_kept ps = ap (λ s. after_all s ps) fresh_kept ∙ keeps [] ps

-- what is kept of the extensions that have come whole says their spans
pub kept_spans : (b : List ℕ) → let f = front_of b in
    spans_by first_place (take (kept_of b).walk.count (kept_of b).walk.marks) ≡ whole_from (order_of f) (end_in (order_of f) f) b extension_limit first_place
unfolding kept_of walk_of
kept_spans b = let f = front_of b in standing_spans (order_of f) (end_in (order_of f) f) b

-- the bytes that were taken are within the total
pub taken_room : (n : ℕ) (ps : List (List ℕ)) → n ≤ total_limit → n + length (joined (taken_from n ps)) ≤ total_limit
unfolding taken_from
taken_room n [] h = omega arith
taken_room n (p ∷ ps) h = by (λ m q. taken_room m ps q) (passes_total n (length p)) refl
  where
    by : ((m : ℕ) → m ≤ total_limit → m + length (joined (taken_from m ps)) ≤ total_limit) → (t : Bool) → passes_total n (length p) ≡ t
        → n + length (joined (cond t (taken_from n ps) (p ∷ taken_from (n + length p) ps))) ≤ total_limit
    by ih true e = ih n h
    by ih false e =
        let r = ih (n + length p) (ltb-false total_limit (n + length p) e) in
        omega (arith, length-append p (joined (taken_from (n + length p) ps)))

-- no piece is refused where the file is within the total
pub all_taken : (n : ℕ) (ps : List (List ℕ)) → n + length (joined ps) ≤ total_limit → taken_from n ps ≡ ps
unfolding taken_from
all_taken n [] h = refl
all_taken n (p ∷ ps) h =
    let l = length-append p (joined ps) in
    rw (le-ltb total_limit (n + length p) (omega arith)) (ap (λ qs. p ∷ qs) (all_taken (n + length p) ps (omega arith)))

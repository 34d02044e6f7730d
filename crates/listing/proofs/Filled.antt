-- What is kept of a walk: all spans, in a list that is filled (`list`), or the place of the one that is wanted (`scan`). What each step
-- does to it.
use Rattle.std.specs.Prelude.{Ok, Some}
use Prim.Native.Nat.{ℕ, zero, suc, ◌+◌, ◌<◌, ◌≤◌}
use mathlib.Core.Path.{◌≡◌, refl, sym, ap, ◌∙◌}
use mathlib.Core.Bool.{Bool, true, false}
use mathlib.Core.List.{List, [], ◌∷◌, ◌++◌}
use native.Mathlib.Omega.{arith}
use borrow.Author.Tests.{eqb-true, eqb-false, eq-eqb, ne_eqb}
use lib.Dec.{eqb}
use lib.ListN.{length, get_or, set}
use Rattle.number.proofs.Lists.{fill_more}
use Rattle.field.specs.declared.Order.{Order}
use Rattle.field.specs.Numbers.{i32_at}
use Rattle.extension.specs.declared.Span.{Span}
use Rattle.extension.specs.declared.Walker.{Walker}
use Rattle.extension.specs.Walk.{extension_limit, first_place, span, past, step_of, Walked, listed, extensions_in}
use Rattle.extension.specs.Listing.{no_span, spans_of}
use Rattle.extension.proofs.Regions.{length_rest}
use Rattle.extension.proofs.Fills.{fills_at, extensions_fill, walk_reads}
use Rattle.listing.specs.Scan.{kept_of}
use Rattle.listing.proofs.Passed.{Passed, pass_taken, pass_room, pass_turn}

pub spans_more : (ys : List Span) (x : Span) → length ys < extension_limit
    → set (spans_of ys) (length ys) x ≡ spans_of (ys ++ (x ∷ []))
unfolding spans_of
spans_more ys x h = fill_more ys no_span x extension_limit h

pub record Filled (all : Walked) (file : List ℕ) (w : Walker) (spans : List Span) : Type 0 where
  pub so_far : List Span
  pub passed : Passed all file w so_far
  pub kept : spans ≡ spans_of so_far

pub fill_turn : (all : Walked) (file : List ℕ) (w : Walker) (spans : List Span) → Filled all file w spans → (x : Span) (next : Walker)
    → step_of file w ≡ Ok (Some (x, next)) → Filled all file next (set spans w.count x)
fill_turn all file w spans f x next e =
    let p = f.passed in
    let m = (pass_room all file w f.so_far p x next e).0 in
    record {
      so_far = f.so_far ++ (x ∷ []);
      passed = pass_turn all file w f.so_far p x next e;
      kept = rw (f.kept, ← p.counted) (spans_more f.so_far x (omega (arith, m, p.counted)));
    }

-- ---- The one that is wanted

eqb_suc : (a b : ℕ) → eqb (suc a) (suc b) ≡ eqb a b
eqb_suc a b = by (eqb a b) refl
  where
    by : (t : Bool) → eqb a b ≡ t → eqb (suc a) (suc b) ≡ eqb a b
    by true e = eq-eqb (suc a) (suc b) (ap suc (eqb-true a b e)) ∙ sym e
    by false e = ne_eqb (suc a) (suc b) (λ h. eqb-false a b e (omega arith)) ∙ sym e

-- of a list that grew by one, where it starts
kept_more : (ys : List Span) (x : Span) (n : ℕ)
    → kept_of (length ys) n x.start (get_or ys n no_span).start ≡ (get_or (ys ++ (x ∷ [])) n no_span).start
kept_more [] x zero = refl
kept_more [] x (suc n) = rw (ne_eqb 0 (suc n) (omega arith))
kept_more (y ∷ ys) x zero = rw (ne_eqb (suc (length ys)) 0 (omega arith))
kept_more (y ∷ ys) x (suc n) = rw (eqb_suc (length ys) n) (kept_more ys x n)

-- the walker stays inside its region, which the file has
pub record Kept (all : Walked) (file : List ℕ) (wanted : ℕ) (w : Walker) (place : ℕ) : Type 0 where
  pub so_far : List Span
  pub passed : Passed all file w so_far
  pub kept : place ≡ (get_or so_far wanted no_span).start
  pub inside : w.at ≤ w.end
  pub whole : w.end ≤ length file

pub keep_turn : (all : Walked) (file : List ℕ) (wanted : ℕ) (w : Walker) (place : ℕ) → Kept all file wanted w place → (x : Span) (next : Walker) (n : ℕ)
    → step_of file w ≡ Ok (Some (x, next)) → n ≡ kept_of w.count wanted x.start place → Kept all file wanted next n
keep_turn all file wanted w place f x next n e d =
    let p = f.passed in
    let t = pass_taken all file w f.so_far p x next e in
    let at : (past w x).at ≡ next.at = ap (λ (v : Walker). v.at) t.1 in
    let end : w.end ≡ next.end = ap (λ (v : Walker). v.end) t.1 in
    record {
      so_far = f.so_far ++ (x ∷ []);
      passed = pass_turn all file w f.so_far p x next e;
      kept = d ∙ rw (f.kept, ← p.counted) (kept_more f.so_far x wanted);
      inside = omega (arith, f.inside, f.whole, t.0.size.within, length_rest file w.end w.at, at, end);
      whole = omega (arith, f.whole, end);
    }

-- what stands at the place of a listed extension: the extension itself
module _ (order : Order) (end : ℕ) (file : List ℕ) (xs : List Span) (inside : end ≤ length file) (e : extensions_in order end file ≡ listed xs)
    (k : ℕ) (below : k < length xs) where
  abbrev found : Span
  found = get_or xs k no_span

  pub span_room : found.start + 8 ≤ length file
  span_room = let i = fills_at (extensions_fill order end file xs inside e) k no_span below in omega (arith, i.upto, i.proper.least)

  pub span_reads : span found.start (i32_at order file found.start) (i32_at order file (found.start + 4)) ≡ found
  unfolding extensions_in
  span_reads =
      let r = walk_reads order extension_limit first_place end file xs e k no_span below in
      λ i. span found.start (sym r.0 i) (sym r.1 i)

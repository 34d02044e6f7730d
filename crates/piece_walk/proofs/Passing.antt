-- The walk over what a piece brings, one step at a time.
use Rattle.std.specs.Prelude.{Ok, Err, Some, None}
use Prim.Native.Nat.{ℕ, zero, suc, ◌+◌, ◌-◌, ◌<◌, min}
use mathlib.Core.Path.{◌≡◌, refl, sym, ap, ◌∙◌}
use mathlib.Core.List.{List}
use native.Mathlib.Omega.{arith}
use lib.ListN.{length, set}
use Rattle.refusal.specs.declared.Refusal.{Refusal}
use Rattle.field.specs.declared.Order.{Order}
use Rattle.field.specs.Numbers.{i32_at}
use Rattle.extension.specs.declared.Span.{Span}
use Rattle.extension.specs.declared.Walker.{Walker}
use Rattle.extension.specs.Walk.{extension_limit, found_by, past}
use Rattle.extension.proofs.Found.{taken_by}
use Rattle.listing.proofs.Passed.{stepped}
use Rattle.piece_walk.specs.declared.Mark.{Mark}
use Rattle.piece_walk.specs.declared.Walk.{Walk}
use Rattle.piece_walk.specs.Marks.{mark_of}
use Rattle.piece_walk.specs.Window.{window}
use Rattle.piece_walk.specs.Walking.{step_by, walker_of, passed_by, passing}

-- a step to an extension: there was room for it, and the walker goes past it
pub step_to : (w : Walker) (coming : List ℕ) (total : ℕ) (x : Span) (next : Walker) → step_by w coming total ≡ Ok (Some (x, next))
    → (w.count < extension_limit) × (past w x ≡ next)
unfolding step_by
step_to w coming total x next e =
    let size = i32_at w.order coming 0 in
    let code = i32_at w.order coming 4 in
    let n = min w.end total - w.at in
    let s = stepped w next (found_by w.count w.at n size code) x e in
    ((taken_by w.count w.at n size code x s.0).more, s.1)

pub step_room : (w : Walker) (coming : List ℕ) (total : ℕ) (x : Span) (next : Walker) → step_by w coming total ≡ Ok (Some (x, next))
    → (w.count < extension_limit) × (next.count ≡ w.count + 1)
step_room w coming total x next e = let t = step_to w coming total x next e in (t.0, sym (ap (λ (v : Walker). v.count) t.1))

module _ (order : Order) (end : ℕ) (old : List ℕ) (n : ℕ) (piece : List ℕ) (g : Walk) where
  go_on_lem : (x : Span) (next : Walker) (k : ℕ) → 0 < k → step_by (walker_of order end g) g.coming (n + length piece) ≡ Ok (Some (x, next))
      → passing order end old n piece k g ≡ passing order end old n piece (k - 1) (passed_by end old n piece g x next)
  unfolding passing
  go_on_lem x next zero h e = absurd (omega arith)
  go_on_lem x next (suc k) h e = let p : suc k - 1 ≡ k = omega arith in rw (e, p)

  pub passing_on : (x : Span) (next : Walker) → step_by (walker_of order end g) g.coming (n + length piece) ≡ Ok (Some (x, next))
      → passing order end old n piece (extension_limit - g.count) g
      ≡ passing order end old n piece (extension_limit - next.count) (passed_by end old n piece g x next)
  passing_on x next e =
      let r = step_room (walker_of order end g) g.coming (n + length piece) x next e in
      let l : extension_limit - g.count - 1 ≡ extension_limit - next.count = omega arith in
      go_on_lem x next (extension_limit - g.count) (omega arith) e ∙ ap (λ k. passing order end old n piece k (passed_by end old n piece g x next)) l

  pub passing_end : (k : ℕ) → step_by (walker_of order end g) g.coming (n + length piece) ≡ Ok None → passing order end old n piece k g ≡ g
  unfolding passing
  passing_end zero e = refl
  passing_end (suc k) e = rw e

  pub passing_halt : (k : ℕ) (r : Refusal) → step_by (walker_of order end g) g.coming (n + length piece) ≡ Err r
      → passing order end old n piece k g ≡ g
  unfolding passing
  passing_halt zero r e = refl
  passing_halt (suc k) r e = rw e

-- the walk so far: `w` stands at its place, and `old` are the eight bytes that were kept before the piece
abbrev pub so_far : Walker → List ℕ → ℕ → List ℕ → List Mark → Walk
so_far w old n piece marks = record { at = w.at; count = w.count; coming = window w.at w.end n old piece; marks = marks }

-- what it comes to
abbrev pub comes_to : Walker → List ℕ → ℕ → List ℕ → List Mark → Walk
comes_to w old n piece marks = passing w.order w.end old n piece (extension_limit - w.count) (so_far w old n piece marks)

module _ (w : Walker) (old : List ℕ) (n : ℕ) (piece : List ℕ) (marks : List Mark) where
  pub comes_more : (x : Span) (next : Walker) (m : Mark) → step_by w (window w.at w.end n old piece) (n + length piece) ≡ Ok (Some (x, next))
      → m ≡ mark_of x → comes_to w old n piece marks ≡ comes_to next old n piece (set marks w.count m)
  comes_more x next m e d =
      let t = step_to w (window w.at w.end n old piece) (n + length piece) x next e in
      let order : w.order ≡ next.order = ap (λ (v : Walker). v.order) t.1 in
      let end : w.end ≡ next.end = ap (λ (v : Walker). v.end) t.1 in
      passing_on w.order w.end old n piece (so_far w old n piece marks) x next e
      ∙ (λ i.
      passing (order i) (end i) old n piece (extension_limit - next.count)
      (record { at = next.at; count = next.count; coming = window next.at (end i) n old piece; marks = set marks w.count (sym d i) }))

  pub comes_end : step_by w (window w.at w.end n old piece) (n + length piece) ≡ Ok None → comes_to w old n piece marks ≡ so_far w old n piece marks
  comes_end e = passing_end w.order w.end old n piece (so_far w old n piece marks) (extension_limit - w.count) e

  pub comes_halt : (r : Refusal) → step_by w (window w.at w.end n old piece) (n + length piece) ≡ Err r
      → comes_to w old n piece marks ≡ so_far w old n piece marks
  comes_halt r e = passing_halt w.order w.end old n piece (so_far w old n piece marks) (extension_limit - w.count) r e

-- A walk on its way, whatever is kept of it: the extensions that the walker has passed and the walk that is left are the whole walk.
use Rattle.std.specs.Prelude.{Ok, Err, Some, None, Result, Option}
use Prim.Native.Nat.{ℕ, ◌+◌, ◌-◌, ◌<◌, ◌≤◌}
use mathlib.Core.Path.{◌≡◌, refl, sym, ap, ◌∙◌}
use mathlib.Core.List.{List, [], ◌∷◌, ◌++◌, append-nil}
use native.Mathlib.Omega.{arith}
use lib.ListN.{length, length-append}
use lib.Seq.{append_snoc, drop-drop}
use Rattle.refusal.specs.declared.Refusal.{Refusal}
use Rattle.extension.specs.declared.Span.{Span}
use Rattle.extension.specs.declared.Walker.{Walker}
use Rattle.extension.specs.Walk.{extension_limit, first_place, rest_of, Found, extension, ended, refused, found, past, step_from, step_of}
use Rattle.extension.specs.Walk.{Walked, listed, stopped, onto, walk, extensions_in}
use Rattle.extension.proofs.Found.{Taken, taken}
use Rattle.extension.proofs.Walks.{before, walk_extension, walk_ended, walk_refused}

-- spans, and then those of a walk
abbrev after : List Span → Walked → Walked
after ys (listed xs) = listed (ys ++ xs)
after ys (stopped r) = stopped r

after_none : (r : Walked) → r ≡ after [] r
after_none (listed xs) = refl
after_none (stopped r) = refl

after_onto : (ys : List Span) (x : Span) (r : Walked) → after ys (onto x r) ≡ after (ys ++ (x ∷ [])) r
after_onto ys x (listed xs) = ap listed (sym (append_snoc ys x xs))
after_onto ys x (stopped r) = refl

-- `all` is the whole walk. So far the walker `w` has passed `so_far`, and it has the rest before it
pub record Passed (all : Walked) (file : List ℕ) (w : Walker) (so_far : List Span) : Type 0 where
  pub counted : length so_far ≡ w.count
  pub most : w.count ≤ extension_limit
  pub rest : all ≡ after so_far (walk w.order (before w.count) w.at (rest_of file w.end w.at))

-- before the first step
pub pass_none : (file : List ℕ) (w : Walker) → w.at ≡ first_place → w.count ≡ 0 → Passed (extensions_in w.order w.end file) file w []
unfolding extensions_in
pass_none file w a n = record { counted = sym n; most = omega (arith, n); rest = rw (a, n) (after_none _) }

-- what a step hands over, and else p
abbrev taken_or : Span × Walker → Option (Span × Walker) → Span × Walker
taken_or p (Some q) = q
taken_or p None = p

abbrev taken_in : Span × Walker → Result (Option (Span × Walker)) Refusal → Span × Walker
taken_in p (Ok o) = taken_or p o
taken_in p (Err r) = p

pub stepped : (w next : Walker) (f : Found) (x : Span) → step_from w f ≡ Ok (Some (x, next))
    → (f ≡ extension x) × (past w x ≡ next)
stepped w next (extension y) x e =
    let p : (y, past w y) ≡ (x, next) = ap (taken_in (y, past w y)) e in
    let y_is : y ≡ x = ap (λ (q : Span × Walker). q.0) p in
    (ap extension y_is, ap (past w) (sym y_is) ∙ ap (λ (q : Span × Walker). q.1) p)
stepped w next ended x e = cc
stepped w next (refused r) x e = cc

pub stepped_end : (w : Walker) (f : Found) → step_from w f ≡ Ok None → f ≡ ended
stepped_end w (extension y) e = cc
stepped_end w ended e = refl
stepped_end w (refused r) e = cc

pub stepped_halt : (w : Walker) (f : Found) (r : Refusal) → step_from w f ≡ Err r → f ≡ refused r
stepped_halt w (extension y) r e = cc
stepped_halt w ended r e = cc
stepped_halt w (refused q) r e = cc

module _ (all : Walked) (file : List ℕ) (w : Walker) (so_far : List Span) (f : Passed all file w so_far) where
  abbrev rest : List ℕ
  rest = rest_of file w.end w.at

  -- what the step finds, as the walk asks for it
  finds : {x : Found} → found w.order w.count w.at rest ≡ x → found w.order (before (before w.count)) w.at rest ≡ x
  finds e = let n : before (before w.count) ≡ w.count = omega (arith, f.most) in rw n e

  -- a step to an extension, and the walker that it leaves
  pub pass_taken : (x : Span) (next : Walker) → step_of file w ≡ Ok (Some (x, next)) → Taken w.order w.count w.at rest x × (past w x ≡ next)
  unfolding step_of
  pass_taken x next e =
      let s = stepped w next (found w.order w.count w.at rest) x e in
      (taken w.order w.count w.at rest x s.0, s.1)

  pub pass_room : (x : Span) (next : Walker) → step_of file w ≡ Ok (Some (x, next)) → (w.count < extension_limit) × (next.count ≡ w.count + 1)
  pass_room x next e = let t = pass_taken x next e in (t.0.more, sym (ap (λ (v : Walker). v.count) t.1))

  pub pass_turn : (x : Span) (next : Walker) → step_of file w ≡ Ok (Some (x, next)) → Passed all file next (so_far ++ (x ∷ []))
  unfolding step_of
  pass_turn x next e =
      let s = stepped w next (found w.order w.count w.at rest) x e in
      let t = taken w.order w.count w.at rest x s.0 in
      let n : length (so_far ++ (x ∷ [])) ≡ length so_far + 1 = length-append so_far (x ∷ []) in
      let m : before w.count - 1 ≡ before (w.count + 1) = omega (arith, t.more) in
      rw (← s.1)
      record {
        counted = omega (arith, f.counted);
        most = omega (arith, t.more);
        rest = f.rest ∙ rw (walk_extension w.order w.at rest (before w.count) x (finds s.0), after_onto, drop-drop, m);
      }

  pub pass_end : step_of file w ≡ Ok None → all ≡ listed so_far
  unfolding step_of
  pass_end e =
      let s = stepped_end w (found w.order w.count w.at rest) e in
      f.rest ∙ rw (walk_ended w.order w.at rest (before w.count) (finds s), append-nil)

  pub pass_halt : (r : Refusal) → step_of file w ≡ Err r → all ≡ stopped r
  unfolding step_of
  pass_halt r e =
      let s = stepped_halt w (found w.order w.count w.at rest) r e in
      f.rest ∙ rw (walk_refused w.order w.at rest (before w.count) r (finds s))

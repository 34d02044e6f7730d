-- The walk refuses by 13, 14 or 15 and by no other number.
use Rattle.refusal.specs.declared.Rule.TheVariants.{WrongSize}
use Rattle.std.specs.Prelude.{Ok, Err}
use Prim.Native.Nat.{ℕ, zero, suc, ◌+◌}
use mathlib.Core.Path.{◌≡◌, refl, sym}
use mathlib.Core.Bool.{Bool, true, false, cond}
use mathlib.Core.List.{List, []}
use native.Mathlib.Omega.{arith}
use lib.Dec.{eqb}
use lib.IntN.{nat_abs}
use lib.ListN.{length, drop}
use Rattle.field.specs.declared.Order.{Order}
use Rattle.field.specs.Numbers.{i32_at}
use Rattle.refusal.specs.declared.Refusal.{Refusal}
use Rattle.refusal.specs.Table.{refusal, verdict, decided, Verdict, number_of}
use Rattle.refusal.proofs.Rows.{between, verdict_number}
use Rattle.extension.specs.declared.Span.{Span}
use Rattle.extension.specs.Walk.{extension_limit, extension_rows, first_place, rest_of, span_at, Found, extension, ended, refused, found}
use Rattle.extension.specs.Walk.{Walked, listed, stopped, onto, go_on, walk, extensions_in}
use Rattle.extension.proofs.Walks.{before, stopped_never}

-- what is found is no refusal
ended_never {ℓ} : {A : Type ℓ} {r : Refusal} → ended ≡ refused r → A
ended_never e = let z : ◌≡◌ {A = ℕ} 0 1 = cc in absurd (omega arith)

extension_never {ℓ} : {A : Type ℓ} {x : Span} {r : Refusal} → extension x ≡ refused r → A
extension_never e = let z : ◌≡◌ {A = ℕ} 0 1 = cc in absurd (omega arith)

-- a refusal of the walk
abbrev pub Walks : Refusal → Type 0
Walks r = between 13 15 (number_of r.rule) ≡ true

found_by_lem : (t u : Bool) (at : ℕ) (v : Verdict) (x : Span) (r : Refusal) → ((q : Refusal) → v ≡ Err q → Walks q)
    → cond t (cond u (refused (refusal WrongSize at)) ended) (decided v (extension x) refused) ≡ refused r → Walks r
found_by_lem true true at v x r k e = let s : refusal WrongSize at ≡ r = cc in rw (← s)
found_by_lem true false at v x r k e = ended_never e
found_by_lem false u at (Ok tt) x r k e = extension_never e
found_by_lem false u at (Err q) x r k e = let s : q ≡ r = cc in rw (← s) (k q refl)

found_number : (order : Order) (n at : ℕ) (rest : List ℕ) (r : Refusal) → found order n at rest ≡ refused r → Walks r
unfolding found
found_number order n at rest r e =
    let rows = extension_rows n at (length rest) (i32_at order rest 0) (i32_at order rest 4) in
    found_by_lem (eqb (length rest) 0) (eqb n 0) at (verdict rows) (span_at order at rest) r (λ q. verdict_number (between 13 15) rows q refl) e

onto_stopped : (x : Span) (w : Walked) (r : Refusal) → onto x w ≡ stopped r → w ≡ stopped r
onto_stopped x (listed xs) r e = stopped_never (sym e)
onto_stopped x (stopped q) r e = e

walk_number : (order : Order) (left at : ℕ) (rest : List ℕ) (r : Refusal) → walk order left at rest ≡ stopped r → Walks r
unfolding walk
walk_number order zero at rest r e = by (found order extension_limit at rest) refl e where
  by : (f : Found) → found order extension_limit at rest ≡ f → go_on f (λ x. listed []) ≡ stopped r → Walks r
  by ended h q = stopped_never (sym q)
  by (refused p) h q = let s : p ≡ r = cc in rw (← s) (found_number order extension_limit at rest p h)
  by (extension x) h q = stopped_never (sym q)
walk_number order (suc m) at rest r e = by (λ a l. walk_number order m a l r) (found order (before (suc m)) at rest) refl e where
  by : ((a : ℕ) (l : List ℕ) → walk order m a l ≡ stopped r → Walks r) → (f : Found) → found order (before (suc m)) at rest ≡ f
      → go_on f (λ x. onto x (walk order m (at + nat_abs x.size) (drop (nat_abs x.size) rest))) ≡ stopped r → Walks r
  by ih ended h q = stopped_never (sym q)
  by ih (refused p) h q = let s : p ≡ r = cc in rw (← s) (found_number order (before (suc m)) at rest p h)
  by ih (extension x) h q = ih (at + nat_abs x.size) (drop (nat_abs x.size) rest) (onto_stopped x _ r q)

pub extensions_number : (order : Order) (end : ℕ) (file : List ℕ) (r : Refusal) → extensions_in order end file ≡ stopped r → Walks r
unfolding extensions_in
extensions_number order end file r e = walk_number order extension_limit first_place (rest_of file end first_place) r e

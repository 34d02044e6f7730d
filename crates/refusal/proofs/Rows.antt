-- What a table decides: it accepts exactly when no row of it holds, it gives no number but its rows', and a table that follows
-- another is asked only where that one accepts. With the one law that takes an answer by a verdict apart again.
use Rattle.std.specs.Prelude.{Ok, Err}
use Prim.Native.Nat.{ℕ}
use mathlib.Core.Path.{◌≡◌, refl, sym}
use mathlib.Core.Bool.{Bool, true, false, cond, ◌&&◌, and-eq-true_iff}
use mathlib.Core.List.{List, [], ◌∷◌, ◌++◌}
use native.Mathlib.Omega.{arith}
use borrow.Author.Tests.{leb-true, le-leb}
use lib.Dec.{leb}
use Rattle.refusal.specs.Table.{Row, refusal, verdict, decided, then, Verdict, number_of, no_refusal}
use Rattle.refusal.specs.declared.Refusal.{Refusal}

-- accepted is not refused
pub refused_never {ℓ} : {A : Type ℓ} {r : Refusal} → Err r ≡ no_refusal → A
refused_never e = let z : ◌≡◌ {A = ℕ} 0 1 = cc in absurd (omega arith)

-- ---- An answer by a verdict

-- An answer that no refusal is made into tells that the verdict accepts, and an answer that accepting does not give, that it refuses.
module _ {ℓ} {A : Type ℓ} {a b : A} {f : Refusal → A} where
  pub decided_accepted : (v : Verdict) → ((r : Refusal) → f r ≡ b → ⊥) → decided v a f ≡ b → (v ≡ no_refusal) × (a ≡ b)
  decided_accepted (Ok tt) never e = (refl, e)
  decided_accepted (Err r) never e = absurd (never r e)

  pub decided-refused : (v : Verdict) → (a ≡ b → ⊥) → decided v a f ≡ b → (r : Refusal) × (v ≡ Err r) × (f r ≡ b)
  decided-refused (Ok tt) never e = absurd (never e)
  decided-refused (Err r) never e = (r, refl, e)

-- ---- Rows

-- no row of the list holds
pub data Clear : List Row → Type 0 where
  none : Clear []
  one : {r : Row} {rs : List Row} → r.test ≡ false → Clear rs → Clear (r ∷ rs)

pub clear_accepted : {rs : List Row} → Clear rs → verdict rs ≡ no_refusal
unfolding verdict
clear_accepted none = refl
clear_accepted (one e c) = rw e (clear_accepted c)

split : (t : Bool) (r : Refusal) (v : Verdict) → cond t (Err r) v ≡ no_refusal → (t ≡ false) × (v ≡ no_refusal)
split true r v e = refused_never e
split false r v e = (refl, e)

pub accepted_clear : (rs : List Row) → verdict rs ≡ no_refusal → Clear rs
unfolding verdict
accepted_clear [] e = none
accepted_clear (r ∷ rs) e =
    let s = split r.test (refusal r.rule r.place) (verdict rs) e in
    one s.0 (accepted_clear rs s.1)

then_cond : (t : Bool) (r : Refusal) (v w : Verdict) → cond t (Err r) (then v w) ≡ then (cond t (Err r) v) w
then_cond true r v w = refl
then_cond false r v w = refl

pub verdict-append : (rs qs : List Row) → verdict (rs ++ qs) ≡ then (verdict rs) (verdict qs)
unfolding verdict
verdict-append [] qs = refl
verdict-append (r ∷ rs) qs =
    rw (verdict-append rs qs) (then_cond r.test (refusal r.rule r.place) (verdict rs) (verdict qs))

-- all rows of two tables are clear exactly when those of each are
pub clear_append : {rs qs : List Row} → Clear rs → Clear qs → Clear (rs ++ qs)
clear_append none d = d
clear_append (one e c) d = one e (clear_append c d)

pub clear_split : (rs : List Row) {qs : List Row} → Clear (rs ++ qs) → Clear rs × Clear qs
clear_split [] c = (none, c)
clear_split (r ∷ rs) (one e c) = let p = clear_split rs c in (one e p.0, p.1)

-- ---- Numbers

-- a number from lo to hi
abbrev pub between : ℕ → ℕ → ℕ → Bool
between lo hi n = leb lo n && leb n hi

pub between_wider : (a b lo hi n : ℕ) → (leb lo a && leb b hi) ≡ true → between a b n ≡ true → between lo hi n ≡ true
between_wider a b lo hi n w e =
    let p = (and-eq-true_iff (leb lo a) (leb b hi)).0 w in
    let q = (and-eq-true_iff (leb a n) (leb n b)).0 e in
    let l = leb-true lo a p.0 in
    let h = leb-true b hi p.1 in
    let m = leb-true a n q.0 in
    let k = leb-true n b q.1 in
    (and-eq-true_iff (leb lo n) (leb n hi)).1 (le-leb lo n (omega arith), le-leb n hi (omega arith))

-- whether every row of a table has a number of a kind
abbrev pub numbers : (ℕ → Bool) → List Row → Bool
numbers p [] = true
numbers p (r ∷ rs) = p (number_of r.rule) && numbers p rs

row_number : (p : ℕ → Bool) (t : Bool) (r q : Refusal) (v : Verdict) → p (number_of r.rule) ≡ true → (v ≡ Err q → p (number_of q.rule) ≡ true)
    → cond t (Err r) v ≡ Err q → p (number_of q.rule) ≡ true
row_number p true r q v h k e = let s : r ≡ q = cc in rw (← s) h
row_number p false r q v h k e = k e

-- a refusal's number is that of a row of its table
pub verdict_number : (p : ℕ → Bool) (rs : List Row) (q : Refusal) → numbers p rs ≡ true → verdict rs ≡ Err q → p (number_of q.rule) ≡ true
unfolding verdict
verdict_number p [] q h e = refused_never (sym e)
verdict_number p (r ∷ rs) q h e =
    let b = (and-eq-true_iff (p (number_of r.rule)) (numbers p rs)).0 h in
    row_number p r.test (refusal r.rule r.place) q (verdict rs) b.0 (verdict_number p rs q b.1) e

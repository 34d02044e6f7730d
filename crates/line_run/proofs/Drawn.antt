-- A line more, and what a file's verdict says of them.
use Rattle.std.specs.Prelude.{Ok, Err, Result}
use Rattle.std.specs.Ordering.{ord_max, nat_cmp}
use Rattle.std.specs.Result.{result_unwrap_or}
use Rattle.std.proofs.lemmas.Grind.{common_steps}
use native.Mathlib.Omega.{arith}
use Rattle.refusal.specs.declared.Refusal.{Refusal}
use Prim.Native.Nat.{ℕ, ◌+◌, max}
use mathlib.Core.Path.{◌≡◌, refl}
use mathlib.Core.List.{List, []}
use native.Mathlib.Numerals.{add-one}
use Rattle.header.specs.declared.Header.{Header}
use Rattle.line.specs.Lines.{CopiesRecord}
use Rattle.line_run.specs.Drawn.{bytes_of, through, out_in, most_in}

max_is : (a b : ℕ) → ord_max nat_cmp a b ≡ max a b
max_is a b = grind (arith, common_steps)

bytes_is : (l : Result ℕ Refusal) → result_unwrap_or l 0 ≡ bytes_of l
bytes_is (Ok n) = refl
bytes_is (Err r) = refl

module _ (h : Header) (file : List ℕ) (axis : ℕ) (out : List ℕ) where
  -- after k lines
  abbrev pub Drawn : ℕ → List ℕ → ℕ → Type 0
  Drawn k o m = (o ≡ out_in h file axis k out) × (m ≡ most_in h file axis k out)

  pub drawn_none : Drawn 0 out 0
  unfolding out_in most_in
  drawn_none = (refl, refl)

  pub drawn_next : (k : ℕ) {o p : List ℕ} {m b r : ℕ} {l : Result ℕ Refusal} → Drawn k o m → CopiesRecord h file [] axis (through k) o l p → b ≡ result_unwrap_or l 0
      → r ≡ ord_max nat_cmp m b → Drawn (k + 1) p r
  unfolding out_in most_in
  drawn_next k {m = m} {b = b} {l = l} d c e f = rw (add-one k) (cc (d.0, c.1), cc (d.0, d.1, c.0, e, f, max_is m b, bytes_is l))

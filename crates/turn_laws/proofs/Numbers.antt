-- The numbers of the call's refusals (02-change-requests.md, P10): those of reading, 16, and then 22, 23, 29 and 30.
use Rattle.std.specs.Prelude.{Ok, Err, Result}
use Prim.Native.Nat.{ℕ}
use mathlib.Core.Path.{◌≡◌, refl}
use mathlib.Core.Bool.{Bool, true, ◌||◌}
use mathlib.Core.List.{List}
use native.Mathlib.Omega.{arith}
use lib.Dec.{eqb}
use lib.ListN.{length}
use Rattle.refusal.specs.declared.Refusal.{Refusal}
use Rattle.refusal.specs.Table.{verdict, then, Verdict, number_of}
use Rattle.refusal.proofs.Rows.{decided-refused, between, between_wider, verdict_number}
use Rattle.reader.specs.Reading.{reading_of}
use Rattle.reader.proofs.Theorems.{reading_number}
use Rattle.reorient.specs.declared.Turn.{Turn}
use Rattle.turn.specs.declared.Lengths.{Lengths}
use Rattle.turn.specs.Turned.{turn_rows, turn_verdict, turn_answer}

abbrev pub turn_number : ℕ → Bool
turn_number n = between 1 16 n || (eqb n 22 || (eqb n 23 || (eqb n 29 || eqb n 30)))

refused_made : {r : Refusal} {n : Lengths} → ◌≡◌ {A = Result Lengths Refusal} (Ok n) (Err r) → ⊥
refused_made e = let z : ◌≡◌ {A = ℕ} 0 1 = cc in omega arith

refused_same : (q r : Refusal) → ◌≡◌ {A = Result Lengths Refusal} (Err q) (Err r) → q ≡ r
refused_same q r e = cc

breaks_same : (q r : Refusal) → ◌≡◌ {A = Verdict} (Err q) (Err r) → q ≡ r
breaks_same q r e = cc

pub turn_number_lem : (file image : List ℕ) (t : Turn) (out out_image : ℕ) (r : Refusal) → turn_answer file image t out out_image ≡ Err r
    → turn_number (number_of r.rule) ≡ true
unfolding turn_answer turn_verdict
turn_number_lem file image t out out_image r e =
    let d = decided-refused (turn_verdict file image t out out_image) refused_made e in
    rw (← refused_same d.0 r d.2) (by d.0 (reading_of file).verdict refl d.1)
  where
    by : (q : Refusal) (v : Verdict) → (reading_of file).verdict ≡ v
        → then v (verdict (turn_rows (reading_of file).header t (length file) (length image) out out_image)) ≡ Err q → turn_number (number_of q.rule) ≡ true
    by q (Ok tt) h f = verdict_number turn_number (turn_rows (reading_of file).header t (length file) (length image) out out_image) q refl f
    by q (Err p) h f =
        let e : p ≡ q = breaks_same p q f in
        rw (between_wider 1 15 1 16 (number_of q.rule) refl (rw e at (reading_number file p h)))

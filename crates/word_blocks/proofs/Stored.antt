-- What is stored where it was loaded, unit by unit.
use Prim.Native.Nat.{ℕ, ◌+◌, ◌*◌, ◌≤◌}
use mathlib.Core.Path.{◌≡◌, sym, ap, ◌∙◌}
use mathlib.Core.List.{List, ◌++◌, append_assoc}
use native.Mathlib.Omega.{arith}
use lib.ListN.{length, take, drop, length-drop}
use lib.Seq.{sets, sets-eq, drop-drop, length-take-le}
use Rattle.field.proofs.Stores.{sets-next}
use Rattle.units.specs.Units.{turned, turned_at}
use Rattle.units.proofs.Units.{length-turned, turned_own, turned_split}

-- units that are stored where they were
pub sets-turned : (w n at : ℕ) (s v : List ℕ) → at + n * w ≤ length s → v ≡ turned w n (take (n * w) (drop at s)) → sets s at v ≡ turned_at w at n s
unfolding turned_at
sets-turned w n at s v room e =
    let d : List ℕ = drop at s in
    let size : length v ≡ n * w = ap length e ∙ length-turned w n (take (n * w) d) ∙ length-take-le (n * w) d (rw length-drop (omega arith)) in
    sets-eq v s at (rw size room)
    ∙ rw (size, append_assoc, ← drop-drop (n * w) at s, e) (ap (λ (x : List ℕ). take at s ++ x) (sym (turned_own w n d)))

-- one list behind another
pub two_stored : (at b : ℕ) (v u s s₁ s₂ : List ℕ) → length v ≡ b → s₁ ≡ sets s at v → s₂ ≡ sets s₁ (at + b) u → s₂ ≡ sets s at (v ++ u)
two_stored at b v u s s₁ s₂ e first second = second ∙ rw first (sets-next v u s at b e)

-- m units, which are b bytes, and n behind these
pub turned_join : (w at b m n : ℕ) (s s₁ s₂ : List ℕ) → m * w ≡ b → at + b ≤ length s → s₁ ≡ turned_at w at m s → s₂ ≡ turned_at w (at + b) n s₁
    → s₂ ≡ turned_at w at (m + n) s
turned_join w at b m n s s₁ s₂ e room first second =
    second ∙ (λ i. turned_at w (at + sym e i) n (first i)) ∙ sym (turned_split w at m n s (rw e room))

-- What `capped` of specs/Axes.antt keeps of a number: all that rule 10 asks of it, also of a product that is capped at each step.
use mathlib.Core.Path.{◌≡◌}
use mathlib.Core.Logic.{◌↔◌}
use Prim.Native.Nat.{ℕ, zero, suc, ◌+◌, ◌*◌, ◌≤◌, ◌<◌, zero-le, suc-le-suc}
use native.Mathlib.Omega.{arith, min_cases}
use native.Mathlib.Nat.{mul_comm, le-mul_of_pos_right}
use Rattle.grid.specs.Axes.{image_limit, capped}

le_mul_left : (i m : ℕ) → m ≤ suc i * m
le_mul_left i m = omega (arith, mul_comm (suc i) m, le-mul_of_pos_right {m = suc i} m (suc-le-suc zero-le))

pub capped_inside : (m : ℕ) → capped m ≤ image_limit → capped m ≡ m
capped_inside m h = omega arith

pub capped_above : (m : ℕ) → (image_limit < capped m) ↔ (image_limit < m)
capped_above m = (λ h. omega arith, λ h. omega arith)

pub capped_times : (m d : ℕ) → capped (capped m * d) ≡ capped (m * d)
capped_times m zero = omega arith
capped_times m (suc d) =
    let grows : m ≤ m * suc d = le-mul_of_pos_right m (suc-le-suc zero-le) in
    min_cases m (image_limit + 1) (capped (capped m * suc d) ≡ capped (m * suc d))
    (λ _ e. rw e)
    (λ l e. rw e (omega arith))

-- of a sum with such a product in it
pub capped-sum : (r i m x : ℕ) → capped (r + i * capped m + x) ≡ capped (r + (i * m + x))
capped-sum r zero m x = omega arith
capped-sum r (suc i) m x =
    min_cases m (image_limit + 1) (capped (r + suc i * capped m + x) ≡ capped (r + (suc i * m + x)))
    (λ _ d. rw d (omega arith))
    (λ l d.
    let a : m ≤ suc i * m = le_mul_left i m in
    let b : image_limit + 1 ≤ suc i * (image_limit + 1) = le_mul_left i (image_limit + 1) in
    rw d (omega arith))

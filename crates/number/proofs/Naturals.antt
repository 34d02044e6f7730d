-- A signed number and the natural number that it states.
use mathlib.Core.Path.{◌≡◌, refl}
use mathlib.Core.Bool.{Bool, true, false, true≢false}
use Prim.Native.Nat.{ℕ, ◌≤◌, ◌<◌}
use native.Mathlib.Omega.{arith}
use lib.IntN.{ℤ, pos, negsuc}
use lib.Dec.{ltb}
use lib.Signed.{lt_z, mag}
use borrow.Author.Tests.{ltb-true}
use mir.Syntax.{Width, w16}
use mir.Val.{SFits, to_z, of_z}
use mir.Facts.{to_z-of_z}
use Rattle.number.specs.Natural.{natural_of}

-- whatever 16 bits it has, it is below half of what they count to
pub natural_half : (n : ℕ) → natural_of (to_z w16 n) < 32768
natural_half n = by (ltb n 32768) refl
  where
    by : (t : Bool) → ltb n 32768 ≡ t → natural_of (to_z w16 n) < 32768
    by true e = rw e (ltb-true n 32768 e)
    by false e = rw e (omega arith)

-- Of any width: what the test for a negative number, which is made on its bits, says of it.
module _ (w : Width) (z : ℤ) (fits : SFits w z) where
  back : to_z w (of_z w z) ≡ z
  back = to_z-of_z fits

  pub natural_negative : lt_z (to_z w (of_z w z)) (pos 0) ≡ true → natural_of z ≡ 0
  natural_negative t = by z (rw back at t)
    where
      by : (y : ℤ) → lt_z y (pos 0) ≡ true → natural_of y ≡ 0
      by (pos n) t = let l : n < 0 = ltb-true n 0 t in omega arith
      by (negsuc n) t = refl

  pub natural_same : lt_z (to_z w (of_z w z)) (pos 0) ≡ false → (to_z w (of_z w z) ≡ pos (natural_of z)) × (natural_of z ≤ mag z)
  natural_same t = rw back (by z (rw back at t))
    where
      by : (y : ℤ) → lt_z y (pos 0) ≡ false → (y ≡ pos (natural_of y)) × (natural_of y ≤ mag y)
      by (pos n) t = (refl, omega arith)
      by (negsuc n) t = absurd (true≢false t)

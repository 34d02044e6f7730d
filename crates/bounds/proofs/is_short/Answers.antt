-- `is_short` meets its contract: where the file reaches the image, what follows the offset is compared with the image alone.
use Prim.Native.Nat.{ℕ, ◌+◌, ◌-◌, ◌≤◌}
use mathlib.Core.Path.{◌≡◌, refl, sym, ◌∙◌}
use mathlib.Core.Bool.{Bool, true, false}
use native.Mathlib.Omega.{arith}
use borrow.Author.Tests.{lt-ltb, le-ltb, ltb-true, ltb-false}
use lib.Dec.{ltb}
use Rattle.bounds.proofs.is_short.Goals as goal

past-offset : (n offset bytes : ℕ) → offset ≤ n → ltb (n - offset) bytes ≡ ltb n (offset + bytes)
past-offset n offset bytes h = by (ltb n (offset + bytes)) refl
  where
    by : (t : Bool) → ltb n (offset + bytes) ≡ t → ltb (n - offset) bytes ≡ ltb n (offset + bytes)
    by true e = let l = ltb-true n (offset + bytes) e in lt-ltb (n - offset) bytes (omega arith) ∙ sym e
    by false e = let l = ltb-false n (offset + bytes) e in le-ltb (n - offset) bytes (omega arith) ∙ sym e

pub returns-then-n-image : goal.returns-then-n-image
returns-then-n-image c = let a = c.args in sym (lt-ltb a.len (a.image.offset + a.image.bytes) (omega arith))

pub returns-else-n-image : goal.returns-else-n-image
returns-else-n-image c = let a = c.args in past-offset a.len a.image.offset a.image.bytes (omega arith)

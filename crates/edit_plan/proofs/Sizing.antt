-- The stored extension E: it has as many bytes as its size says, and with a code that is not negative it is complete.
use Prim.Native.Nat.{ℕ, ◌+◌, ◌-◌, ◌<◌}
use mathlib.Core.Path.{◌≡◌, refl}
use mathlib.Core.Bool.{false}
use mathlib.Core.List.{List, [], ◌++◌}
use native.Mathlib.Omega.{arith}
use lib.IntN.{ℤ, pos}
use lib.ListN.{length, replicate, length-append, length-replicate}
use lib.Signed.{lt_z}
use mir.Syntax.{w32}
use mir.Val.{SFits, of_z}
use mir.ValLaws.{to_z_pos, to_z-of_z, of_z_fits}
use Rattle.field.specs.declared.Order.{Order}
use Rattle.field.specs.Numbers.{bytes_of, u32_at}
use Rattle.field.proofs.Inverse.{word_at}
use Rattle.field.proofs.Stores.{length-bytes_of}
use Rattle.extension.specs.Pieces.{Complete}
use Rattle.change.specs.Change.{size_for}
use Rattle.edit_plan.specs.Fresh.{stored}

pub length-stored : (order : Order) (code : ℤ) (p : List ℕ) → length (stored order code p) ≡ size_for (length p)
unfolding stored
length-stored order code p = simp (length-append, length-bytes_of, length-replicate) (omega arith)

pub stored_complete : (order : Order) (code : ℤ) (p : List ℕ) → SFits w32 code → lt_z code (pos 0) ≡ false → size_for (length p) < 2147483648
    → Complete order (stored order code p)
unfolding stored
stored_complete order code p f c h =
    let n = size_for (length p) in
    let l = length-stored order code p in
    let rest = p ++ replicate (n - (length p + 8)) 0 in
    let cf = (of_z_fits w32 code f).fits in
    let first : u32_at order (stored order code p) 0 ≡ n = word_at order [] (bytes_of order 4 (of_z w32 code) ++ rest) n 0 refl (omega arith) in
    let second : u32_at order (stored order code p) 4 ≡ of_z w32 code =
    word_at order (bytes_of order 4 n) rest (of_z w32 code) 4 (length-bytes_of order 4 n) cf in
    record {
      size = rw (first, l) (to_z_pos w32 n h);
      least = rw l (omega arith);
      units = rw l (omega arith);
      code = rw (second, to_z-of_z w32 code f) c;
    }

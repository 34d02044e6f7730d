-- `is_four` meets its contract: bytes are the same exactly when their numbers are.
use Prim.Native.Nat.{ℕ, ◌<◌}
use mathlib.Core.Path.{refl}
use mathlib.Core.List.{[], ◌∷◌}
use lib.ListN.{get_or}
use Rattle.field.proofs.Inverse.{Bytes, none, one}
use Rattle.layout.proofs.Starting.{same_word}
use Rattle.layout.proofs.is_four.Goals as goal

pub returns : goal.returns
returns c =
    let a = c.args in
    let byte : (i : ℕ) → get_or a.file.now i 0 < 256 = λ i. (c.shared_slice_known-1.given i).fits in
    let these : Bytes (a.a ∷ a.b ∷ a.c ∷ a.d ∷ []) =
    one c.ranges.a.fits (one c.ranges.b.fits (one c.ranges.c.fits (one c.ranges.d.fits none))) in
    rw (c.word_at.ensures, c.word_of.ensures) (same_word a.file.now byte a.at these refl)

-- `dims_after` meets its contract: the axes of a permutation are 1 to 3, and the entries are laid out by proofs/Made.antt.
use mathlib.Core.Path.{◌≡◌, ap}
use mathlib.Core.List.{◌∷◌}
use native.Mathlib.Omega.{arith}
use lib.ListN.{get_or}
use lib.IntN.{ℤ, pos}
use Prim.Native.Nat.{◌<◌, ◌^◌}
use lib.Signed.{mag}
use mir.Syntax.{w16}
use mir.Val.{hbits, to_z, of_z}
use mir.ValLaws.{to_z-of_z}
use Rattle.reorient_header.specs.After.{entries_after}
use Rattle.reorient_header.proofs.Made.{entries}
use Rattle.reorient_header.proofs.dims_after.Goals as goal

-- a number of an array of signed numbers fits its width
same : (z : ℤ) → mag z < 2 ^ hbits w16 → to_z w16 (of_z w16 z) ≡ z
same z h = to_z-of_z w16 z (record { sfits = h })

pub returns : goal.returns
unfolding entries_after
returns c =
    let a = c.args in
    rw (
      same (get_or a.dim 0 (pos 0)) c.result-1.given,
      same (get_or a.dim a.t.axis1 (pos 0)) c.result-2-1.given,
      same (get_or a.dim a.t.axis2 (pos 0)) c.result-3-1.given,
      same (get_or a.dim a.t.axis3 (pos 0)) c.result-4-1.given,
      same (get_or a.dim 4 (pos 0)) c.result-5-1.given,
      same (get_or a.dim 5 (pos 0)) c.result-6-1.given,
      same (get_or a.dim 6 (pos 0)) c.result-7-1.given,
      same (get_or a.dim 7 (pos 0)) c.result-8-1.given,
    )
    (ap (λ l. get_or a.dim 0 (pos 0) ∷ l) (entries a.dim (pos 0) a.t c.requires (omega arith)))

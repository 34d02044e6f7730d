-- `pixdims_after` meets its contract: the axes of a permutation are 1 to 3, and the entries are laid out by proofs/Made.antt.
use mathlib.Core.Path.{ap}
use mathlib.Core.List.{◌∷◌}
use native.Mathlib.Omega.{arith}
use lib.ListN.{get_or}
use Rattle.reorient_header.specs.After.{entries_after}
use Rattle.reorient_header.proofs.Made.{entries}
use Rattle.reorient_header.proofs.pixdims_after.Goals as goal

pub returns : goal.returns
unfolding entries_after
returns c =
    let a = c.args in
    ap (λ l. get_or a.pixdim 0 0 ∷ l) (entries a.pixdim 0 a.t c.requires (omega arith))

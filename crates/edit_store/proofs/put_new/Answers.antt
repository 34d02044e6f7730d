-- `put_new` meets its contract: a removal writes nothing.
use mathlib.Core.Path.{◌≡◌, sym, ap}
use native.Mathlib.Omega.{arith}
use lib.ListN.{length}
use Rattle.buffer.proofs.Laws.{put_nil}
use Rattle.change.specs.declared.Change.{Change}
use Prim.Native.Nat.{ℕ}
use Rattle.std.proofs.Common.{◌⊎◌, inl, inr}
use Rattle.change.specs.declared.Change.TheVariants.{Append, Replace}
use Rattle.change.specs.Change.{new_size, size_for}
use Rattle.edit_plan.proofs.Planning.{length_new}
use Rattle.edit_store.proofs.put_new.Goals as goal

-- an edit that brings something in brings in the payload's extension
brought : {change : Change} → (change ≡ Append) ⊎ ((k : ℕ) × (change ≡ Replace k)) → (n : ℕ) → new_size change n ≡ size_for n
brought (inl e) n = ap (λ (x : Change). new_size x n) e
brought (inr (k, e)) n = ap (λ (x : Change). new_size x n) e

pub put_extension-requires : goal.put_extension-requires
put_extension-requires c =
    let a = c.args in
    let n = length_new a.order a.change a.code a.payload.now in
    let z = brought c.in-Append.is (length a.payload.now) in
    (omega (arith, c.requires.0, n, z), omega (arith, c.requires.1, n, z))

pub returns-in-Remove : goal.returns-in-Remove
returns-in-Remove c =
    let a = c.args in
    rw c.in-Remove.is (sym (put_nil a.buf.now a.at))

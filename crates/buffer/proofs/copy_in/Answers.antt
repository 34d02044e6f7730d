-- `copy_in` meets its contract: the bytes copied so far stand in the buffer, and each turn stores one more right behind them.
use mathlib.Core.Path.{◌≡◌, refl, sym}
use Prim.Native.Nat.{◌+◌}
use native.Mathlib.Numerals.{add-one}
use native.Mathlib.Omega.{arith}
use mathlib.Core.List.{[], ◌∷◌, ◌++◌}
use lib.ListN.{length, get_or, take, length-set}
use lib.Seq.{length-take-le, take-suc, take_all}
use Rattle.buffer.proofs.Laws.{put_nil}
use Rattle.buffer.proofs.Moves.{store_next}
use Rattle.buffer.proofs.copy_in.Goals as goal

pub loop-j-init : goal.loop-j-init
loop-j-init c = (sym (put_nil c.args.buf.now c.args.at), refl)

pub loop-j-preserved : goal.loop-j-preserved
loop-j-preserved c =
    let v = c.loop-j in
    let a = c.args in
    let s = a.src.now in
    let n : length (take v.j s) ≡ v.j = length-take-le v.j s (omega arith) in
    let more : take (v.j + 1) s ≡ take v.j s ++ (get_or s v.j 0 ∷ []) = rw add-one (take-suc s v.j 0 (omega arith)) in (
      rw more (store_next a.buf.now a.at (take v.j s) v.buf (a.at + v.j) _ v.invariant.0 (omega arith) (omega arith)),
      simp length-set v.invariant.1,
    )

pub returns : goal.returns
returns c =
    let v = c.loop-j in
    let s = c.args.src.now in
    let all : take v.j s ≡ s = take_all v.j s (omega arith) in
    rw all at v.invariant.0

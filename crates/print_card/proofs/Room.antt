-- A card that is written fits the buffer: else the answer is 22.
use Rattle.refusal.specs.declared.Rule.TheVariants.{ShortBuffer}
use Rattle.std.specs.Prelude.{Ok, Err}
use mathlib.Core.Path.{◌≡◌, refl}
use mathlib.Core.Bool.{Bool, true, false}
use mathlib.Core.List.{List, [], ◌∷◌}
use Prim.Native.Nat.{ℕ, ◌≤◌}
use native.Mathlib.Omega.{arith}
use borrow.Author.Tests.{ltb-false}
use lib.Dec.{ltb}
use lib.ListN.{length}
use Rattle.refusal.specs.Table.{row, verdict, then, Verdict}
use Rattle.buffer.specs.Fill.{filled_by}
use Rattle.reader.specs.declared.Reading.{Reading}
use Rattle.slice_card.specs.Card.{card_of, card_answer}

-- an answer of a length says that no row held, and which length it is
taken : (v : Verdict) (b : Bool) (text : List ℕ) (n : ℕ)
    → filled_by (then v (verdict (row ShortBuffer b 0 ∷ []))) text ≡ Ok n → (b ≡ false) × (length text ≡ n)
unfolding verdict
taken (Err r) b text n e = cc
taken (Ok tt) true text n e = cc
taken (Ok tt) false text n e = (refl, cc)

pub written_fits : (r : Reading) (len n : ℕ) → card_answer r len ≡ Ok n → n ≤ len
unfolding card_answer
written_fits r len n e =
    let t = taken r.verdict (ltb len (length (card_of r))) (card_of r) n e in
    omega (arith, t.1, ltb-false len (length (card_of r)) t.0)

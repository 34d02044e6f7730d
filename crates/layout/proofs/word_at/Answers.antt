-- `word_at` meets its contract: four bytes that are read one by one, zeros past the end, make the same number.
use Prim.Native.Nat.{◌+◌}
use mathlib.Core.Path.{◌≡◌, ◌∙◌}
use mathlib.Core.List.{[], ◌∷◌}
use native.Mathlib.Omega.{arith}
use lib.ListN.{get_or}
use Rattle.field.specs.Numbers.{little_value, u32_at}
use Rattle.layout.proofs.word_at.Goals as goal

pub returns : goal.returns
unfolding u32_at
returns c =
    let a = c.args in
    let from : a.at ≡ a.at + 0 = omega arith in
    c.word_of.ensures
    ∙ (λ i.
    little_value
    ((c.byte_at-a.ensures ∙ (λ j. get_or a.file.now (from j) 0)) i
    ∷ c.byte_at-b.ensures i
    ∷ c.byte_at-c.ensures i
    ∷ c.byte_at-d.ensures i
    ∷ []))

-- `slot_at` meets its contract: the span's start, and its size as an unsigned number.
use mathlib.Core.Path.{◌≡◌, ap, ◌∙◌}
use mir.Syntax.{w32}
use mir.Val.{to_z, of_z}
use borrow.Author.Rules.{rules}
use Rattle.change.proofs.slot_at.Goals as goal

pub returns : goal.returns
returns c =
    let x = c.args.span in
    let same : to_z w32 (of_z w32 x.size) ≡ x.size = search rules in
    let old : c.cast_unsigned.result ≡ of_z w32 x.size = c.cast_unsigned.ensures ∙ ap (of_z w32) same in
    λ i. record { at = x.start; old = old i }

-- `write_display` meets its contract: its stores, one after the other, are those of `display_bytes`.
use mathlib.Core.Path.{◌≡◌}
use mir.Syntax.{w32}
use mir.Val.{to_z, of_z}
use Rattle.field.proofs.Stores.{sets_split, length-bytes_of, length-padded}
use Rattle.encode.specs.Encode.{display_bytes}
use borrow.Author.Rules.{rules}
use Rattle.encode.proofs.write_display.Goals as goal

pub returns : goal.returns
unfolding display_bytes
returns c =
    let g =
    c.args.g in
    let glmax-same : to_z w32 (of_z w32 g.glmax) ≡ g.glmax = search rules in
    let glmin-same : to_z w32 (of_z w32 g.glmin) ≡ g.glmin = search rules in
    rw (
      c.put_bytes-2.ensures,
      c.put_bytes.ensures,
      c.put-6.ensures,
      c.put-5.ensures,
      c.put-4.ensures,
      c.put-3.ensures,
      c.put-2.ensures,
      c.put.ensures,
    )
    (simp (sets_split, length-bytes_of, length-padded, glmax-same, glmin-same))

-- `write_scale` meets its contract: its stores, one after the other, are those of `scale_bytes`.
use mathlib.Core.Path.{◌≡◌}
use mir.Syntax.{w16}
use mir.Val.{to_z, of_z}
use Rattle.field.proofs.Stores.{sets_split, length-bytes_of, length_u32s}
use Rattle.field.specs.Numbers.{u32s_bytes}
use Rattle.encode.specs.Encode.{scale_bytes}
use borrow.Author.Rules.{rules}
use Rattle.encode.proofs.write_scale.Goals as goal

pub returns : goal.returns
unfolding scale_bytes u32s_bytes
returns c =
    let g =
    c.args.g in
    let slice-end-same : to_z w16 (of_z w16 g.slice_end) ≡ g.slice_end = search rules in
    rw (
      c.put_byte-2.ensures,
      c.put_byte.ensures,
      c.put-4.ensures,
      c.put-3.ensures,
      c.put-2.ensures,
      c.put.ensures,
      c.put_numbers.ensures,
    )
    (simp (sets_split, length-bytes_of, length_u32s, slice-end-same))

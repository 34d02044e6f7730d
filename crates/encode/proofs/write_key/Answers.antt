-- `write_key` meets its contract: its stores, one after the other, are those of `key_bytes`.
use mathlib.Core.Path.{◌≡◌}
use mir.Syntax.{w16, w32}
use mir.Val.{to_z, of_z}
use Rattle.field.proofs.Stores.{sets_split, length-bytes_of, length-padded}
use Rattle.encode.specs.Encode.{key_bytes}
use borrow.Author.Rules.{rules}
use Rattle.encode.proofs.write_key.Goals as goal

pub returns : goal.returns
unfolding key_bytes
returns c =
    let g =
    c.args.g in
    let extents-same : to_z w32 (of_z w32 g.extents) ≡ g.extents = search rules in
    let session-error-same : to_z w16 (of_z w16 g.session_error) ≡ g.session_error = search rules in
    rw (
      c.put_byte-2.ensures,
      c.put_byte.ensures,
      c.put-2.ensures,
      c.put.ensures,
      c.put_bytes-2.ensures,
      c.put_bytes.ensures,
      c.put_size.ensures,
    )
    (simp (sets_split, length-bytes_of, length-padded, extents-same, session-error-same))

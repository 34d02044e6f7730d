-- `write_intent` meets its contract: its stores, one after the other, are those of `intent_bytes`.
use mathlib.Core.Path.{◌≡◌}
use mir.Syntax.{w16}
use mir.Val.{to_z, of_z}
use Rattle.field.proofs.Stores.{sets_split, length-bytes_of}
use Rattle.encode.specs.Encode.{intent_bytes}
use borrow.Author.Rules.{rules}
use Rattle.encode.proofs.write_intent.Goals as goal

pub returns : goal.returns
unfolding intent_bytes
returns c =
    let g =
    c.args.g in
    let intent-code-same : to_z w16 (of_z w16 g.intent_code) ≡ g.intent_code = search rules in
    let datatype-same : to_z w16 (of_z w16 g.datatype) ≡ g.datatype = search rules in
    let bitpix-same : to_z w16 (of_z w16 g.bitpix) ≡ g.bitpix = search rules in
    let slice-start-same : to_z w16 (of_z w16 g.slice_start) ≡ g.slice_start = search rules in
    rw (
      c.put-7.ensures,
      c.put-6.ensures,
      c.put-5.ensures,
      c.put-4.ensures,
      c.put-3.ensures,
      c.put-2.ensures,
      c.put.ensures,
    )
    (simp (sets_split, length-bytes_of, intent-code-same, datatype-same, bitpix-same, slice-start-same))

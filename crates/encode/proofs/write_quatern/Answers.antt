-- `write_quatern` meets its contract: its stores, one after the other, are those of `quatern_bytes`.
use mathlib.Core.Path.{◌≡◌}
use mir.Syntax.{w16}
use mir.Val.{to_z, of_z}
use Rattle.field.proofs.Stores.{sets_split, length-bytes_of}
use Rattle.encode.specs.Encode.{quatern_bytes}
use borrow.Author.Rules.{rules}
use Rattle.encode.proofs.write_quatern.Goals as goal

pub returns : goal.returns
unfolding quatern_bytes
returns c =
    let g = c.args.g in
    let qform-code-same : to_z w16 (of_z w16 g.qform_code) ≡ g.qform_code = search rules in
    let sform-code-same : to_z w16 (of_z w16 g.sform_code) ≡ g.sform_code = search rules in
    rw (
      c.put-8.ensures,
      c.put-7.ensures,
      c.put-6.ensures,
      c.put-5.ensures,
      c.put-4.ensures,
      c.put-3.ensures,
      c.put-2.ensures,
      c.put.ensures,
    )
    (simp (sets_split, length-bytes_of, qform-code-same, sform-code-same))

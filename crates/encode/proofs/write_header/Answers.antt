-- `write_header` meets its contract: the groups, written one after the other, are `encode`'s bytes.
use Rattle.field.proofs.Stores.{sets_split, length_i16s}
use Rattle.field.specs.Numbers.{i16s_bytes}
use Rattle.encode.specs.Encode.{encode, dim_bytes}
use Rattle.encode.proofs.Widths.{length_key, length_intent, length_scale, length_display, length_quatern}
use Rattle.encode.proofs.write_header.Goals as goal

pub returns : goal.returns
unfolding encode dim_bytes i16s_bytes
returns c =
    rw (
      c.write_rows.ensures,
      c.write_quatern.ensures,
      c.write_display.ensures,
      c.write_scale.ensures,
      c.write_intent.ensures,
      c.put_numbers.ensures,
      c.write_key.ensures,
    )
    (simp (sets_split, length_key, length_i16s, length_intent, length_scale, length_display, length_quatern))

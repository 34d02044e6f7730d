-- `write_rows` meets its contract: its stores, one after the other, are those of `rows_bytes`.
use Rattle.field.proofs.Stores.{sets_split, length-padded, length_u32s}
use Rattle.field.specs.Numbers.{u32s_bytes}
use Rattle.encode.specs.Encode.{rows_bytes}
use Rattle.encode.proofs.write_rows.Goals as goal

pub returns : goal.returns
unfolding rows_bytes u32s_bytes
returns c =
    rw (c.put_magic.ensures, c.put_bytes.ensures, c.put_numbers-3.ensures, c.put_numbers-2.ensures, c.put_numbers.ensures)
    (simp (sets_split, length-padded, length_u32s))

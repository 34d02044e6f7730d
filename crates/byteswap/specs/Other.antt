-- What a swapped file comes to: its reading is the old one in the other byte order, every number and text of the record as it was.
use Rattle.field.specs.Numbers.{other}
use Rattle.header.specs.Fields.{in_order}
use Rattle.reader.specs.declared.Reading.{Reading}

abbrev pub read_in_other : Reading → Reading
read_in_other r = record { verdict = r.verdict; header = in_order (other r.header.order) r.header; image = r.image }

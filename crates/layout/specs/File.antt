-- What is judged of a file's header and its length: the refusal table, rules 1 to 12, in its order (01-scope.md, "Refusal numbers", "The
-- header rules", "Extensions"); and what its extender says (02-change-requests.md, P2).
use Rattle.refusal.specs.declared.Rule.TheVariants.{ShortHeader, AxisCount, HeaderSize, UnknownMagic, FileCut, ExtenderCut}
use Rattle.refusal.specs.declared.Refusal.{Refusal}
use Rattle.std.specs.Prelude.{ℕ, Bool, false, not, cond, ◌&&◌, ◌||◌, List, [], ◌∷◌, ◌++◌, ltb, eqb, length, get_or, Ok, Err, Result}
use Rattle.field.specs.declared.Order.{Order}
use Rattle.field.specs.declared.Order.TheVariants.{Little, Big}
use Rattle.field.specs.Numbers.{bytes_at, u32_at, i16_at, i32_at, i16s_at}
use Rattle.refusal.specs.Table.{Row, row, verdict, decided}
use Rattle.number.specs.Same.{same_numbers}
use Rattle.datatype.specs.Datatypes.{is_number}
use Rattle.header.specs.declared.Kind.{Kind}
use Rattle.header.specs.declared.Kind.TheVariants.{Single, Pair}
use Rattle.header.specs.Fields.{magic_of}
use Rattle.rules.specs.declared.Shape.{Shape}
use Rattle.rules.specs.declared.Image.{Image}
use Rattle.rules.specs.Rules.{one_to_seven, field_rows, image_of, aligned_in, cut_short, region_end}
use Rattle.layout.specs.declared.Layout.{Layout}

-- dim[0], as it reads in a byte order, is in 1..7
unfoldable pub holds_in : Order → List ℕ → Bool
holds_in order s = one_to_seven (i16_at order s 40)

-- "The byte order is the one in which dim[0] is in 1..7."
unfoldable pub order_of : List ℕ → Order
order_of s = cond (holds_in Little s) Little Big

-- the magic: n+1 of a single file, ni1 of a pair
unfoldable pub has_magic : Kind → List ℕ → Bool
has_magic kind s = same_numbers (bytes_at 344 4 s) (magic_of kind)

unfoldable pub kind_of : List ℕ → Kind
kind_of s = cond (has_magic Single s) Single Pair

-- rules 1 to 4. Here and below `len` is the file's length, and of its bytes s the first 348 are enough.
abbrev pub head_rows : List ℕ → ℕ → List Row
head_rows s len =
    row ShortHeader (ltb len 348) 0
    ∷ row AxisCount (not (holds_in Little s || holds_in Big s)) 40
    ∷ row HeaderSize (not (is_number (i32_at (order_of s) s 0) 348)) 0
    ∷ row UnknownMagic (not (has_magic Single s || has_magic Pair s)) 344
    ∷ []

-- what is known of a file that these pass: its byte order and kind
abbrev pub started : Order → Kind → Result (Order × Kind) Refusal
started order kind = Ok (order, kind)

unfoldable pub start_in : List ℕ → ℕ → Result (Order × Kind) Refusal
start_in s len = decided (verdict (head_rows s len)) (started (order_of s) (kind_of s)) Err

-- the fields that rules 5 to 10 judge, in an order
unfoldable pub shape_in : Order → Kind → List ℕ → Shape
shape_in order kind s =
    record {
      kind = kind;
      dim = i16s_at order s 40 8;
      datatype = i16_at order s 70;
      bitpix = i16_at order s 72;
      vox_offset = u32_at order s 108;
    }

abbrev pub shape_of : List ℕ → Shape
shape_of s = shape_in (order_of s) (kind_of s) s

-- the four bytes at 348. "A pair's header file of 348 bytes has extender 0,0,0,0": past the end there are zeros.
abbrev pub extender_of : List ℕ → List ℕ
extender_of s = bytes_at 348 4 s

-- "first byte zero means none, anything else means extensions"
abbrev pub says_some : List ℕ → Bool
says_some extender = not (eqb (get_or extender 0 0) 0)

unfoldable pub has_extensions : List ℕ → Bool
has_extensions s = says_some (extender_of s)

-- "the others are reserved": the extender's last three bytes
abbrev pub reserved_of : List ℕ → List ℕ
reserved_of s = bytes_at 349 3 s

-- The base's tests, before P2: 0,0,0,0 is none and 1,0,0,0 is some, and its rule 12 refused any other extender. The law `base_reads`
-- (base_extender/Theorems) says what became of the files that pass them.
abbrev pub base_none : List ℕ → Bool
base_none s = same_numbers (extender_of s) (0 ∷ 0 ∷ 0 ∷ 0 ∷ [])

abbrev pub base_some : List ℕ → Bool
base_some s = same_numbers (extender_of s) (1 ∷ 0 ∷ 0 ∷ 0 ∷ [])

-- rule 12: "12 remains only for lengths 349..351", of a pair
abbrev pub cut_extender : Kind → ℕ → Bool
cut_extender Single len = false
cut_extender Pair len = ltb 348 len && ltb len 352

-- rules 11 and 12
abbrev pub end_rows : Kind → Image → ℕ → List Row
end_rows kind image len = row FileCut (cut_short kind len image) 108 ∷ row ExtenderCut (cut_extender kind len) 348 ∷ []

-- rules 1 to 12
abbrev pub rows_in : List ℕ → ℕ → List Row
rows_in s len = head_rows s len ++ (field_rows (shape_of s) len ++ end_rows (kind_of s) (image_of (shape_of s)) len)

abbrev pub file_rows : List ℕ → List Row
file_rows s = rows_in s (length s)

-- whether a file's voxel offset is aligned, as the offset's reading says (02-change-requests.md, P6)
abbrev pub aligned_file : List ℕ → Bool
aligned_file s = aligned_in (shape_of s)

-- what is known of a file that these pass: its byte order, its kind, where its image is and whether that is aligned
abbrev pub layout_of : List ℕ → Layout
layout_of s = record { order = order_of s; kind = kind_of s; image = image_of (shape_of s); aligned = aligned_file s }

unfoldable pub checked_in : List ℕ → ℕ → Result Layout Refusal
checked_in s len = decided (verdict (rows_in s len)) (Ok (layout_of s)) Err

abbrev pub checked_of : List ℕ → Result Layout Refusal
checked_of s = checked_in s (length s)

-- where the region of the extensions ends in a whole file
unfoldable pub end_of : List ℕ → ℕ
end_of s = region_end (kind_of s) (image_of (shape_of s)) (length s)

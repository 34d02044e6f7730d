-- How many bytes each group takes: 348 in all.
use mathlib.Core.Path.{◌≡◌, refl}
use mathlib.Core.List.{List}
use lib.IntN.{ℤ}
use lib.ListN.{length, length-append}
use Rattle.field.specs.declared.Order.{Order}
use Rattle.field.proofs.Stores.{length-bytes_of, length-padded, length_u32s, length_i16s}
use Rattle.header.specs.declared.Header.{Header}
use Rattle.header.specs.declared.Kind.{Kind}
use Rattle.header.specs.declared.Kind.TheVariants.{Single, Pair}
use Rattle.header.specs.declared.Key.{Key}
use Rattle.header.specs.declared.Intent.{Intent}
use Rattle.header.specs.declared.Scale.{Scale}
use Rattle.header.specs.declared.Display.{Display}
use Rattle.header.specs.declared.Quatern.{Quatern}
use Rattle.header.specs.declared.Rows.{Rows}
use Rattle.header.specs.Fields.{magic_of}
use Rattle.encode.specs.Encode.{encode, key_bytes, dim_bytes, intent_bytes, scale_bytes, display_bytes, quatern_bytes, rows_bytes}

length_magic : (kind : Kind) → length (magic_of kind) ≡ 4
length_magic Single = refl
length_magic Pair = refl

pub length_key : (order : Order) (g : Key) → length (key_bytes order g) ≡ 40
unfolding key_bytes
length_key order g = simp (length-append, length-bytes_of, length-padded)

pub length_dim : (order : Order) (dim : List ℤ) → length (dim_bytes order dim) ≡ 16
unfolding dim_bytes
length_dim order dim = simp length_i16s

pub length_intent : (order : Order) (g : Intent) → length (intent_bytes order g) ≡ 20
unfolding intent_bytes
length_intent order g = simp (length-append, length-bytes_of)

pub length_scale : (order : Order) (g : Scale) → length (scale_bytes order g) ≡ 48
unfolding scale_bytes
length_scale order g = simp (length-append, length-bytes_of, length_u32s)

pub length_display : (order : Order) (g : Display) → length (display_bytes order g) ≡ 128
unfolding display_bytes
length_display order g = simp (length-append, length-bytes_of, length-padded)

pub length_quatern : (order : Order) (g : Quatern) → length (quatern_bytes order g) ≡ 28
unfolding quatern_bytes
length_quatern order g = simp (length-append, length-bytes_of)

pub length_rows : (order : Order) (kind : Kind) (g : Rows) → length (rows_bytes order kind g) ≡ 68
unfolding rows_bytes
length_rows order kind g = simp (length-append, length_u32s, length-padded, length_magic)

pub length-encode : (h : Header) → length (encode h) ≡ 348
unfolding encode
length-encode h = simp (length-append, length_key, length_dim, length_intent, length_scale, length_display, length_quatern, length_rows)

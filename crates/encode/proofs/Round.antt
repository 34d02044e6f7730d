-- The round trip (01-scope.md, demand 2: "Writing the record gives the same 348 bytes"): a file's record, written back in the
-- file's own byte order and kind, is the file's first 348 bytes, where it states 348 and the kind's magic.
use Prim.Native.Nat.{ℕ, ◌≤◌, ◌<◌}
use mathlib.Core.Path.{◌≡◌}
use mathlib.Core.List.{List}
use lib.IntN.{pos}
use lib.ListN.{length, get_or, take}
use Rattle.field.specs.declared.Order.{Order}
use Rattle.field.specs.Numbers.{bytes_at, bytes_of, padded, i32_at, i16s_at, u32s_bytes, i16s_bytes}
use Rattle.field.proofs.Inverse.{u32_back, i32_back, i16_back}
use Rattle.field.proofs.Tabulate.{bytes_at_part}
use Rattle.extension.specs.declared.Span.{Span}
use Rattle.header.specs.declared.Kind.{Kind}
use Rattle.header.specs.Fields.{magic_of, header_of, key_of, intent_of, scale_of, display_of, quatern_of, rows_of}
use Rattle.encode.specs.Encode.{encode, key_bytes, dim_bytes, intent_bytes, scale_bytes, display_bytes, quatern_bytes, rows_bytes}

module _ (order : Order) (s : List ℕ) (all : (i : ℕ) → get_or s i 0 < 256) where
  known_size : i32_at order s 0 ≡ pos 348 → bytes_of order 4 348 ≡ bytes_at 0 4 s
  known_size e = rw e at (i32_back order s all 0)

  key_back : i32_at order s 0 ≡ pos 348 → key_bytes order (key_of order s) ≡ bytes_at 0 40 s
  unfolding key_bytes padded
  key_back e = simp (known_size e, i32_back order s all, i16_back order s all)

  dim_back : dim_bytes order (i16s_at order s 40 8) ≡ bytes_at 40 16 s
  unfolding dim_bytes i16s_bytes
  dim_back = simp (i16_back order s all)

  intent_back : intent_bytes order (intent_of order s) ≡ bytes_at 56 20 s
  unfolding intent_bytes
  intent_back = simp (u32_back order s all, i16_back order s all)

  scale_back : scale_bytes order (scale_of order s) ≡ bytes_at 76 48 s
  unfolding scale_bytes u32s_bytes
  scale_back = simp (u32_back order s all, i16_back order s all)

  display_back : display_bytes order (display_of order s) ≡ bytes_at 124 128 s
  unfolding display_bytes padded
  display_back = simp (u32_back order s all, i32_back order s all)

  quatern_back : quatern_bytes order (quatern_of order s) ≡ bytes_at 252 28 s
  unfolding quatern_bytes
  quatern_back = simp (u32_back order s all, i16_back order s all)

  rows_back : (kind : Kind) → bytes_at 344 4 s ≡ magic_of kind → rows_bytes order kind (rows_of order s) ≡ bytes_at 280 68 s
  unfolding rows_bytes padded u32s_bytes
  rows_back kind e = simp (← e, u32_back order s all)

  pub header_back : (kind : Kind) (count : ℕ) (spans : List Span) → i32_at order s 0 ≡ pos 348 → bytes_at 344 4 s ≡ magic_of kind → 348 ≤ length s
      → encode (header_of order kind count spans s) ≡ take 348 s
  unfolding encode header_of
  header_back kind count spans size magic long =
      rw (key_back size, dim_back, intent_back, scale_back, display_back, quatern_back, rows_back kind magic) (bytes_at_part 0 348 s long)

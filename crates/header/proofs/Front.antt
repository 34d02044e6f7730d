-- The header's 348 bytes state the same record as the whole file: every field lies inside them.
use Prim.Native.Nat.{ℕ}
use mathlib.Core.Path.{◌≡◌, refl}
use mathlib.Core.List.{List}
use Rattle.field.specs.declared.Order.{Order}
use Rattle.field.specs.Numbers.{bytes_at, u16_at, u32_at}
use Rattle.extension.specs.declared.Span.{Span}
use Rattle.header.specs.declared.Kind.{Kind}
use Rattle.header.specs.Fields.{header_of}

pub header_front : (order : Order) (kind : Kind) (count : ℕ) (spans : List Span) (s : List ℕ)
    → header_of order kind count spans (bytes_at 0 348 s) ≡ header_of order kind count spans s
unfolding header_of u16_at u32_at
header_front order kind count spans s = refl

-- The header of a swapped file: in the other byte order its record is the old one (`header_same`). What the rules judge of a header
-- are fields of the record, and the file's byte order is the other one (`order_other`).
use Prim.Native.Nat.{ℕ, ◌≤◌}
use mathlib.Core.Path.{◌≡◌, refl, ap, ◌∙◌}
use mathlib.Core.Bool.{Bool, true, false, cond, ◌||◌}
use mathlib.Core.List.{List, [], ◌++◌}
use lib.IntN.{ℤ, pos}
use lib.ListN.{length, get_or}
use Rattle.field.specs.declared.Order.{Order}
use Rattle.field.specs.declared.Order.TheVariants.{Little, Big}
use Rattle.field.specs.Numbers.{other, u32_at, i32_at}
use Rattle.datatype.specs.Datatypes.{datatype_of}
use Rattle.extension.specs.declared.Span.{Span}
use Rattle.header.specs.declared.Header.{Header}
use Rattle.header.specs.declared.Kind.{Kind}
use Rattle.header.specs.declared.Kind.TheVariants.{Single, Pair}
use Rattle.header.specs.Fields.{magic_of, header_of, in_order, with_offset}
use Rattle.header.proofs.Agree.{Agrees, word_places, half_places, text_places, each_among, header_agrees}
use Rattle.rules.specs.Rules.{one_to_seven, shape_of_record}
use Rattle.number.specs.Same.{same_numbers}
use Rattle.layout.specs.File.{holds_in, order_of, has_magic, kind_of, shape_in}
use Rattle.layout.proofs.Starting.{either}
use Rattle.reader.proofs.Theorems.{never_both}
use Rattle.units.specs.Runs.{Run, turn_runs, header_runs}
use Rattle.units.proofs.Runs.{span_of}
use Rattle.units.proofs.Places.{units_at}
use Rattle.turning.specs.Turn.{unit_of, unit_in}
use Rattle.byteswap.proofs.Places.{u32s_same, i16s_same, text_same}

-- dim[0] is in 1..7 in one byte order alone; where the two tests are exchanged, that is the other one
order_by : (a b : Bool) → (a ≡ true → b ≡ false) → (a || b) ≡ true → cond b Little Big ≡ other (cond a Little Big)
order_by true b h e = rw (h refl)
order_by false b h e = rw e

-- ---- The header's runs, and any others behind it

module _ (rest : List Run) (s : List ℕ) (room : span_of (header_runs ++ rest) ≤ length s) where
  abbrev runs : List Run
  runs = header_runs ++ rest

  abbrev after : List ℕ
  after = turn_runs runs s

  module _ (o : Order) where
    agrees : Agrees o (other o) s after
    agrees =
        record {
          words = λ at n h. u32s_same runs s room o at n (each_among (λ p k. units_at 4 k p runs) at n word_places refl h);
          halves = λ at n h. i16s_same runs s room o at n (each_among (λ p k. units_at 2 k p runs) at n half_places refl h);
          texts = λ at n h. text_same runs s room at n (each_among (λ p k. units_at 1 k p runs) at n text_places refl h);
        }

    offset_same : u32_at (other o) after 108 ≡ u32_at o s 108
    offset_same = ap (λ (l : List ℕ). get_or l 0 0) (u32s_same runs s room o 108 1 refl)

    pub header_same : (kind : Kind) (count : ℕ) (spans : List Span)
        → header_of (other o) kind count spans after ≡ in_order (other o) (header_of o kind count spans s)
    unfolding header_of
    header_same kind count spans =
        header_agrees o (other o) s after agrees kind count spans
        ∙ ap (λ (bits : ℕ). with_offset bits (in_order (other o) (header_of o kind count spans s))) offset_same

    -- what is judged of it
    pub shape_same : (kind : Kind) → shape_in (other o) kind after ≡ shape_in o kind s
    unfolding shape_in header_of
    shape_same kind = ap shape_of_record (header_same kind 0 [])

    pub unit_same : unit_in (other o) after ≡ unit_in o s
    unfolding unit_in header_of
    unit_same = ap (λ (h : Header). unit_of (datatype_of h.intent.datatype)) (header_same Single 0 [])

    pub size_same : i32_at (other o) after 0 ≡ i32_at o s 0
    unfolding header_of
    size_same = ap (λ (h : Header). h.key.sizeof_hdr) (header_same Single 0 [])

    pub holds_same : holds_in (other o) after ≡ holds_in o s
    unfolding holds_in
    holds_same = ap (λ (l : List ℤ). one_to_seven (get_or l 0 (pos 0))) (agrees.halves 40 8 refl)

  pub order_other : holds_in (order_of s) s ≡ true → order_of after ≡ other (order_of s)
  unfolding order_of
  order_other h =
      ap (λ (b : Bool). cond b Little Big) (holds_same Big)
      ∙ order_by (holds_in Little s) (holds_in Big s) (never_both s) (either s ∙ h)

  pub magic_same : (kind : Kind) → has_magic kind after ≡ has_magic kind s
  unfolding has_magic
  magic_same kind = ap (λ (l : List ℕ). same_numbers l (magic_of kind)) (text_same runs s room 344 4 refl)

  pub kind_same : kind_of after ≡ kind_of s
  unfolding kind_of
  kind_same = ap (λ (b : Bool). cond b Single Pair) (magic_same Single)

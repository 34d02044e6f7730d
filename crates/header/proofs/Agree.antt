-- The record of two files whose fields agree: what a swap and an edit leave of it, field by field, once. vox_offset stands apart, since
-- an edit writes it; both files may have their own.
use Prim.Native.Nat.{ℕ, ◌+◌, ◌*◌}
use mathlib.Core.Path.{◌≡◌, refl, ap, sym, ◌∙◌}
use mathlib.Core.Bool.{Bool, true, false, ◌&&◌, ◌||◌, and-eq-true_iff, false≢true}
use mathlib.Core.List.{List, [], ◌∷◌}
use borrow.Author.Tests.{eqb-true}
use lib.Dec.{eqb}
use lib.IntN.{ℤ, pos}
use lib.ListN.{get_or}
use mir.Syntax.{w32}
use mir.Val.{to_z}
use Rattle.field.specs.declared.Order.{Order}
use Rattle.field.specs.Numbers.{bytes_at, u32_at, i16_at, i32_at, u32s_at, i16s_at}
use Rattle.extension.specs.declared.Span.{Span}
use Rattle.grid.specs.Sizes.{no_sizes}
use Rattle.header.specs.declared.Kind.{Kind}
use Rattle.header.specs.Fields.{header_of, in_order, with_offset}

-- ---- The places of the fields

-- so many numbers, or bytes of text, from a place on
pub record Place : Type 0 where
  pub at : ℕ
  pub count : ℕ

abbrev place : ℕ → ℕ → Place
place at n = record { at = at; count = n }

-- the numbers of four bytes, without vox_offset
abbrev pub word_places : List Place
word_places =
    place 0 1  -- sizeof_hdr
    ∷ place 32 1  -- extents
    ∷ place 56 1  -- intent_p1, intent_p2, intent_p3
    ∷ place 60 1
    ∷ place 64 1
    ∷ place 76 8  -- pixdim
    ∷ place 112 1  -- scl_slope, scl_inter
    ∷ place 116 1
    ∷ place 124 1  -- cal_max, cal_min, slice_duration, toffset, glmax, glmin
    ∷ place 128 1
    ∷ place 132 1
    ∷ place 136 1
    ∷ place 140 1
    ∷ place 144 1
    ∷ place 256 1  -- quatern_b, quatern_c, quatern_d, qoffset_x, qoffset_y, qoffset_z
    ∷ place 260 1
    ∷ place 264 1
    ∷ place 268 1
    ∷ place 272 1
    ∷ place 276 1
    ∷ place 280 4  -- srow_x, srow_y, srow_z
    ∷ place 296 4
    ∷ place 312 4
    ∷ []

-- those of two bytes
abbrev pub half_places : List Place
half_places =
    place 36 1  -- session_error
    ∷ place 40 8  -- dim
    ∷ place 68 1  -- intent_code, datatype, bitpix, slice_start
    ∷ place 70 1
    ∷ place 72 1
    ∷ place 74 1
    ∷ place 120 1  -- slice_end
    ∷ place 252 1  -- qform_code, sform_code
    ∷ place 254 1
    ∷ []

-- single bytes and text
abbrev pub text_places : List Place
text_places =
    place 4 10  -- data_type
    ∷ place 14 18  -- db_name
    ∷ place 38 1  -- regular, dim_info
    ∷ place 39 1
    ∷ place 122 1  -- slice_code, xyzt_units
    ∷ place 123 1
    ∷ place 148 80  -- descrip
    ∷ place 228 24  -- aux_file
    ∷ place 328 16  -- intent_name
    ∷ place 344 4  -- magic
    ∷ []

-- whether a place is one of a table
abbrev pub among : List Place → ℕ → ℕ → Bool
among [] at n = false
among (p ∷ ps) at n = (eqb p.at at && eqb p.count n) || among ps at n

-- a test that each place of a table passes
abbrev pub each : (ℕ → ℕ → Bool) → List Place → Bool
each f [] = true
each f (p ∷ ps) = f p.at p.count && each f ps

module _ (f : ℕ → ℕ → Bool) (at n : ℕ) where
  first_or : (p : Place) (rest : Bool) → f p.at p.count ≡ true → (rest ≡ true → f at n ≡ true) → (s t : Bool) → eqb p.at at ≡ s
      → eqb p.count n ≡ t → ((s && t) || rest) ≡ true → f at n ≡ true
  first_or p rest e later true true a c h = sym (λ i. f (eqb-true p.at at a i) (eqb-true p.count n c i)) ∙ e
  first_or p rest e later true false a c h = later h
  first_or p rest e later false t a c h = later h

  pub each_among : (ps : List Place) → each f ps ≡ true → among ps at n ≡ true → f at n ≡ true
  each_among [] e h = absurd (false≢true h)
  each_among (p ∷ ps) e h =
      let b = (and-eq-true_iff (f p.at p.count) (each f ps)).0 e in
      first_or p (among ps at n) b.0 (each_among ps b.1) (eqb p.at at) (eqb p.count n) refl refl h

-- ---- The record

-- the fields of t, read in the order p, are those of s in the order o, vox_offset apart
pub record Agrees (o p : Order) (s t : List ℕ) : Type 0 where
  pub words : (at n : ℕ) → among word_places at n ≡ true → u32s_at p t at n ≡ u32s_at o s at n
  pub halves : (at n : ℕ) → among half_places at n ≡ true → i16s_at p t at n ≡ i16s_at o s at n
  pub texts : (at n : ℕ) → among text_places at n ≡ true → bytes_at at n t ≡ bytes_at at n s

module _ (o p : Order) (s t : List ℕ) (a : Agrees o p s t) where
  -- one number
  u32 : (at : ℕ) → among word_places at 1 ≡ true → u32_at p t (at + 0 * 4) ≡ u32_at o s (at + 0 * 4)
  u32 at h = ap (λ (l : List ℕ). get_or l 0 0) (a.words at 1 h)

  i32 : (at : ℕ) → among word_places at 1 ≡ true → i32_at p t (at + 0 * 4) ≡ i32_at o s (at + 0 * 4)
  i32 at h = ap (to_z w32) (u32 at h)

  i16 : (at : ℕ) → among half_places at 1 ≡ true → i16_at p t (at + 0 * 2) ≡ i16_at o s (at + 0 * 2)
  i16 at h = ap (λ (l : List ℤ). get_or l 0 (pos 0)) (a.halves at 1 h)

  byte : (at : ℕ) → among text_places at 1 ≡ true → get_or t (at + 0) 0 ≡ get_or s (at + 0) 0
  byte at h = ap (λ (l : List ℕ). get_or l 0 0) (a.texts at 1 h)

  pub header_agrees : (kind : Kind) (count : ℕ) (spans : List Span)
      → header_of p kind count spans t ≡ with_offset (u32_at p t 108) (in_order p (header_of o kind count spans s))
  unfolding header_of
  header_agrees kind count spans =
      λ i.
      record {
        order = p;
        kind = kind;
        dim = a.halves 40 8 refl i;
        count = count;
        spans = spans;
        sizes = no_sizes;
        aligned = false;
        key =
            record {
              sizeof_hdr = i32 0 refl i;
              data_type = a.texts 4 10 refl i;
              db_name = a.texts 14 18 refl i;
              extents = i32 32 refl i;
              session_error = i16 36 refl i;
              regular = byte 38 refl i;
              dim_info = byte 39 refl i;
            };
        intent =
            record {
              intent_p1 = u32 56 refl i;
              intent_p2 = u32 60 refl i;
              intent_p3 = u32 64 refl i;
              intent_code = i16 68 refl i;
              datatype = i16 70 refl i;
              bitpix = i16 72 refl i;
              slice_start = i16 74 refl i;
            };
        scale =
            record {
              pixdim = a.words 76 8 refl i;
              vox_offset = u32_at p t 108;
              scl_slope = u32 112 refl i;
              scl_inter = u32 116 refl i;
              slice_end = i16 120 refl i;
              slice_code = byte 122 refl i;
              xyzt_units = byte 123 refl i;
            };
        display =
            record {
              cal_max = u32 124 refl i;
              cal_min = u32 128 refl i;
              slice_duration = u32 132 refl i;
              toffset = u32 136 refl i;
              glmax = i32 140 refl i;
              glmin = i32 144 refl i;
              descrip = a.texts 148 80 refl i;
              aux_file = a.texts 228 24 refl i;
            };
        quatern =
            record {
              qform_code = i16 252 refl i;
              sform_code = i16 254 refl i;
              quatern_b = u32 256 refl i;
              quatern_c = u32 260 refl i;
              quatern_d = u32 264 refl i;
              qoffset_x = u32 268 refl i;
              qoffset_y = u32 272 refl i;
              qoffset_z = u32 276 refl i;
            };
        rows =
            record {
              srow_x = a.words 280 4 refl i;
              srow_y = a.words 296 4 refl i;
              srow_z = a.words 312 4 refl i;
              intent_name = a.texts 328 16 refl i;
              magic = a.texts 344 4 refl i;
            };
      }

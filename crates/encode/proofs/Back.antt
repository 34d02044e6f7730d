-- A record that was written reads back as itself, its sizes and aligned fact apart, which are no bytes: the other way round of the round
-- trip in Round.antt (01-scope.md, demand 2). It is said of a record as reading makes them, `Writable`, which the record of any file that
-- states 348 and its kind's magic is.
use Prim.Native.Nat.{ℕ, zero, suc, ◌+◌, ◌*◌, ◌<◌}
use mathlib.Core.Path.{◌≡◌, refl, ap, sym, ◌∙◌}
use mathlib.Core.Bool.{Bool, false}
use mathlib.Core.List.{List, [], ◌∷◌, ◌++◌, map}
use native.Mathlib.Omega.{arith}
use lib.IntN.{ℤ, pos}
use lib.ListN.{length, get_or}
use mir.Syntax.{w16, w32}
use mir.Val.{SFits, to_z, of_z}
use mir.ValLaws.{to_z-of_z, to_z-Fits, of_z_fits}
use Rattle.field.specs.declared.Order.{Order}
use Rattle.field.specs.Numbers.{tabulate, bytes_at, padded, number_of, bytes_of, u16_at, u32_at, i16_at, i32_at, u32s_at, u32s_bytes, i16s_bytes}
use Rattle.field.proofs.Inverse.{bytes_number, u16_fits, u32_fits}
use Rattle.field.proofs.Tabulate.{tabulate_same, length-tabulate}
use Rattle.extension.specs.declared.Span.{Span}
use Rattle.grid.specs.declared.Sizes.{Sizes}
use Rattle.grid.specs.Sizes.{no_sizes}
use Rattle.header.specs.declared.Header.{Header}
use Rattle.header.specs.declared.Kind.{Kind}
use Rattle.header.specs.declared.Kind.TheVariants.{Single, Pair}
use Rattle.header.specs.Fields.{magic_of, header_of, with_facts}
use Rattle.encode.specs.Encode.{encode, key_bytes, dim_bytes, intent_bytes, scale_bytes, display_bytes, quatern_bytes, rows_bytes}

-- ---- A record as reading makes them: each number fits its field, and each list has its field's length

-- the single numbers of four bytes without a sign, of four with one, and of two
abbrev pub words_of : Header → List ℕ
words_of h =
    h.intent.intent_p1
    ∷ h.intent.intent_p2
    ∷ h.intent.intent_p3
    ∷ h.scale.vox_offset
    ∷ h.scale.scl_slope
    ∷ h.scale.scl_inter
    ∷ h.display.cal_max
    ∷ h.display.cal_min
    ∷ h.display.slice_duration
    ∷ h.display.toffset
    ∷ h.quatern.quatern_b
    ∷ h.quatern.quatern_c
    ∷ h.quatern.quatern_d
    ∷ h.quatern.qoffset_x
    ∷ h.quatern.qoffset_y
    ∷ h.quatern.qoffset_z ∷ []

abbrev pub longs_of : Header → List ℤ
longs_of h = h.key.extents ∷ h.display.glmax ∷ h.display.glmin ∷ []

abbrev pub shorts_of : Header → List ℤ
shorts_of h =
    h.quatern.qform_code
    ∷ h.quatern.sform_code
    ∷ h.key.session_error
    ∷ h.intent.intent_code
    ∷ h.intent.datatype
    ∷ h.intent.bitpix
    ∷ h.intent.slice_start
    ∷ h.scale.slice_end ∷ []

-- n numbers of four bytes
pub record Words (n : ℕ) (l : List ℕ) : Type 0 where
  pub count : length l ≡ n
  pub each : (i : ℕ) → get_or l i 0 < 4294967296

-- n of two, with a sign
pub record Shorts (n : ℕ) (l : List ℤ) : Type 0 where
  pub count : length l ≡ n
  pub each : (i : ℕ) → SFits w16 (get_or l i (pos 0))

pub record Writable (h : Header) : Type 0 where
  pub size : h.key.sizeof_hdr ≡ pos 348
  pub magic : h.rows.magic ≡ magic_of h.kind
  pub words : (i : ℕ) → get_or (words_of h) i 0 < 4294967296
  pub longs : (i : ℕ) → SFits w32 (get_or (longs_of h) i (pos 0))
  pub shorts : (i : ℕ) → SFits w16 (get_or (shorts_of h) i (pos 0))
  pub dim : Shorts 8 h.dim
  pub pixdim : Words 8 h.scale.pixdim
  pub srow_x : Words 4 h.rows.srow_x
  pub srow_y : Words 4 h.rows.srow_y
  pub srow_z : Words 4 h.rows.srow_z
  pub data_type : length h.key.data_type ≡ 10
  pub db_name : length h.key.db_name ≡ 18
  pub descrip : length h.display.descrip ≡ 80
  pub aux_file : length h.display.aux_file ≡ 24
  pub intent_name : length h.rows.intent_name ≡ 16

-- the sizes and the aligned fact play no part
pub facts_writable : (sizes : Sizes) (aligned : Bool) {h : Header} → Writable h → Writable (with_facts sizes aligned h)
facts_writable sizes aligned w =
    record {
      size = w.size;
      magic = w.magic;
      words = w.words;
      longs = w.longs;
      shorts = w.shorts;
      dim = w.dim;
      pixdim = w.pixdim;
      srow_x = w.srow_x;
      srow_y = w.srow_y;
      srow_z = w.srow_z;
      data_type = w.data_type;
      db_name = w.db_name;
      descrip = w.descrip;
      aux_file = w.aux_file;
      intent_name = w.intent_name;
    }

-- ---- Read back, by kind of field

tabulate_all : {A : Type 0} (d : A) (l : List A) → tabulate (λ i. get_or l i d) (length l) ≡ l
tabulate_all d [] = refl
tabulate_all d (a ∷ l) = ap (λ (r : List _). a ∷ r) (tabulate_all d l)

all_of : {A : Type 0} (d : A) (l : List A) (n : ℕ) → length l ≡ n → tabulate (λ i. get_or l i d) n ≡ l
all_of d l n e = rw (← e) (tabulate_all d l)

text : (n : ℕ) (l : List ℕ) → length l ≡ n → padded n l ≡ l
unfolding padded
text n l e = all_of 0 l n e

module _ (order : Order) where
  long : (z : ℤ) → SFits w32 z → to_z w32 (number_of order (bytes_of order 4 (of_z w32 z))) ≡ z
  long z f = ap (to_z w32) (bytes_number order 4 (of_z w32 z) (of_z_fits w32 z f).fits) ∙ to_z-of_z w32 z f

  short : (z : ℤ) → SFits w16 z → to_z w16 (number_of order (bytes_of order 2 (of_z w16 z))) ≡ z
  short z f = ap (to_z w16) (bytes_number order 2 (of_z w16 z) (of_z_fits w16 z f).fits) ∙ to_z-of_z w16 z f

  words : {n : ℕ} {l : List ℕ} → Words n l → tabulate (λ i. number_of order (bytes_of order 4 (get_or l i 0))) n ≡ l
  words {n} {l} w =
      tabulate_same (λ i. number_of order (bytes_of order 4 (get_or l i 0))) (λ i. get_or l i 0) n
      (λ i _. bytes_number order 4 (get_or l i 0) (w.each i))
      ∙ all_of 0 l n w.count

  shorts : {n : ℕ} {l : List ℤ} → Shorts n l → tabulate (λ i. to_z w16 (number_of order (bytes_of order 2 (of_z w16 (get_or l i (pos 0)))))) n ≡ l
  shorts {n} {l} w =
      tabulate_same (λ i. to_z w16 (number_of order (bytes_of order 2 (of_z w16 (get_or l i (pos 0)))))) (λ i. get_or l i (pos 0)) n
      (λ i _. short (get_or l i (pos 0)) (w.each i))
      ∙ all_of (pos 0) l n w.count

magic_read : (kind : Kind) (rest : List ℕ) → bytes_at 0 4 (magic_of kind ++ rest) ≡ magic_of kind
magic_read Single rest = refl
magic_read Pair rest = refl

-- ---- The record

pub header_read : (h : Header) (rest : List ℕ) → Writable h
    → header_of h.order h.kind h.count h.spans (encode h ++ rest) ≡ with_facts no_sizes false h
unfolding header_of u16_at u32_at padded bytes_of u32s_bytes i16s_bytes encode key_bytes dim_bytes intent_bytes scale_bytes display_bytes quatern_bytes rows_bytes
header_read h rest w =
    let o = h.order in
    let word : (n : ℕ) → n < 4294967296 → number_of o (bytes_of o 4 n) ≡ n = bytes_number o 4 in
    λ i.
    record {
      order = o;
      kind = h.kind;
      dim = shorts o w.dim i;
      count = h.count;
      spans = h.spans;
      sizes = no_sizes;
      aligned = false;
      key =
          record {
            sizeof_hdr = (long o (pos 348) (record { sfits = omega arith }) ∙ sym w.size) i;
            data_type = text 10 h.key.data_type w.data_type i;
            db_name = text 18 h.key.db_name w.db_name i;
            extents = long o _ (w.longs 0) i;
            session_error = short o _ (w.shorts 2) i;
            regular = h.key.regular;
            dim_info = h.key.dim_info;
          };
      intent =
          record {
            intent_p1 = word _ (w.words 0) i;
            intent_p2 = word _ (w.words 1) i;
            intent_p3 = word _ (w.words 2) i;
            intent_code = short o _ (w.shorts 3) i;
            datatype = short o _ (w.shorts 4) i;
            bitpix = short o _ (w.shorts 5) i;
            slice_start = short o _ (w.shorts 6) i;
          };
      scale =
          record {
            pixdim = words o w.pixdim i;
            vox_offset = word _ (w.words 3) i;
            scl_slope = word _ (w.words 4) i;
            scl_inter = word _ (w.words 5) i;
            slice_end = short o _ (w.shorts 7) i;
            slice_code = h.scale.slice_code;
            xyzt_units = h.scale.xyzt_units;
          };
      display =
          record {
            cal_max = word _ (w.words 6) i;
            cal_min = word _ (w.words 7) i;
            slice_duration = word _ (w.words 8) i;
            toffset = word _ (w.words 9) i;
            glmax = long o _ (w.longs 1) i;
            glmin = long o _ (w.longs 2) i;
            descrip = text 80 h.display.descrip w.descrip i;
            aux_file = text 24 h.display.aux_file w.aux_file i;
          };
      quatern =
          record {
            qform_code = short o _ (w.shorts 0) i;
            sform_code = short o _ (w.shorts 1) i;
            quatern_b = word _ (w.words 10) i;
            quatern_c = word _ (w.words 11) i;
            quatern_d = word _ (w.words 12) i;
            qoffset_x = word _ (w.words 13) i;
            qoffset_y = word _ (w.words 14) i;
            qoffset_z = word _ (w.words 15) i;
          };
      rows =
          record {
            srow_x = words o w.srow_x i;
            srow_y = words o w.srow_y i;
            srow_z = words o w.srow_z i;
            intent_name = text 16 h.rows.intent_name w.intent_name i;
            magic = (magic_read h.kind rest ∙ sym w.magic) i;
          };
    }

-- ---- The record that is read from a file

members : {A B : Type 0} (P : B → Type 0) (f : A → B) (d : B) → ((a : A) → P (f a)) → P d → (l : List A) (i : ℕ) → P (get_or (map f l) i d)
members P f d h k [] i = k
members P f d h k (a ∷ l) zero = h a
members P f d h k (a ∷ l) (suc i) = members P f d h k l i

entries : {B : Type 0} (P : B → Type 0) (f : ℕ → B) (d : B) → ((a : ℕ) → P (f a)) → P d → (n i : ℕ) → P (get_or (tabulate f n) i d)
entries P f d h k zero i = k
entries P f d h k (suc n) zero = h 0
entries P f d h k (suc n) (suc i) = entries P (λ j. f (suc j)) d (λ j. h (suc j)) k n i

module _ (order : Order) (s : List ℕ) (all : (i : ℕ) → get_or s i 0 < 256) where
  i32_fits : (at : ℕ) → SFits w32 (i32_at order s at)
  i32_fits at = to_z-Fits w32 (u32_at order s at) (u32_fits order s all at)

  i16_fits : (at : ℕ) → SFits w16 (i16_at order s at)
  i16_fits at = to_z-Fits w16 (u16_at order s at) (u16_fits order s all at)

  below : (at : ℕ) → u32_at order s at < 4294967296
  below at = (u32_fits order s all at).fits

  some_words : (at n : ℕ) → Words n (u32s_at order s at n)
  some_words at n =
      record {
        count = length-tabulate (λ i. u32_at order s (at + i * 4)) n;
        each = entries (λ k. k < 4294967296) (λ i. u32_at order s (at + i * 4)) 0 (λ i. below (at + i * 4)) (omega arith) n;
      }

  pub read_writable : (kind : Kind) (count : ℕ) (spans : List Span) → i32_at order s 0 ≡ pos 348 → bytes_at 344 4 s ≡ magic_of kind
      → Writable (header_of order kind count spans s)
  unfolding header_of
  read_writable kind count spans size magic =
      record {
        size = size;
        magic = magic;
        words =
            members (λ k. k < 4294967296) (u32_at order s) 0 below (omega arith)
            (56 ∷ 60 ∷ 64 ∷ 108 ∷ 112 ∷ 116 ∷ 124 ∷ 128 ∷ 132 ∷ 136 ∷ 256 ∷ 260 ∷ 264 ∷ 268 ∷ 272 ∷ 276 ∷ []);
        longs = members (SFits w32) (i32_at order s) (pos 0) i32_fits (record { sfits = omega arith }) (32 ∷ 140 ∷ 144 ∷ []);
        shorts =
            members (SFits w16) (i16_at order s) (pos 0) i16_fits (record { sfits = omega arith })
            (252 ∷ 254 ∷ 36 ∷ 68 ∷ 70 ∷ 72 ∷ 74 ∷ 120 ∷ []);
        dim =
            record {
              count = refl;
              each =
                  entries (SFits w16) (λ i. i16_at order s (40 + i * 2)) (pos 0) (λ i. i16_fits (40 + i * 2))
                  (record { sfits = omega arith }) 8;
            };
        pixdim = some_words 76 8;
        srow_x = some_words 280 4;
        srow_y = some_words 296 4;
        srow_z = some_words 312 4;
        data_type = refl;
        db_name = refl;
        descrip = refl;
        aux_file = refl;
        intent_name = refl;
      }

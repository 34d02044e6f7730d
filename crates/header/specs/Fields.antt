-- The record of a header's bytes: document 003's 43 fields, each at its offset and by its type. 01-scope.md: "Field offsets and
-- widths are those of source document 003"; "The record has all fields, unused ones too, every float by its 32 bits".
use Rattle.std.specs.Prelude.{ℕ, Bool, false, List, [], ◌∷◌, get_or}
use Rattle.field.specs.declared.Order.{Order}
use Rattle.field.specs.declared.Order.TheVariants.{Little}
use Rattle.field.specs.Numbers.{bytes_at, u32_at, i16_at, i32_at, u32s_at, i16s_at}
use Rattle.extension.specs.declared.Span.{Span}
use Rattle.extension.specs.Listing.{spans_of}
use Rattle.grid.specs.declared.Sizes.{Sizes}
use Rattle.grid.specs.Sizes.{no_sizes}
use Rattle.header.specs.declared.Kind.{Kind}
use Rattle.header.specs.declared.Kind.TheVariants.{Single, Pair}
use Rattle.header.specs.declared.Header.{Header}
use Rattle.header.specs.declared.Key.{Key}
use Rattle.header.specs.declared.Intent.{Intent}
use Rattle.header.specs.declared.Scale.{Scale}
use Rattle.header.specs.declared.Display.{Display}
use Rattle.header.specs.declared.Quatern.{Quatern}
use Rattle.header.specs.declared.Rows.{Rows}

-- the magic, bytes 344..348: n+1 of a single file, ni1 of a pair, and a zero byte
abbrev pub magic_of : Kind → List ℕ
magic_of Single = 0x6E ∷ 0x2B ∷ 0x31 ∷ 0 ∷ []
magic_of Pair = 0x6E ∷ 0x69 ∷ 0x31 ∷ 0 ∷ []

-- header_key of nifti1.h, bytes 0..40
abbrev pub key_of : Order → List ℕ → Key
key_of order s =
    record {
      sizeof_hdr = i32_at order s 0;
      data_type = bytes_at 4 10 s;
      db_name = bytes_at 14 18 s;
      extents = i32_at order s 32;
      session_error = i16_at order s 36;
      regular = get_or s 38 0;
      dim_info = get_or s 39 0;
    }

-- the rest of image_dimension up to the slices, bytes 56..76
abbrev pub intent_of : Order → List ℕ → Intent
intent_of order s =
    record {
      intent_p1 = u32_at order s 56;
      intent_p2 = u32_at order s 60;
      intent_p3 = u32_at order s 64;
      intent_code = i16_at order s 68;
      datatype = i16_at order s 70;
      bitpix = i16_at order s 72;
      slice_start = i16_at order s 74;
    }

-- bytes 76..124
abbrev pub scale_of : Order → List ℕ → Scale
scale_of order s =
    record {
      pixdim = u32s_at order s 76 8;
      vox_offset = u32_at order s 108;
      scl_slope = u32_at order s 112;
      scl_inter = u32_at order s 116;
      slice_end = i16_at order s 120;
      slice_code = get_or s 122 0;
      xyzt_units = get_or s 123 0;
    }

-- bytes 124..252
abbrev pub display_of : Order → List ℕ → Display
display_of order s =
    record {
      cal_max = u32_at order s 124;
      cal_min = u32_at order s 128;
      slice_duration = u32_at order s 132;
      toffset = u32_at order s 136;
      glmax = i32_at order s 140;
      glmin = i32_at order s 144;
      descrip = bytes_at 148 80 s;
      aux_file = bytes_at 228 24 s;
    }

-- bytes 252..280
abbrev pub quatern_of : Order → List ℕ → Quatern
quatern_of order s =
    record {
      qform_code = i16_at order s 252;
      sform_code = i16_at order s 254;
      quatern_b = u32_at order s 256;
      quatern_c = u32_at order s 260;
      quatern_d = u32_at order s 264;
      qoffset_x = u32_at order s 268;
      qoffset_y = u32_at order s 272;
      qoffset_z = u32_at order s 276;
    }

-- bytes 280..348
abbrev pub rows_of : Order → List ℕ → Rows
rows_of order s =
    record {
      srow_x = u32s_at order s 280 4;
      srow_y = u32s_at order s 296 4;
      srow_z = u32s_at order s 312 4;
      intent_name = bytes_at 328 16 s;
      magic = bytes_at 344 4 s;
    }

-- the whole record; dim is at bytes 40..56. The sizes and the aligned fact are no fields of the header's bytes: reading puts them in
-- (`completed`, rules/Rules).
unfoldable pub header_of : Order → Kind → ℕ → List Span → List ℕ → Header
header_of order kind count spans s =
    record {
      order = order;
      kind = kind;
      dim = i16s_at order s 40 8;
      count = count;
      spans = spans;
      sizes = no_sizes;
      aligned = false;
      key = key_of order s;
      intent = intent_of order s;
      scale = scale_of order s;
      display = display_of order s;
      quatern = quatern_of order s;
      rows = rows_of order s;
    }

-- the record beside a refusal: that of no bytes. Past the end there are zeros, so each of its fields is zero.
abbrev pub no_header : Header
no_header = header_of Little Single 0 (spans_of []) []

-- ---- A record with one thing changed: every other field is as it was

-- its byte order
abbrev pub in_order : Order → Header → Header
in_order order h =
    record {
      order = order;
      kind = h.kind;
      dim = h.dim;
      count = h.count;
      spans = h.spans;
      sizes = h.sizes;
      aligned = h.aligned;
      key = h.key;
      intent = h.intent;
      scale = h.scale;
      display = h.display;
      quatern = h.quatern;
      rows = h.rows;
    }

-- its extensions
abbrev pub with_spans : ℕ → List Span → Header → Header
with_spans count spans h =
    record {
      order = h.order;
      kind = h.kind;
      dim = h.dim;
      count = count;
      spans = spans;
      sizes = h.sizes;
      aligned = h.aligned;
      key = h.key;
      intent = h.intent;
      scale = h.scale;
      display = h.display;
      quatern = h.quatern;
      rows = h.rows;
    }

-- what reading works out: its sizes, and whether its voxel offset is aligned
abbrev pub with_facts : Sizes → Bool → Header → Header
with_facts sizes aligned h =
    record {
      order = h.order;
      kind = h.kind;
      dim = h.dim;
      count = h.count;
      spans = h.spans;
      sizes = sizes;
      aligned = aligned;
      key = h.key;
      intent = h.intent;
      scale = h.scale;
      display = h.display;
      quatern = h.quatern;
      rows = h.rows;
    }

-- the bits of its voxel offset
abbrev pub with_offset : ℕ → Header → Header
with_offset bits h =
    record {
      order = h.order;
      kind = h.kind;
      dim = h.dim;
      count = h.count;
      spans = h.spans;
      sizes = h.sizes;
      aligned = h.aligned;
      key = h.key;
      intent = h.intent;
      scale =
          record {
            pixdim = h.scale.pixdim;
            vox_offset = bits;
            scl_slope = h.scale.scl_slope;
            scl_inter = h.scale.scl_inter;
            slice_end = h.scale.slice_end;
            slice_code = h.scale.slice_code;
            xyzt_units = h.scale.xyzt_units;
          };
      display = h.display;
      quatern = h.quatern;
      rows = h.rows;
    }

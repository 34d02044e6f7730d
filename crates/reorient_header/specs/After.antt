-- The record of a turned file, from the record of the old one (02-change-requests.md, P10).
use Rattle.std.specs.Prelude.{ℕ, Bool, cond, not, ◌&&◌, List, ◌∷◌, get_or, drop, ℤ, pos}
use Rattle.std.specs.Int.Signed.{le_z}
use Rattle.number.specs.Natural.{natural_of}
use Rattle.grid.specs.Axes.{dim_at}
use Rattle.header.specs.declared.Header.{Header}
use Rattle.header.specs.declared.Key.{Key}
use Rattle.header.specs.declared.Scale.{Scale}
use Rattle.header.specs.declared.Quatern.{Quatern}
use Rattle.header.specs.declared.Rows.{Rows}
use Rattle.reorient.specs.declared.Turn.{Turn}
use Rattle.reorient.specs.Reorient.{permuted}
use Rattle.reorient_rows.specs.Rows.{finite_after, row_after}

-- "Dims and pixdims 1 to 3 are permuted": the entries of a field behind its first are those of the axes
unfoldable pub entries_after : {A : Type 0} → A → Turn → List A → List A
entries_after d t xs = get_or xs 0 d ∷ permuted d t (drop 1 xs)

abbrev pub dims_after : Turn → List ℤ → List ℤ
dims_after t dim = entries_after (pos 0) t dim

abbrev pub pixdims_after : Turn → List ℕ → List ℕ
pixdims_after t pixdim = entries_after 0 t pixdim

-- the length of an old axis
abbrev pub length_in : List ℤ → ℕ → ℕ
length_in dim axis = natural_of (dim_at dim axis)

-- the rows of the sform
unfoldable pub rows_after : Turn → List ℤ → Rows → Rows
rows_after t dim g =
    record {
      srow_x = row_after t (length_in dim 1) (length_in dim 2) (length_in dim 3) g.srow_x;
      srow_y = row_after t (length_in dim 1) (length_in dim 2) (length_in dim 3) g.srow_y;
      srow_z = row_after t (length_in dim 1) (length_in dim 2) (length_in dim 3) g.srow_z;
      intent_name = g.intent_name;
      magic = g.magic;
    }

-- all twelve new numbers are finite
unfoldable pub finite_rows_after : Turn → List ℤ → Rows → Bool
finite_rows_after t dim g =
    finite_after t (length_in dim 1) (length_in dim 2) (length_in dim 3) g.srow_x
    && (finite_after t (length_in dim 1) (length_in dim 2) (length_in dim 3) g.srow_y
    && finite_after t (length_in dim 1) (length_in dim 2) (length_in dim 3) g.srow_z)

-- "Where sform_code is above 0"
abbrev pub has_sform : Header → Bool
has_sform h = not (le_z h.quatern.sform_code (pos 0))

-- "23 where sform_code is above 0 and a new srow number isn't finite"
unfoldable pub not_finite : Turn → Header → Bool
not_finite t h = has_sform h && not (finite_rows_after t h.dim h.rows)

-- the rows, which stay as they are where there is no sform
unfoldable pub sform_after : Turn → Header → Rows
sform_after t h = cond (has_sform h) (rows_after t h.dim h.rows) h.rows

-- "qform_code, dim_info and slice_code become 0"
abbrev pub key_after : Key → Key
key_after g =
    record {
      sizeof_hdr = g.sizeof_hdr;
      data_type = g.data_type;
      db_name = g.db_name;
      extents = g.extents;
      session_error = g.session_error;
      regular = g.regular;
      dim_info = 0;
    }

abbrev pub scale_after : Turn → Scale → Scale
scale_after t g =
    record {
      pixdim = pixdims_after t g.pixdim;
      vox_offset = g.vox_offset;
      scl_slope = g.scl_slope;
      scl_inter = g.scl_inter;
      slice_end = g.slice_end;
      slice_code = 0;
      xyzt_units = g.xyzt_units;
    }

abbrev pub quatern_after : Quatern → Quatern
quatern_after g =
    record {
      qform_code = pos 0;
      sform_code = g.sform_code;
      quatern_b = g.quatern_b;
      quatern_c = g.quatern_c;
      quatern_d = g.quatern_d;
      qoffset_x = g.qoffset_x;
      qoffset_y = g.qoffset_y;
      qoffset_z = g.qoffset_z;
    }

-- the whole record; "All else .. is copied". The sizes are the old ones here: the law `turned_reads` has them set right (`completed`,
-- rules/Rules).
unfoldable pub header_after : Turn → Header → Header
header_after t h =
    record {
      order = h.order;
      kind = h.kind;
      dim = dims_after t h.dim;
      count = h.count;
      spans = h.spans;
      sizes = h.sizes;
      aligned = h.aligned;
      key = key_after h.key;
      intent = h.intent;
      scale = scale_after t h.scale;
      display = h.display;
      quatern = quatern_after h.quatern;
      rows = sform_after t h;
    }

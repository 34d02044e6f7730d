-- What a swap turns round, as one list over a whole stretch of a file: "Swapping turns round each 2- or 4-byte header field, unused numbers included,
-- each extension's size and code, and each swap unit of the image. All else stays" (01-scope.md, "Voxels and byte order").
use Rattle.std.specs.Prelude.{ℕ, ◌*◌, List, [], ◌∷◌, ◌++◌, take, drop}
use Rattle.units.specs.Units.{turned}

-- a run: `count` units of `width` bytes, one after another. Width 1 is for bytes that stay, since a single byte turned round is itself
pub record Run : Type 0 where
  pub width : ℕ
  pub count : ℕ

abbrev pub run : ℕ → ℕ → Run
run w n = record { width = w; count = n }

-- each run turned round unit by unit, in order from the front; the rest as it is
unfoldable pub turn_runs : List Run → List ℕ → List ℕ
turn_runs [] l = l
turn_runs (r ∷ rs) l =
    turned r.width r.count (take (r.count * r.width) l)
    ++ turn_runs rs (drop (r.count * r.width) l)

-- the same, with the first run at index `at`
unfoldable pub turn_runs_at : ℕ → List Run → List ℕ → List ℕ
turn_runs_at at rs l = take at l ++ turn_runs rs (drop at l)

-- The header: the fields of source document 003 in its order, 348 bytes. Its 56 numbers turn round, the unused ones too; its text and its single bytes stay.
abbrev pub header_runs : List Run
header_runs =
    run 4 1  -- 0: sizeof_hdr
    ∷ run 1 28  -- 4: data_type[10], db_name[18]
    ∷ run 4 1  -- 32: extents
    ∷ run 2 1  -- 36: session_error
    ∷ run 1 2  -- 38: regular, dim_info
    ∷ run 2 8  -- 40: dim[8]
    ∷ run 4 3  -- 56: intent_p1, intent_p2, intent_p3
    ∷ run 2 4  -- 68: intent_code, datatype, bitpix, slice_start
    ∷ run 4 11  -- 76: pixdim[8], vox_offset, scl_slope, scl_inter
    ∷ run 2 1  -- 120: slice_end
    ∷ run 1 2  -- 122: slice_code, xyzt_units
    ∷ run 4 6  -- 124: cal_max, cal_min, slice_duration, toffset, glmax, glmin
    ∷ run 1 104  -- 148: descrip[80], aux_file[24]
    ∷ run 2 2  -- 252: qform_code, sform_code
    ∷ run 4 18  -- 256: quatern_b, quatern_c, quatern_d, qoffset_x, qoffset_y, qoffset_z, srow_x[4], srow_y[4], srow_z[4]
    ∷ run 1 20  -- 328: intent_name[16], magic[4]
    ∷ []

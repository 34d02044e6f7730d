-- The 348 bytes of a record: document 003's fields in file order, each by its type in the record's byte order. 01-scope.md:
-- "It writes 348 and the kind's magic, and doesn't read the spans", so sizeof_hdr and magic are not taken from the record.
use Rattle.std.specs.Prelude.{ℕ, List, [], ◌∷◌, ◌++◌, ℤ}
use Rattle.std.specs.Int.{w16, w32}
use Rattle.std.proofs.Common.{of_z}
use Rattle.field.specs.declared.Order.{Order}
use Rattle.field.specs.Numbers.{padded, bytes_of, u32s_bytes, i16s_bytes}
use Rattle.header.specs.declared.Header.{Header}
use Rattle.header.specs.declared.Kind.{Kind}
use Rattle.header.specs.declared.Key.{Key}
use Rattle.header.specs.declared.Intent.{Intent}
use Rattle.header.specs.declared.Scale.{Scale}
use Rattle.header.specs.declared.Display.{Display}
use Rattle.header.specs.declared.Quatern.{Quatern}
use Rattle.header.specs.declared.Rows.{Rows}
use Rattle.header.specs.Fields.{magic_of}

-- header_key of nifti1.h, bytes 0..40
unfoldable pub key_bytes : Order → Key → List ℕ
key_bytes order g =
    bytes_of order 4 348
    ++ (padded 10 g.data_type
    ++ (padded 18 g.db_name
    ++ (bytes_of order 4 (of_z w32 g.extents)
    ++ (bytes_of order 2 (of_z w16 g.session_error)
    ++ ((g.regular ∷ [])
    ++ (g.dim_info ∷ []))))))

-- dim, bytes 40..56
unfoldable pub dim_bytes : Order → List ℤ → List ℕ
dim_bytes order dim = i16s_bytes order 8 dim

-- the rest of image_dimension up to the slices, bytes 56..76
unfoldable pub intent_bytes : Order → Intent → List ℕ
intent_bytes order g =
    bytes_of order 4 g.intent_p1
    ++ (bytes_of order 4 g.intent_p2
    ++ (bytes_of order 4 g.intent_p3
    ++ (bytes_of order 2 (of_z w16 g.intent_code)
    ++ (bytes_of order 2 (of_z w16 g.datatype)
    ++ (bytes_of order 2 (of_z w16 g.bitpix)
    ++ bytes_of order 2 (of_z w16 g.slice_start))))))

-- bytes 76..124
unfoldable pub scale_bytes : Order → Scale → List ℕ
scale_bytes order g =
    u32s_bytes order 8 g.pixdim
    ++ (bytes_of order 4 g.vox_offset
    ++ (bytes_of order 4 g.scl_slope
    ++ (bytes_of order 4 g.scl_inter
    ++ (bytes_of order 2 (of_z w16 g.slice_end)
    ++ ((g.slice_code ∷ [])
    ++ (g.xyzt_units ∷ []))))))

-- bytes 124..252
unfoldable pub display_bytes : Order → Display → List ℕ
display_bytes order g =
    bytes_of order 4 g.cal_max
    ++ (bytes_of order 4 g.cal_min
    ++ (bytes_of order 4 g.slice_duration
    ++ (bytes_of order 4 g.toffset
    ++ (bytes_of order 4 (of_z w32 g.glmax)
    ++ (bytes_of order 4 (of_z w32 g.glmin)
    ++ (padded 80 g.descrip
    ++ padded 24 g.aux_file))))))

-- bytes 252..280
unfoldable pub quatern_bytes : Order → Quatern → List ℕ
quatern_bytes order g =
    bytes_of order 2 (of_z w16 g.qform_code)
    ++ (bytes_of order 2 (of_z w16 g.sform_code)
    ++ (bytes_of order 4 g.quatern_b
    ++ (bytes_of order 4 g.quatern_c
    ++ (bytes_of order 4 g.quatern_d
    ++ (bytes_of order 4 g.qoffset_x
    ++ (bytes_of order 4 g.qoffset_y
    ++ bytes_of order 4 g.qoffset_z))))))

-- bytes 280..348
unfoldable pub rows_bytes : Order → Kind → Rows → List ℕ
rows_bytes order kind g =
    u32s_bytes order 4 g.srow_x
    ++ (u32s_bytes order 4 g.srow_y
    ++ (u32s_bytes order 4 g.srow_z
    ++ (padded 16 g.intent_name
    ++ magic_of kind)))

unfoldable pub encode : Header → List ℕ
encode h =
    key_bytes h.order h.key
    ++ (dim_bytes h.order h.dim
    ++ (intent_bytes h.order h.intent
    ++ (scale_bytes h.order h.scale
    ++ (display_bytes h.order h.display
    ++ (quatern_bytes h.order h.quatern
    ++ rows_bytes h.order h.kind h.rows)))))

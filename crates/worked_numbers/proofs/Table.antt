-- The rows marked P of 01-scope.md, "Numbers on each side", as a single table with a single statement: each left side is computed
-- by the definitions that the calls' promises cite, each right side is the paper's. The rows are computed in groups, since the checker
-- bounds what one declaration may compute; the table is all of them.
use mathlib.Core.Path.{◌≡◌, refl}
use mathlib.Core.List.{[], ◌∷◌, ◌++◌, reverse}
use lib.Ieee.{lt, mul, of_bits, to_bits, of_int}
use lib.ListN.{take, drop}
use Rattle.field.specs.Numbers.{padded, bytes_of, u16_at, u32_at}
use Rattle.refusal.specs.Table.{verdict}
use Rattle.datatype.specs.Datatypes.{datatype_of}
use Rattle.offset.specs.Offset.{is_whole, whole_of, offset_of, aligned_of, offset_bits}
use Rattle.grid.specs.Grid.{voxels, within, voxel_number}
use Rattle.grid.specs.Axes.{first_below, axes, image_bytes, seven_axes}
use Rattle.slices.specs.Ranks.{order_in, alt_rank, alt2_rank, rank_of}
use Rattle.extension.specs.Walk.{size_rule, found, walk, extensions_in}
use Rattle.extension.specs.Pieces.{pieces}
use Rattle.header.specs.Fields.{header_of}
use Rattle.layout.specs.File.{holds_in, order_of, has_magic, kind_of, shape_in, has_extensions, end_of}
use Rattle.reader.specs.Reading.{judgement, reading_of}
use Rattle.timing.specs.Slices.{is_stated, first_of, slice_by}
use Rattle.voxel.specs.Voxel.{located_by}
use Rattle.by_file.specs.Files.{located_of}
use Rattle.slice_position.specs.Files.{slice_of}
use Rattle.buffer.specs.Put.{put}
use Rattle.buffer.specs.Settled.{settled}
use Rattle.change.specs.Change.{size_for}
use Rattle.edit_plan.specs.Fresh.{stored, extension_list, tail_of, exchange, edited_list, fresh_file}
use Rattle.edit_plan.specs.Refusals.{change_verdict}
use Rattle.edit.specs.Outcome.{outcome_of, edit_answer}
use Rattle.worked_numbers.specs.Worked.{zeros, file_with, pair_with, file_a, reading, offset_read, bits_read, at, of_edited, note, appended, slices_by}

-- the empty file; 348 zero bytes; A; A cut to 363
files :
    reading []
    ∷ reading (zeros 348)
    ∷ reading file_a
    ∷ reading (take 363 file_a)
    ∷ []
    ≡ (1 ∷ 0 ∷ [])
    ∷ (2 ∷ 40 ∷ [])
    ∷ (0 ∷ [])
    ∷ (11 ∷ 108 ∷ [])
    ∷ []
unfolding reading_of judgement verdict holds_in u16_at u32_at order_of has_magic kind_of shape_in has_extensions
    first_below datatype_of is_whole whole_of of_bits lt image_bytes voxels axes
files = refl

-- in A voxel (2,1), and (3,0)
in_a :
    at file_a 2 1
    ∷ at file_a 3 0
    ∷ []
    ≡ (0 ∷ 362 ∷ 2 ∷ [])
    ∷ (17 ∷ 0 ∷ [])
    ∷ []
unfolding reading_of judgement verdict holds_in u16_at u32_at order_of has_magic kind_of shape_in has_extensions
    first_below datatype_of is_whole whole_of of_bits lt image_bytes voxels axes seven_axes within voxel_number located_by
    located_of header_of
in_a = refl

-- offset bits 43B00000, 43B04000 and 43AF8000 in a single file, 4D000000 in a pair, 4D000001 in both: the offset, and whether it is aligned
offsets :
    offset_read file_a
    ∷ offset_read (file_with (0 ∷ 0x40 ∷ 0xB0 ∷ 0x43 ∷ []))
    ∷ offset_read (file_with (0 ∷ 0x80 ∷ 0xAF ∷ 0x43 ∷ []))
    ∷ offset_read (pair_with (0 ∷ 0 ∷ 0 ∷ 0x4D ∷ []))
    ∷ offset_read (file_with (1 ∷ 0 ∷ 0 ∷ 0x4D ∷ []))
    ∷ offset_read (pair_with (1 ∷ 0 ∷ 0 ∷ 0x4D ∷ []))
    ∷ []
    ≡ (0 ∷ 352 ∷ 1 ∷ [])
    ∷ (8 ∷ 108 ∷ [])
    ∷ (9 ∷ 108 ∷ [])
    ∷ (0 ∷ 134217728 ∷ 1 ∷ [])
    ∷ (9 ∷ 108 ∷ [])
    ∷ (9 ∷ 108 ∷ [])
    ∷ []
unfolding reading_of judgement verdict holds_in u16_at u32_at order_of has_magic kind_of shape_in has_extensions
    first_below datatype_of is_whole whole_of of_bits lt image_bytes voxels axes header_of aligned_of offset_of
offsets = refl

-- the same bits by the offset's own reading (02-change-requests.md, P6), then those of 0, of minus zero and of 360
offset_cases :
    bits_read 0x43B00000
    ∷ bits_read 0x43B04000
    ∷ bits_read 0x43AF8000
    ∷ bits_read 0x4D000000
    ∷ bits_read 0x4D000001
    ∷ bits_read 0
    ∷ bits_read 0x80000000
    ∷ bits_read 0x43B40000
    ∷ []
    ≡ (0 ∷ 352 ∷ 1 ∷ [])
    ∷ (8 ∷ 108 ∷ [])
    ∷ (0 ∷ 351 ∷ 0 ∷ [])
    ∷ (0 ∷ 134217728 ∷ 1 ∷ [])
    ∷ (9 ∷ 108 ∷ [])
    ∷ (0 ∷ 0 ∷ 1 ∷ [])
    ∷ (0 ∷ 0 ∷ 1 ∷ [])
    ∷ (0 ∷ 360 ∷ 0 ∷ [])
    ∷ []
unfolding offset_of verdict is_whole whole_of of_bits lt
offset_cases = refl

-- what payloads of 0, 8 and 9 bytes take; 5 bytes appended to A: the length, whether vox_offset is aligned, and vox_offset
append :
    (size_for 0 ∷ size_for 8 ∷ size_for 9 ∷ [])
    ∷ of_edited (edit_answer note)
    ∷ reverse (take 4 (drop 108 appended))
    ∷ []
    ≡ (16 ∷ 16 ∷ 32 ∷ [])
    ∷ (0 ∷ 380 ∷ 1 ∷ [])
    ∷ (0x43 ∷ 0xB8 ∷ 0 ∷ 0 ∷ [])
    ∷ []
unfolding reading_of judgement verdict holds_in u16_at u32_at order_of has_magic kind_of shape_in has_extensions
    first_below datatype_of is_whole whole_of of_bits lt image_bytes voxels axes outcome_of change_verdict fresh_file
    edited_list extension_list exchange stored end_of tail_of pieces settled put bytes_of padded offset_bits to_bits
    of_int aligned_of offset_of
append = refl

-- voxel (2,1) after it
append_voxel :
    at appended 2 1
    ∷ []
    ≡ (0 ∷ 378 ∷ 2 ∷ [])
    ∷ []
unfolding reading_of judgement verdict holds_in u16_at u32_at order_of has_magic kind_of shape_in has_extensions
    first_below datatype_of is_whole whole_of of_bits lt image_bytes voxels axes seven_axes within voxel_number located_by
    located_of header_of outcome_of change_verdict fresh_file edited_list extension_list exchange stored end_of tail_of
    pieces settled put bytes_of padded offset_bits to_bits of_int extensions_in walk found size_rule
append_voxel = refl

-- slices 0 to 5 by ALT_INC: padding, then the ranks of 1 to 5
alt_inc :
    slices_by 3
    ∷ []
    ≡ (1 ∷ 2 ∷ 0 ∷ 2 ∷ 3 ∷ 2 ∷ 1 ∷ 2 ∷ 4 ∷ 2 ∷ 2 ∷ [])
    ∷ []
unfolding reading_of judgement verdict holds_in u16_at u32_at order_of has_magic kind_of shape_in has_extensions
    first_below datatype_of is_whole whole_of of_bits lt image_bytes voxels axes slice_of slice_by first_of is_stated
    header_of mul of_int order_in alt_rank alt2_rank rank_of
alt_inc = refl

-- the same by ALT_DEC2
alt_dec2 :
    slices_by 6
    ∷ []
    ≡ (1 ∷ 2 ∷ 4 ∷ 2 ∷ 1 ∷ 2 ∷ 3 ∷ 2 ∷ 0 ∷ 2 ∷ 2 ∷ [])
    ∷ []
unfolding reading_of judgement verdict holds_in u16_at u32_at order_of has_magic kind_of shape_in has_extensions
    first_below datatype_of is_whole whole_of of_bits lt image_bytes voxels axes slice_of slice_by first_of is_stated
    header_of mul of_int order_in alt_rank alt2_rank rank_of
alt_dec2 = refl

pub table :
    -- the empty file; 348 zero bytes; A; A cut to 363
    reading []
    ∷ reading (zeros 348)
    ∷ reading file_a
    ∷ reading (take 363 file_a)
    -- in A voxel (2,1), and (3,0)
    ∷ at file_a 2 1
    ∷ at file_a 3 0
    -- offset bits 43B00000, 43B04000 and 43AF8000 in a single file, 4D000000 in a pair, 4D000001 in both: the offset, and whether it is aligned
    ∷ offset_read file_a
    ∷ offset_read (file_with (0 ∷ 0x40 ∷ 0xB0 ∷ 0x43 ∷ []))
    ∷ offset_read (file_with (0 ∷ 0x80 ∷ 0xAF ∷ 0x43 ∷ []))
    ∷ offset_read (pair_with (0 ∷ 0 ∷ 0 ∷ 0x4D ∷ []))
    ∷ offset_read (file_with (1 ∷ 0 ∷ 0 ∷ 0x4D ∷ []))
    ∷ offset_read (pair_with (1 ∷ 0 ∷ 0 ∷ 0x4D ∷ []))
    -- the same bits by the offset's own reading (02-change-requests.md, P6), then those of 0, of minus zero and of 360
    ∷ bits_read 0x43B00000
    ∷ bits_read 0x43B04000
    ∷ bits_read 0x43AF8000
    ∷ bits_read 0x4D000000
    ∷ bits_read 0x4D000001
    ∷ bits_read 0
    ∷ bits_read 0x80000000
    ∷ bits_read 0x43B40000
    -- what payloads of 0, 8 and 9 bytes take; 5 bytes appended to A: the length, whether vox_offset is aligned, and vox_offset
    ∷ (size_for 0 ∷ size_for 8 ∷ size_for 9 ∷ [])
    ∷ of_edited (edit_answer note)
    ∷ reverse (take 4 (drop 108 appended))
    -- voxel (2,1) after it
    ∷ at appended 2 1
    -- slices 0 to 5 by ALT_INC: padding, then the ranks of 1 to 5
    ∷ slices_by 3
    -- the same by ALT_DEC2
    ∷ slices_by 6
    ∷ []
    ≡ (1 ∷ 0 ∷ [])
    ∷ (2 ∷ 40 ∷ [])
    ∷ (0 ∷ [])
    ∷ (11 ∷ 108 ∷ [])
    ∷ (0 ∷ 362 ∷ 2 ∷ [])
    ∷ (17 ∷ 0 ∷ [])
    ∷ (0 ∷ 352 ∷ 1 ∷ [])
    ∷ (8 ∷ 108 ∷ [])
    ∷ (9 ∷ 108 ∷ [])
    ∷ (0 ∷ 134217728 ∷ 1 ∷ [])
    ∷ (9 ∷ 108 ∷ [])
    ∷ (9 ∷ 108 ∷ [])
    ∷ (0 ∷ 352 ∷ 1 ∷ [])
    ∷ (8 ∷ 108 ∷ [])
    ∷ (0 ∷ 351 ∷ 0 ∷ [])
    ∷ (0 ∷ 134217728 ∷ 1 ∷ [])
    ∷ (9 ∷ 108 ∷ [])
    ∷ (0 ∷ 0 ∷ 1 ∷ [])
    ∷ (0 ∷ 0 ∷ 1 ∷ [])
    ∷ (0 ∷ 360 ∷ 0 ∷ [])
    ∷ (16 ∷ 16 ∷ 32 ∷ [])
    ∷ (0 ∷ 380 ∷ 1 ∷ [])
    ∷ (0x43 ∷ 0xB8 ∷ 0 ∷ 0 ∷ [])
    ∷ (0 ∷ 378 ∷ 2 ∷ [])
    ∷ (1 ∷ 2 ∷ 0 ∷ 2 ∷ 3 ∷ 2 ∷ 1 ∷ 2 ∷ 4 ∷ 2 ∷ 2 ∷ [])
    ∷ (1 ∷ 2 ∷ 4 ∷ 2 ∷ 1 ∷ 2 ∷ 3 ∷ 2 ∷ 0 ∷ 2 ∷ 2 ∷ [])
    ∷ []
table = λ i. files i ++ (in_a i ++ (offsets i ++ (offset_cases i ++ (append i ++ (append_voxel i ++ (alt_inc i ++ (alt_dec2 i)))))))

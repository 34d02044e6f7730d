-- The structs of the C interface: for each answer of the library, the paper's number and values of each case. Refusal 0 stands for
-- success, and beside a refusal every other number but the place is 0.
use Rattle.refusal.specs.declared.Rule.TheVariants.{NoSuchExtension}
use Rattle.edit.specs.declared.NewFile.{NewFile}
use Rattle.affine.specs.declared.Position.{Position}
use Rattle.voxel.specs.declared.Extent.{Extent}
use Rattle.timing.specs.declared.Slice.TheVariants.{Unstated, Padding, Timed}
use Rattle.std.specs.Prelude.{ℕ, Bool, true, false, cond, ltb, pos, Float, get_or, replicate, Ok, Err, Some, None, Result, Option}
use Rattle.std.specs.Float.{fin}
use Rattle.field.specs.declared.Order.{Order}
use Rattle.field.specs.declared.Order.TheVariants.{Little, Big}
use Rattle.refusal.specs.declared.Refusal.{Refusal}
use Rattle.refusal.specs.Table.{refusal, decided, Verdict, number_of}
use Rattle.extension.specs.declared.Span.{Span}
use Rattle.extension.specs.Listing.{no_span}
use Rattle.header.specs.declared.Header.{Header}
use Rattle.header.specs.declared.Kind.{Kind}
use Rattle.header.specs.declared.Kind.TheVariants.{Single, Pair}
use Rattle.rules.specs.declared.Image.{Image}
use Rattle.reader.specs.declared.Reading.{Reading}
use Rattle.timing.specs.declared.Slice.{Slice}
use Rattle.answers.specs.declared.Reply.{Reply}
use Rattle.answers.specs.declared.FileAnswer.{FileAnswer}
use Rattle.answers.specs.declared.ExtensionAnswer.{ExtensionAnswer}
use Rattle.answers.specs.declared.SliceAnswer.{SliceAnswer}
use Rattle.answers.specs.declared.RankedAnswer.{RankedAnswer}
use Rattle.answers.specs.declared.PositionAnswer.{PositionAnswer}

-- a refusal as a reply
abbrev pub refused_reply : Refusal → Reply
refused_reply r = record { refusal = number_of r.rule; place = r.place; length = 0; aligned = 0 }

-- a voxel's place and length
abbrev pub voxel_reply : Result Extent Refusal → Reply
voxel_reply (Ok e) = record { refusal = 0; place = e.place; length = e.length; aligned = 0 }
voxel_reply (Err r) = refused_reply r

-- a swap has no number of its own
abbrev pub swap_reply : Verdict → Reply
swap_reply (Ok tt) = record { refusal = 0; place = 0; length = 0; aligned = 0 }
swap_reply (Err r) = refused_reply r

-- the bytes of a line
abbrev pub line_reply : Result ℕ Refusal → Reply
line_reply (Ok n) = record { refusal = 0; place = 0; length = n; aligned = 0 }
line_reply (Err r) = refused_reply r

-- whether an offset is aligned: 1, and 0 where it is not
abbrev pub is_aligned : Bool → ℕ
is_aligned true = 1
is_aligned false = 0

-- an edit answers the new length, and whether the new offset is aligned
abbrev pub edit_reply : Result NewFile Refusal → Reply
edit_reply (Ok file) = record { refusal = 0; place = 0; length = file.length; aligned = is_aligned file.aligned }
edit_reply (Err r) = refused_reply r

abbrev pub big_endian : Order → ℕ
big_endian Little = 0
big_endian Big = 1

abbrev pub is_pair : Kind → ℕ
is_pair Single = 0
is_pair Pair = 1

-- a file's record, as much of it as the console shows
abbrev pub shown_file : Header → Image → FileAnswer
shown_file h i =
    record {
      refusal = 0;
      place = 0;
      data_offset = i.offset;
      data_bytes = i.bytes;
      big_endian = big_endian h.order;
      pair = is_pair h.kind;
      dim = h.dim;
      datatype = h.intent.datatype;
      bitpix = h.intent.bitpix;
      extensions = h.count;
      step = h.sizes.steps;
      aligned = is_aligned h.aligned;
    }

abbrev pub refused_file : Refusal → FileAnswer
refused_file r =
    record {
      refusal = number_of r.rule;
      place = r.place;
      data_offset = 0;
      data_bytes = 0;
      big_endian = 0;
      pair = 0;
      dim = replicate 8 (pos 0);
      datatype = pos 0;
      bitpix = pos 0;
      extensions = 0;
      step = replicate 7 0;
      aligned = 0;
    }

unfoldable pub file_answer : Reading → FileAnswer
file_answer r = decided r.verdict (shown_file r.header r.image) refused_file

-- one extension of a file: 1..15, then 18
abbrev pub shown_extension : Span → ExtensionAnswer
shown_extension x = record { refusal = 0; place = 0; start = x.start; size = x.size; code = x.code }

abbrev pub refused_extension : Refusal → ExtensionAnswer
refused_extension r = record { refusal = number_of r.rule; place = r.place; start = 0; size = pos 0; code = pos 0 }

-- the one that is asked for, its span beside how many there are
abbrev pub extension_shown : ℕ → Span → ℕ → ExtensionAnswer
extension_shown count x n = cond (ltb n count) (shown_extension x) (refused_extension (refusal NoSuchExtension 0))

unfoldable pub extension_answer : Reading → ℕ → ExtensionAnswer
extension_answer r n =
    decided r.verdict (extension_shown r.header.count (get_or r.header.spans n no_span) n) refused_extension

-- plus zero
abbrev pub plus_zero : Float
plus_zero = fin false 0 (pos 0)

-- a slice: state 0 unstated, 1 padding, 2 timed
abbrev pub slice_answer : Result Slice Refusal → SliceAnswer
slice_answer (Err r) = record { refusal = number_of r.rule; place = r.place; state = 0; rank = 0; seconds = plus_zero }
slice_answer (Ok Unstated) = record { refusal = 0; place = 0; state = 0; rank = 0; seconds = plus_zero }
slice_answer (Ok Padding) = record { refusal = 0; place = 0; state = 1; rank = 0; seconds = plus_zero }
slice_answer (Ok (Timed rank t)) = record { refusal = 0; place = 0; state = 2; rank = rank; seconds = t }

-- the slice of a rank: stated 0 where timing is unstated, 1 with the slice
abbrev pub ranked_answer : Result (Option ℕ) Refusal → RankedAnswer
ranked_answer (Err r) = record { refusal = number_of r.rule; place = r.place; stated = 0; slice = 0 }
ranked_answer (Ok None) = record { refusal = 0; place = 0; stated = 0; slice = 0 }
ranked_answer (Ok (Some s)) = record { refusal = 0; place = 0; stated = 1; slice = s }

-- a position's three values
abbrev pub position_answer : Result Position Refusal → PositionAnswer
position_answer (Ok p) = record { refusal = 0; place = 0; x = p.x; y = p.y; z = p.z }
position_answer (Err r) = record { refusal = number_of r.rule; place = r.place; x = plus_zero; y = plus_zero; z = plus_zero }

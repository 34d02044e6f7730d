-- What the C interface answers of a voxel by the struct of a file that was read before. "Any struct has an answer": its refusal where it has
-- one, and else what its numbers give. The law `voxel_in_read` says that a struct which reading answered gives what the call on its file does.
use Rattle.std.specs.Prelude.{ℕ, cond, List, eqb}
use Rattle.header.specs.declared.Kind.{Kind}
use Rattle.header.specs.declared.Kind.TheVariants.{Single, Pair}
use Rattle.voxel.specs.declared.Volume.{Volume}
use Rattle.voxel.specs.Steps.{volume, stepped_by}
use Rattle.answers.specs.declared.Reply.{Reply}
use Rattle.answers.specs.declared.FileAnswer.{FileAnswer}
use Rattle.answers.specs.Answers.{voxel_reply}

-- 0 is a single file, any other number a pair
abbrev pub kind_by : ℕ → Kind
kind_by pair = cond (eqb pair 0) Single Pair

-- data_bytes is the total
abbrev pub volume_in : FileAnswer → Volume
volume_in f = volume f.dim f.data_offset f.data_bytes f.step (kind_by f.pair)

-- "file.refusal and file.place come back where file.refusal is not 0"
abbrev pub own_refusal : ℕ → ℕ → Reply
own_refusal refusal place = record { refusal = refusal; place = place; length = 0; aligned = 0 }

unfoldable pub voxel_in : FileAnswer → ℕ → List ℕ → Reply
voxel_in f len index = cond (eqb f.refusal 0) (voxel_reply (stepped_by (volume_in f) len index)) (own_refusal f.refusal f.place)

-- "keeps no .. voxel bytes": of a single file no byte from the voxel offset on is kept. A pair's voxels are not in the file that is read.
use Rattle.std.specs.Prelude.{Ok, Err, Result}
use Rattle.offset.specs.declared.Offset.TheVariants.{Aligned, Unaligned}
use Rattle.refusal.specs.declared.Refusal.{Refusal}
use Prim.Native.Nat.{ℕ, ◌+◌, ◌≤◌, ◌<◌}
use mathlib.Core.Path.{◌≡◌, refl, ap, ◌∙◌}
use mathlib.Core.Bool.{Bool, true, false, cond}
use mathlib.Core.List.{List}
use native.Mathlib.Omega.{arith}
use lib.ListN.{get_or, take, length-take, get_or-eq_default}
use Rattle.field.specs.Numbers.{u32_at}
use Rattle.field.proofs.Tabulate.{tabulate_get}
use Rattle.offset.specs.declared.Offset.{Offset}
use Rattle.offset.specs.Offset.{whole_of, offset_of}
use Rattle.offset.proofs.Answer.{aligned_reads, unaligned_reads}
use Rattle.header.specs.declared.Kind.TheVariants.{Single}
use Rattle.layout.specs.File.{order_of, kind_of, has_extensions}
use Rattle.piece_walk.specs.Whole.{walk_of}
use Rattle.pieces.specs.Pieces.{end_by, end_in}
use Rattle.pieces.specs.Kept.{front_of, kept_of}
use Rattle.pieces.proofs.Fronts.{order_front, end_front}

module _ (b : List ℕ) (single : kind_of b ≡ Single) where
  abbrev bits : ℕ
  bits = u32_at (order_of b) b 108

  -- the walk ends before the first voxel
  by_offset : (o : Result Offset Refusal) → offset_of bits ≡ o → end_by Single o ≤ whole_of bits
  by_offset (Ok (Aligned n)) e = omega (arith, (aligned_reads bits n e).value)
  by_offset (Ok (Unaligned n)) e = omega (arith, (unaligned_reads bits n e).value)
  by_offset (Err r) e = omega arith

  end_before : end_in (order_of b) b ≤ whole_of bits
  unfolding end_in
  end_before = rw single (by (has_extensions b))
    where
      by : (t : Bool) → cond t (end_by Single (offset_of bits)) 0 ≤ whole_of bits
      by true = by_offset (offset_of bits) refl
      by false = omega arith

  abbrev end : ℕ
  end = end_in (order_of (front_of b)) (front_of b)

  end_is : end ≡ end_in (order_of b) b
  end_is = end_front b (order_of (front_of b)) ∙ ap (λ o. end_in o b) (order_front b)

  pub no_voxel_kept : (i : ℕ) → i < 8 → whole_of bits ≤ (kept_of b).walk.at + i → get_or (kept_of b).walk.coming i 0 ≡ 0
  unfolding kept_of walk_of
  no_voxel_kept i below h =
      let at = (walk_of (order_of (front_of b)) end b).at in
      tabulate_get (λ j. get_or (take end b) (at + j) 0) 8 i 0 below
      ∙ get_or-eq_default (take end b) 0 (simp length-take (omega (arith, end_before, end_is)))

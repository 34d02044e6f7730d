-- Positions after a turn, where they are exact. 02-change-requests.md, P10: "Positions aren't in that law: sums round." In the case of
-- whole numbers that 01-scope.md states for the old rows no sum rounds, and the new file's position of a voxel is that of the voxel it
-- came from.
use Rattle.std.specs.Prelude.{Err}
use Prim.Native.Nat.{ℕ, ◌-◌, ◌≤◌, ◌<◌}
use mathlib.Core.Path.{◌≡◌, refl, sym, ap, subst, ◌∙◌}
use mathlib.Core.Bool.{true, false}
use mathlib.Core.List.{List, [], ◌∷◌}
use native.Mathlib.Omega.{arith}
use lib.IntN.{ℤ, pos}
use lib.ListN.{get_or}
use lib.Signed.{le_z}
use Rattle.refusal.specs.Table.{decided}
use Rattle.number.specs.Natural.{natural_of}
use Rattle.grid.specs.Grid.{within}
use Rattle.grid.specs.Axes.{dim_at}
use Rattle.header.specs.declared.Header.{Header}
use Rattle.header.specs.declared.Rows.{Rows}
use Rattle.rules.specs.Rules.{axis_count, completed}
use Rattle.reader.specs.declared.Reading.{Reading}
use Rattle.reader.specs.Reading.{reading_of}
use Rattle.position.specs.Positions.{length_at, three_axes, sform_of, position_in}
use Rattle.affine.specs.Method.{position_of}
use Rattle.affine.specs.Whole.{exact_of}
use Rattle.position.proofs.Answers.{from_placed, length_stated, position_placed}
use Rattle.position.proofs.Theorems.{WholeRows, ExactAt, Answered, placed_exactly}
use Rattle.slice_position.specs.Files.{position_at}
use Rattle.slice_position.proofs.Positions.{file_half, file_position_exact}
use Rattle.reorient.specs.declared.Turn.{Turn}
use Rattle.reorient.specs.Reorient.{is_permutation, permuted, unpermuted, reversals, mirrored_in, came_from}
use Rattle.reorient.proofs.Axes.{bounds, by_axis}
use Rattle.reorient.proofs.Orders.{within_permuted}
use Rattle.reorient.proofs.Indexes.{mirrored_in_within}
use Rattle.reorient_rows.proofs.Exact.{turned_exact}
use Rattle.reorient_header.specs.After.{entries_after, dims_after, length_in, rows_after, sform_after, header_after}
use Rattle.turn_laws.specs.Turns.{Turns, IsBytes}
use Rattle.turn_laws.proofs.Axes.{dim_1, dim_2, dim_3}
use Rattle.turn_laws.proofs.Made.{was_accepted, was_allowed}
use Rattle.turn_laws.proofs.Theorems.{turned_reads}

module _ (t : Turn) (ht : is_permutation t ≡ true) (dim : List ℤ) (three : 3 ≤ axis_count dim) where
  abbrev lengths : List ℕ
  lengths = length_in dim 1 ∷ (length_in dim 2 ∷ (length_in dim 3 ∷ []))

  -- the three axes, in the old file and in the new
  old_axes_lem : three_axes dim ≡ lengths
  old_axes_lem =
      λ i.
      sym (length_stated dim 1 (omega arith)) i
      ∷ (sym (length_stated dim 2 (omega arith)) i ∷ (sym (length_stated dim 3 (omega arith)) i ∷ []))

  shown_length : (axis : ℕ) → 1 ≤ axis → axis ≤ 3 → length_in dim axis ≡ get_or lengths (axis - 1) 0
  shown_length axis low high = by_axis (λ o. length_in dim o ≡ get_or lengths (o - 1) 0) refl refl refl axis low high

  new_length : (k axis : ℕ) → k ≤ 3 → 1 ≤ axis → axis ≤ 3 → dim_at (dims_after t dim) k ≡ dim_at dim axis
      → length_at (dims_after t dim) k ≡ get_or lengths (axis - 1) 0
  unfolding entries_after
  new_length k axis h low high e =
      sym (length_stated (dims_after t dim) k (omega arith)) ∙ ap natural_of e ∙ shown_length axis low high

  new_axes_lem : three_axes (dims_after t dim) ≡ permuted 0 t lengths
  unfolding permuted
  new_axes_lem =
      let b = bounds t ht in
      λ i.
      new_length 1 t.axis1 (omega arith) b.low1 b.high1 (dim_1 t dim ht) i
      ∷ (new_length 2 t.axis2 (omega arith) b.low2 b.high2 (dim_2 t dim ht) i
      ∷ (new_length 3 t.axis3 (omega arith) b.low3 b.high3 (dim_3 t dim ht) i ∷ []))

module _ {file image : List ℕ} {t : Turn} {newFile newImage : List ℕ} (all : IsBytes file) (w : Turns file image t newFile newImage)
    (rows : WholeRows (sform_of (reading_of file).header)) (i j k : ℕ) (a : Answered (sform_of (reading_of newFile).header) i j k) where
  abbrev header : Header
  header = (reading_of file).header

  abbrev dim : List ℤ
  dim = header.dim

  abbrev index : List ℕ
  index = i ∷ (j ∷ (k ∷ []))

  -- the index that it came from
  abbrev pub from : ℕ → ℕ
  from o = get_or (came_from t (three_axes dim) index) o 0

  new_header : (reading_of newFile).header ≡ completed (header_after t header)
  new_header = ap (λ (r : Reading). r.header) (turned_reads all w)

  above : le_z header.quatern.sform_code (pos 0) ≡ false
  unfolding header_after
  above = sym (ap (λ (h : Header). le_z h.quatern.sform_code (pos 0)) new_header) ∙ a.above

  new_inside : within (three_axes (dims_after t dim)) index ≡ true
  unfolding header_after
  new_inside = sym (ap (λ (h : Header). within (three_axes h.dim) index) new_header) ∙ a.inside

  abbrev ht : is_permutation t ≡ true
  ht = (was_allowed w).permutation

  -- the three lengths, which signed 16-bit numbers state
  abbrev three : List ℕ
  three = lengths t ht dim (was_allowed w).three

  stated : three_axes dim ≡ three
  stated = old_axes_lem t ht dim (was_allowed w).three

  inside : within (permuted 0 t three) index ≡ true
  inside = sym (ap (λ (l : List ℕ). within l index) (new_axes_lem t ht dim (was_allowed w).three)) ∙ new_inside

  small : (o : ℕ) → o ≤ 3 → length_at dim o < 32768 → length_in dim o ≤ 32767
  small o h l = omega (arith, length_stated dim o (omega (arith, (was_allowed w).three)))

  -- the answer, by the new rows
  new_rows : sform_after t header ≡ rows_after t dim header.rows
  unfolding sform_after
  new_rows = rw above

  placed : let g = rows_after t dim header.rows in
      from_placed (position_of g.srow_x g.srow_y g.srow_z i j k) ≡ position_at newFile i j k
  unfolding position_at header_after
  placed =
      ap (λ (g : Rows). from_placed (position_of g.srow_x g.srow_y g.srow_z i j k)) (sym new_rows)
      ∙ position_placed (sform_of (header_after t header)) i j k new_inside above
      ∙ sym (ap (λ (r : Reading). decided r.verdict (position_in r.header i j k) Err) (turned_reads all w))

  -- In the new file it is the exact position that the old rows have for the voxel it came from,
  pub turned_position : ExactAt (sform_of header) rows (from 0) (from 1) (from 2) (position_at newFile i j k)
  unfolding rows_after
  turned_position =
      let l = file_half file in
      let g = rows_after t dim header.rows in
      let at : List ℕ → ℕ → ℕ = λ ns o. get_or (came_from t ns index) o 0 in
      subst (λ (ns : List ℕ). ExactAt (sform_of header) rows (at ns 0) (at ns 1) (at ns 2) (position_at newFile i j k)) (sym stated)
      (subst (ExactAt (sform_of header) rows (at three 0) (at three 1) (at three 2)) placed
      (placed_exactly (position_of g.srow_x g.srow_y g.srow_z i j k)
      (exact_of rows.x (at three 0) (at three 1) (at three 2)) (exact_of rows.y (at three 0) (at three 1) (at three 2))
      (exact_of rows.z (at three 0) (at three 1) (at three 2))
      (turned_exact rows.x rows.y rows.z t ht (length_in dim 1) (length_in dim 2) (length_in dim 3)
      (small 1 (omega arith) l.0) (small 2 (omega arith) l.1) (small 3 (omega arith) l.2) [] i j k [] inside)))

  from_inside : within three
      (get_or (came_from t three index) 0 0 ∷ (get_or (came_from t three index) 1 0 ∷ (get_or (came_from t three index) 2 0 ∷ []))) ≡ true
  unfolding came_from mirrored_in unpermuted
  from_inside =
      mirrored_in_within (reversals t) three (unpermuted 0 t index)
      (sym (within_permuted (length_in dim 1) (length_in dim 2) (length_in dim 3) i j k [] [] t ht) ∙ inside)

  -- which is what the old file answers of it
  pub turned_position_old : ExactAt (sform_of header) rows (from 0) (from 1) (from 2) (position_at file (from 0) (from 1) (from 2))
  turned_position_old =
      let in-old : within (three_axes dim) (from 0 ∷ (from 1 ∷ (from 2 ∷ []))) ≡ true = rw stated from_inside in
      file_position_exact file rows (from 0) (from 1) (from 2) (was_accepted w) (record { inside = in-old; above = above })

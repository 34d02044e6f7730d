-- What the rules of a voxel by its record's sizes decide; and that a sum which is capped decides 26 as the sum itself does.
use Rattle.refusal.specs.declared.Rule.TheVariants.{AxisCount, OffsetNotWhole, OffsetOutside, ImageCut, IndexOutside, WrongRecord}
use Rattle.std.specs.Prelude.{Ok, Err, Result}
use Rattle.voxel.specs.declared.Extent.{Extent}
use Prim.Native.Nat.{ℕ, ◌+◌, ◌≤◌, ◌<◌}
use mathlib.Core.Path.{◌≡◌, refl, ap, sym, ◌∙◌}
use mathlib.Core.Bool.{Bool, true, false, not, ◌||◌}
use mathlib.Core.List.{List, [], ◌∷◌}
use native.Mathlib.Omega.{arith}
use borrow.Author.Tests.{ltb-true, ltb-false, lt-ltb, le-ltb}
use lib.Dec.{ltb}
use Rattle.refusal.specs.declared.Refusal.{Refusal}
use Rattle.refusal.specs.Table.{Row, row, verdict, decided, Verdict}
use Rattle.offset.specs.declared.Offset.{Offset}
use Rattle.offset.specs.Offset.{is_whole, whole_of, offset_limit, offset_of, whole_in}
use Rattle.offset.proofs.Answer.{known_reads, refused_by}
use Rattle.grid.specs.Grid.{within}
use Rattle.grid.specs.Axes.{image_limit, capped, seven_axes}
use Rattle.header.specs.declared.Header.{Header}
use Rattle.rules.specs.Rules.{axis_count, offset_outside, image_cut}
use Rattle.rules.proofs.Judging.{beyond}
use Rattle.rules.proofs.Passed.{neither}
use Rattle.voxel.specs.declared.Volume.{Volume}
use Rattle.voxel.specs.Steps.{volume, image_at, extent_by, strays_by, strays, no_axes, volume_of, misplaced_by, stepped_by, stepped_in}

-- ---- 26

module _ (total before length : ℕ) where
  -- what is not refused is inside the image
  pub stays : strays_by total before length ≡ false → (1 ≤ length) × (total ≤ image_limit) × (before + length ≤ total)
  stays e =
      let p = neither (ltb length 1) (ltb image_limit total || ltb total (before + length)) e in
      let q = neither (ltb image_limit total) (ltb total (before + length)) p.1 in
      (ltb-false length 1 p.0, ltb-false image_limit total q.0, ltb-false total (before + length) q.1)

  pub inside_stays : 1 ≤ length → total ≤ image_limit → before + length ≤ total → strays_by total before length ≡ false
  inside_stays some small fits = rw (le-ltb length 1 some, le-ltb image_limit total small, le-ltb total (before + length) fits)

  capped_by : (t : Bool) → ltb image_limit total ≡ t
      → (ltb image_limit total || ltb total (capped before + length)) ≡ (ltb image_limit total || ltb total (before + length))
  capped_by true e = rw e
  capped_by false e = rw e (same (ltb total (before + length)) refl)
    where
      same : (u : Bool) → ltb total (before + length) ≡ u → ltb total (capped before + length) ≡ ltb total (before + length)
      same true d =
          let h = ltb-true total (before + length) d in
          let l = ltb-false image_limit total e in
          rw d (lt-ltb total (capped before + length) (omega arith))
      same false d =
          let h = ltb-false total (before + length) d in
          rw d (le-ltb total (capped before + length) (omega arith))

  strays_capped : strays_by total (capped before) length ≡ strays_by total before length
  strays_capped = rw (capped_by (ltb image_limit total) refl)

-- so does any number that rule 10 does not tell from it
pub strays_like : (total length a b : ℕ) → capped a ≡ capped b → strays_by total a length ≡ strays_by total b length
strays_like total length a b e =
    sym (strays_capped total a length) ∙ ap (λ (n : ℕ). strays_by total n length) e ∙ strays_capped total b length

-- ---- by a volume

pub stepped_at : (v : Volume) (len : ℕ) (index : List ℕ) → no_axes v.dim ≡ false → offset_outside v.kind v.offset 0 ≡ false
    → image_cut v.kind len (image_at v) ≡ false → within (seven_axes v.dim (axis_count v.dim)) index ≡ true → strays v index ≡ false
    → Ok (extent_by v index) ≡ stepped_by v len index
unfolding stepped_by verdict
stepped_at v len index some low whole inside kept = rw (some, low, whole, inside, kept)

-- ---- by a record: 8, which a volume cannot break, has its place between 2 and 9

module _ (h : Header) (rest : List Row) where
  abbrev ninth : Row
  ninth = row OffsetOutside (offset_outside h.kind (whole_of h.scale.vox_offset) 0) 108

  abbrev decides : Verdict
  decides = verdict (row AxisCount (no_axes h.dim) 40 ∷ row OffsetNotWhole (not (is_whole h.scale.vox_offset)) 108 ∷ ninth ∷ rest)

  by_8 : is_whole h.scale.vox_offset ≡ false → Err (misplaced_by h.dim OffsetNotWhole) ≡ decides
  unfolding verdict
  by_8 part = by (no_axes h.dim) refl
    where
      by : (t : Bool) → no_axes h.dim ≡ t → Err (misplaced_by h.dim OffsetNotWhole) ≡ decides
      by true e = rw e
      by false e = rw (e, part)

  module _ (whole : is_whole h.scale.vox_offset ≡ true) where
    by_9 : offset_limit < whole_of h.scale.vox_offset → Err (misplaced_by h.dim OffsetOutside) ≡ decides
    unfolding verdict
    by_9 large = by (no_axes h.dim) refl
      where
        by : (t : Bool) → no_axes h.dim ≡ t → Err (misplaced_by h.dim OffsetOutside) ≡ decides
        by true e = rw e
        by false e = rw (e, whole, beyond h.kind (whole_of h.scale.vox_offset) 0 large)

    pub whole_verdict : verdict (row AxisCount (no_axes h.dim) 40 ∷ ninth ∷ rest) ≡ decides
    unfolding verdict
    whole_verdict = rw whole

  -- rule 8 or 9, after 2, as the offset's reading refuses
  pub misplaced_verdict : (r : Refusal) → offset_of h.scale.vox_offset ≡ Err r
      → Err (misplaced_by h.dim r.rule) ≡ decides
  misplaced_verdict r e =
      refused_by h.scale.vox_offset r e
      (λ part q. rw q (by_8 part))
      (λ whole large q. rw q (by_9 whole large))

module _ (h : Header) (len : ℕ) (index : List ℕ) where
  -- what follows 9
  abbrev rest : List Row
  rest =
      let v = volume_of h in
      row ImageCut (image_cut v.kind len (image_at v)) 0
      ∷ row IndexOutside (not (within (seven_axes v.dim (axis_count v.dim)) index)) 0
      ∷ row WrongRecord (strays v index) 0
      ∷ []

  abbrev answered : Verdict → Result Extent Refusal
  answered v = decided v (Ok (extent_by (volume_of h) index)) Err

  pub in_stepped : is_whole h.scale.vox_offset ≡ true → stepped_by (volume_of h) len index ≡ stepped_in h len index
  unfolding stepped_in stepped_by
  in_stepped whole = ap answered (whole_verdict h rest whole)

  pub in_refused : (r : Refusal) → offset_of h.scale.vox_offset ≡ Err r
      → Err (misplaced_by h.dim r.rule) ≡ stepped_in h len index
  unfolding stepped_in
  in_refused r e = ap answered (misplaced_verdict h rest r e)

  -- and else the rest, by the whole number that it read
  pub in_whole : (o : Offset) → offset_of h.scale.vox_offset ≡ Ok o
      → stepped_by (volume h.dim (whole_in (Ok o)) h.sizes.total h.sizes.steps h.kind) len index ≡ stepped_in h len index
  in_whole o e =
      let r = known_reads h.scale.vox_offset o e in
      rw (← r.value) (in_stepped r.whole)

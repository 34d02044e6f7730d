-- What rules 5 to 10 decide, rule by rule: each law names the rules that have passed and the one that refuses.
use Rattle.refusal.specs.declared.Rule.TheVariants.{AxisBelowOne, UnknownDatatype, WrongBitpix, OffsetNotWhole, OffsetOutside, ImageTooLarge}
use Rattle.std.specs.Prelude.{Ok, Err, Some, None}
use Prim.Native.Nat.{ℕ, zero, suc, ◌+◌, ◌*◌, ◌/◌, ◌<◌, ◌≤◌}
use mathlib.Core.Path.{◌≡◌, refl, ap, sym, ◌∙◌}
use mathlib.Core.Bool.{true, false, or-false, false≢true}
use mathlib.Core.List.{List}
use native.Mathlib.Omega.{arith}
use borrow.Author.Tests.{ne_eqb, eq-eqb, eqb-true, lt-ltb, le-ltb}
use lib.Dec.{ltb, eqb}
use lib.IntN.{ℤ, pos, negsuc}
use mir.Syntax.{w16}
use mir.Val.{SFits, of_z}
use Rattle.refusal.specs.declared.Refusal.{Refusal}
use Rattle.refusal.specs.Table.{refusal, verdict}
use Rattle.datatype.specs.declared.Format.{Format}
use Rattle.datatype.specs.Datatypes.{datatype_of, is_number}
use Rattle.datatype.proofs.Bits.{number_bits}
use Rattle.datatype.proofs.Sound.{Sound, known_sound}
use Rattle.offset.specs.declared.Offset.{Offset}
use Rattle.offset.specs.Offset.{is_whole, whole_of, whole_in, offset_limit, offset_of}
use Rattle.offset.proofs.Answer.{refused_by, known_reads}
use Rattle.number.specs.Natural.{natural_of}
use Rattle.grid.specs.Axes.{first_below, image_bytes, image_limit, capped}
use Rattle.grid.proofs.Axes.{first_least}
use Rattle.header.specs.declared.Kind.{Kind}
use Rattle.header.specs.declared.Kind.TheVariants.{Single, Pair}
use Rattle.rules.specs.declared.Shape.{Shape}
use Rattle.rules.specs.Rules.{first_bad, axis_count, offset_outside, bytes_of_image, image_of, aligned_in, judged_of, passed}

-- that rules 5 and 6 have passed, and which format the datatype has
pub record HasFormat (f : Shape) (t : Format) : Type 0 where
  pub axes : first_bad f ≡ 0
  pub known : datatype_of f.datatype ≡ Some t

-- that rules 7 and 8 have passed too, with the bytes of a voxel and the voxel offset as a whole number
pub record HasOffset (f : Shape) (t : Format) (at : ℕ) : Type 0 where
  pub format : HasFormat f t
  pub bits : is_number f.bitpix (natural_of t.bits) ≡ true
  pub whole : is_whole f.vox_offset ≡ true
  pub value : whole_of f.vox_offset ≡ at

-- both of an offset that the decoder answers
pub offered : (f : Shape) (t : Format) (o : Offset) (at : ℕ) → first_bad f ≡ 0 → datatype_of f.datatype ≡ Some t
    → is_number f.bitpix (natural_of t.bits) ≡ true → offset_of f.vox_offset ≡ Ok o → at ≡ whole_in (Ok o) → HasOffset f t at
offered f t o at axes known bits e is =
    let r = known_reads f.vox_offset o e in
    record { format = record { axes = axes; known = known }; bits = bits; whole = r.whole; value = r.value ∙ sym is }

-- an offset above the limit is outside in either kind
pub beyond : (kind : Kind) (n len : ℕ) → offset_limit < n → offset_outside kind n len ≡ true
beyond Single n len h = rw (le-ltb n 352 (omega arith), lt-ltb offset_limit n h)
beyond Pair n len h = rw (lt-ltb offset_limit n h)

-- and below the limit the kinds differ
pub single_outside : (n len : ℕ) → n ≤ offset_limit → ltb n 352 ≡ offset_outside Single n len
single_outside n len h = rw (le-ltb offset_limit n h) (sym (or-false (ltb n 352)))

pub pair_outside : (n len : ℕ) → n ≤ offset_limit → ltb offset_limit len ≡ offset_outside Pair n len
pair_outside n len h = rw (le-ltb offset_limit n h)

same_natural : (z : ℤ) (n : ℕ) → is_number z n ≡ true → natural_of z ≡ n
same_natural (pos m) n e = eqb-true m n e
same_natural (negsuc m) n e = absurd (false≢true e)

-- bitpix and the datatype's bits, compared as they are stored
module _ (t : Format) (z : ℤ) (s : Sound t) (fits : SFits w16 z) where
  by_bits_lem : is_number z (natural_of t.bits) ≡ eqb (of_z w16 z) (of_z w16 t.bits)
  by_bits_lem = rw s.bits (number_bits w16 z (t.bytes * 8) fits (omega (arith, s.most)))

  pub bits_differ : (of_z w16 z ≡ of_z w16 t.bits → ⊥) → is_number z (natural_of t.bits) ≡ false
  bits_differ d = by_bits_lem ∙ ne_eqb (of_z w16 z) (of_z w16 t.bits) d

  pub bits_agree : of_z w16 z ≡ of_z w16 t.bits → is_number z (natural_of t.bits) ≡ true
  bits_agree e = by_bits_lem ∙ eq-eqb (of_z w16 z) (of_z w16 t.bits) e

-- rule 5's i is at most dim[0]
pub first_most : (dim : List ℤ) (n : ℕ) → first_below dim n ≤ n
first_most dim n = by (first_below dim n) refl
  where
    by : (k : ℕ) → first_below dim n ≡ k → first_below dim n ≤ n
    by zero e = omega arith
    by (suc i) e = omega (arith, (first_least dim n i e).0)

module _ (f : Shape) (len : ℕ) where
  pub judged_5 : 0 < first_bad f → Err (refusal AxisBelowOne (40 + 2 * first_bad f)) ≡ judged_of f len
  unfolding judged_of verdict
  judged_5 h = simp (ne_eqb (first_bad f) 0 (λ e. omega arith))

  pub judged_6 : first_bad f ≡ 0 → datatype_of f.datatype ≡ None → Err (refusal UnknownDatatype 70) ≡ judged_of f len
  unfolding judged_of verdict
  judged_6 axes unknown = simp (axes, unknown)

  module _ (t : Format) where
    pub judged_7 : HasFormat f t → is_number f.bitpix (natural_of t.bits) ≡ false → Err (refusal WrongBitpix 72) ≡ judged_of f len
    unfolding judged_of verdict
    judged_7 h bits = simp (h.axes, h.known, bits)

    judged_8 : HasFormat f t → is_number f.bitpix (natural_of t.bits) ≡ true → is_whole f.vox_offset ≡ false
        → Err (refusal OffsetNotWhole 108) ≡ judged_of f len
    unfolding judged_of verdict
    judged_8 h bits whole = simp (h.axes, h.known, bits, whole)

    module _ (at : ℕ) (h : HasOffset f t at) where
      -- the bytes of a voxel, as the datatype has them and as bitpix states them
      pub voxel_bytes_lem : natural_of f.bitpix / 8 ≡ t.bytes
      voxel_bytes_lem =
          let s = known_sound f.datatype t h.format.known in
          let e : natural_of f.bitpix ≡ t.bytes * 8 = same_natural f.bitpix (natural_of t.bits) h.bits ∙ ap natural_of s.bits in
          rw e (omega arith)

      -- the product that is taken with the datatype's bytes and dim[0] axes is the image's
      pub image_is : {n : ℕ} → n ≡ axis_count f.dim → capped (image_bytes f.dim n t.bytes) ≡ capped (bytes_of_image f)
      image_is e = rw (e, voxel_bytes_lem)

      pub judged_9 : offset_outside f.kind at len ≡ true → Err (refusal OffsetOutside 108) ≡ judged_of f len
      unfolding judged_of verdict
      judged_9 outside = simp (h.format.axes, h.format.known, h.bits, h.whole, h.value, outside)

      pub judged_10 : offset_outside f.kind at len ≡ false → image_limit < bytes_of_image f → Err (refusal ImageTooLarge 40) ≡ judged_of f len
      unfolding judged_of verdict
      judged_10 inside large =
          let e = lt-ltb image_limit (bytes_of_image f) large in
          simp (h.format.axes, h.format.known, h.bits, h.whole, h.value, inside, e)

      pub judged_passed : offset_outside f.kind at len ≡ false → bytes_of_image f ≤ image_limit → passed (image_of f) (aligned_in f) ≡ judged_of f len
      unfolding judged_of verdict
      judged_passed inside small =
          let e = le-ltb image_limit (bytes_of_image f) small in
          simp (h.format.axes, h.format.known, h.bits, h.whole, h.value, inside, e)

    -- 8, or 9 by its upper bound, as the offset's reading refuses
    pub judged_refused : HasFormat f t → is_number f.bitpix (natural_of t.bits) ≡ true → (r : Refusal) → offset_of f.vox_offset ≡ Err r
        → Err r ≡ judged_of f len
    judged_refused h bits r e =
        let o = whole_of f.vox_offset in
        refused_by f.vox_offset r e (λ w q. ap Err q ∙ judged_8 h bits w)
        (λ w l q.
        ap Err q
        ∙ judged_9 o (record { format = h; bits = bits; whole = w; value = refl }) (beyond f.kind o len l))

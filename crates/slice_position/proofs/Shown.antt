-- The fields that slices and positions ask for are, in an accepted file, its record's.
use Rattle.refusal.specs.declared.Refusal.{Refusal}
use Rattle.refusal.specs.Table.{Verdict, decided}
use Rattle.std.proofs.Common.{Ok, Err, Result}
use Rattle.slice_rank.specs.Ranked.{ranked_by}
use Rattle.timing.specs.declared.Acquisition.{Acquisition}
use Rattle.position.specs.declared.Sform.{Sform}
use Prim.Native.Nat.{ℕ}
use mathlib.Core.Path.{◌≡◌, ap}
use mathlib.Core.List.{List}
use Rattle.header.specs.Fields.{header_of}
use Rattle.reader.specs.Reading.{reading_of}
use Rattle.outline.specs.declared.Outline.{Outline}
use Rattle.outline.specs.Outline.{outline_of}
use Rattle.outline.proofs.Outlines.{shown_header}
use Rattle.timing.specs.Slices.{acquisition_of, slice_by}
use Rattle.position.specs.Positions.{sform_of, position_by}
use Rattle.slice_position.specs.Files.{acquisition_in, sform_in, acquisition_at, sform_at, slice_of, ranked_of, position_at}

module _ (s : List ℕ) (o : Outline) (e : outline_of 0 s ≡ Ok o) where
  pub shown_acquisition : acquisition_in o.layout.order s ≡ acquisition_of (reading_of s).header
  unfolding acquisition_in header_of
  shown_acquisition = ap acquisition_of (shown_header s 0 o e)

  pub shown_sform : sform_in o.layout.order s ≡ sform_of (reading_of s).header
  unfolding sform_in header_of
  shown_sform = ap sform_of (shown_header s 0 o e)

-- ---- an answer by these fields
pub refused_same : {A : Type 0} (q r : Refusal) → ◌≡◌ {A = Result A Refusal} (Err q) (Err r) → q ≡ r
refused_same q r e = cc

refused : {A B : Type 0} (v : Verdict) (a : A) (b : Result B Refusal) (r : Refusal) → decided v (Ok a) Err ≡ Err r → decided v b Err ≡ Err r
refused (Err q) a b r e = let h : q ≡ r = cc in ap Err h
refused (Ok tt) a b r e = cc

answered : {A B : Type 0} (v : Verdict) (f : A → Result B Refusal) (a b : A) → decided v (Ok a) Err ≡ Ok b → decided v (f a) Err ≡ f b
answered (Ok tt) f a b e = let h : a ≡ b = cc in ap f h
answered (Err q) f a b e = cc

module _ (s : List ℕ) where
  pub slice_refused : (n : ℕ) (r : Refusal) → acquisition_at s ≡ Err r → slice_of s n ≡ Err r
  unfolding acquisition_at slice_of
  slice_refused n r = refused (reading_of s).verdict _ _ r

  pub slice_answered : (n : ℕ) (a : Acquisition) → acquisition_at s ≡ Ok a → slice_of s n ≡ slice_by a n
  unfolding acquisition_at slice_of
  slice_answered n a = answered (reading_of s).verdict (λ x. slice_by x n) _ a

  pub rank_refused : (n : ℕ) (r : Refusal) → acquisition_at s ≡ Err r → ranked_of s n ≡ Err r
  unfolding acquisition_at ranked_of
  rank_refused n r = refused (reading_of s).verdict _ _ r

  pub rank_answered : (n : ℕ) (a : Acquisition) → acquisition_at s ≡ Ok a → ranked_of s n ≡ ranked_by a n
  unfolding acquisition_at ranked_of
  rank_answered n a = answered (reading_of s).verdict (λ x. ranked_by x n) _ a

  pub position_refused : (i j k : ℕ) (r : Refusal) → sform_at s ≡ Err r → position_at s i j k ≡ Err r
  unfolding sform_at position_at
  position_refused i j k r = refused (reading_of s).verdict _ _ r

  pub position_answered : (i j k : ℕ) (f : Sform) → sform_at s ≡ Ok f → position_at s i j k ≡ position_by f i j k
  unfolding sform_at position_at
  position_answered i j k f = answered (reading_of s).verdict (λ x. position_by x i j k) _ f

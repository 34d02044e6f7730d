-- What rules 16 and 17 decide of fields that pass their own; and what a place that was answered tells of a record.
use Rattle.std.specs.Prelude.{Ok, Err, Result}
use Prim.Native.Nat.{ℕ}
use mathlib.Core.Path.{◌≡◌}
use mathlib.Core.Bool.{true, false}
use mathlib.Core.List.{List}
use borrow.Author.Tests.{not-false}
use Rattle.refusal.specs.declared.Refusal.{Refusal}
use Rattle.refusal.specs.Table.{verdict, decided, no_refusal}
use Rattle.refusal.proofs.Rows.{Clear, none, one, accepted_clear, verdict-append, clear_split, decided_accepted}
use Rattle.grid.specs.Grid.{within}
use Rattle.header.specs.declared.Header.{Header}
use Rattle.rules.specs.declared.Shape.{Shape}
use Rattle.rules.specs.Rules.{image_of, shape_rows, shape_of_record, record_rows, image_cut}
use Rattle.voxel.specs.declared.Extent.{Extent}
use Rattle.voxel.specs.Voxel.{image_rows_in, voxel_rows, extent_in, located_by}
use Rattle.voxel.specs.Voxel.{lengths_of, image_rows, extent_of, located_in}

-- what is located is not refused
pub unlocated_never {ℓ} : {A : Type ℓ} {r : Refusal} {e : Extent} → ◌≡◌ {A = Result Extent Refusal} (Err r) (Ok e) → A
unlocated_never d = absurd cc

module _ (f : Shape) (len : ℕ) (index : List ℕ) where
  -- of fields that their own rules pass 16 and 17 alone decide
  pub passed_located : verdict (shape_rows f) ≡ no_refusal
      → located_by f len index ≡ decided (verdict (image_rows_in f len index)) (Ok (extent_in f index)) Err
  unfolding located_by
  passed_located e = rw (verdict-append (shape_rows f) (image_rows_in f len index), e)

-- what a place that was answered tells
pub record Found (h : Header) (len : ℕ) (index : List ℕ) (e : Extent) : Type 0 where
  pub rules : Clear (record_rows h)
  pub whole : image_cut h.kind len (image_of (shape_of_record h)) ≡ false
  pub inside : within (lengths_of h) index ≡ true
  pub is : extent_of h index ≡ e

pub found : (h : Header) (len : ℕ) (index : List ℕ) (e : Extent) → located_in h len index ≡ Ok e → Found h len index e
unfolding located_by
found h len index e d =
    let p = decided_accepted (verdict (voxel_rows (shape_of_record h) len index)) (λ r. unlocated_never) d in
    let c = clear_split (record_rows h) (accepted_clear (voxel_rows (shape_of_record h) len index) p.0) in
    by c.1 c.0 p.1
  where
    by : Clear (image_rows h len index) → Clear (record_rows h) → ◌≡◌ {A = Result Extent Refusal} (Ok (extent_of h index)) (Ok e) → Found h len index e
    by (one whole (one inside none)) rules is =
        record { rules = rules; whole = whole; inside = not-false (within (lengths_of h) index) inside; is = cc }

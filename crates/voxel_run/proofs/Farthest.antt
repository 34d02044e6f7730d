-- The farthest place among the first voxels of axis 1: a voxel more, and what a file's verdict says of it.
use Rattle.std.specs.Prelude.{Err, Result}
use Rattle.voxel.specs.declared.Extent.{Extent}
use Prim.Native.Nat.{ℕ, zero, suc, ◌+◌, max}
use mathlib.Core.Path.{◌≡◌, refl, ap, ◌∙◌}
use mathlib.Core.List.{List, []}
use native.Mathlib.Numerals.{add-one}
use Rattle.std.specs.Ordering.{ord_max, nat_cmp}
use Rattle.std.proofs.lemmas.Grind.{common_steps}
use native.Mathlib.Omega.{arith}
use Rattle.refusal.specs.declared.Refusal.{Refusal}
use Rattle.refusal.specs.Table.{decided, Verdict}
use Rattle.reader.specs.Reading.{reading_of, IsAccepted}
use Rattle.voxel.specs.Steps.{stepped_in}
use Rattle.by_file.specs.Files.{located_of}
use Rattle.by_file.proofs.Steps.{read_stepped}
use Rattle.voxel_run.specs.Farthest.{place_of, along, most, farthest_in, farthest}

pub most_none : (f : ℕ → Result Extent Refusal) → most f 0 ≡ 0
unfolding most
most_none f = refl

max_is : (a b : ℕ) → ord_max nat_cmp a b ≡ max a b
max_is a b = grind (arith, common_steps)

-- a turn of either loop: the voxel is located, its place taken, and the greater kept
pub most_next : (f : ℕ → Result Extent Refusal) (k : ℕ) {m p r : ℕ} {l : Result Extent Refusal}
    → m ≡ most f k → l ≡ f k → p ≡ place_of l → r ≡ ord_max nat_cmp m p → r ≡ most f (k + 1)
unfolding most
most_next f k {m = m} {p = n} e d p r = rw add-one (cc (max_is m n))

most_refused : (r : Refusal) (n : ℕ) → most (λ k. Err r) n ≡ 0
unfolding most
most_refused r zero = refl
most_refused r (suc n) = rw (most_refused r n)

most_same : (f g : ℕ → Result Extent Refusal) (n : ℕ) → ((k : ℕ) → f k ≡ g k) → most f n ≡ most g n
unfolding most
most_same f g zero e = refl
most_same f g (suc n) e = rw (most_same f g n e, e n)

-- voxel k of axis 1 by a file's reading
abbrev by_record : List ℕ → Verdict → ℕ → Result Extent Refusal
by_record s v k = decided v (stepped_in (reading_of s).header 0 (along k)) Err

module _ (s : List ℕ) (n : ℕ) where
  by_verdict : (v : Verdict) → (reading_of s).verdict ≡ v → farthest s n ≡ most (by_record s v) n
  by_verdict v e =
      most_same (λ k. located_of s [] (along k)) (by_record s (reading_of s).verdict) n (λ k. read_stepped s [] (along k))
      ∙ ap (λ (v : Verdict). most (by_record s v) n) e

  pub farthest_refused : (r : Refusal) → (reading_of s).verdict ≡ Err r → farthest s n ≡ 0
  farthest_refused r e = by_verdict (Err r) e ∙ most_refused r n

  pub farthest_accepted : IsAccepted s → farthest s n ≡ farthest_in (reading_of s).header n
  farthest_accepted e = by_verdict _ e

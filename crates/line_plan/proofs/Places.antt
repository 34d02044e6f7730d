-- An index with another number on one axis: it is inside where the number is, and the bytes before its voxel grow by the step of the axis. So a
-- line's voxels lie one step from the next, and all are voxels of the image where the last one is.
use Rattle.refusal.specs.declared.Rule.TheVariants.{AxisCount}
use Prim.Native.Nat.{ℕ, zero, suc, ◌+◌, ◌-◌, ◌*◌, ◌≤◌, ◌<◌}
use mathlib.Core.Path.{◌≡◌, refl, sym, ap, ◌∙◌}
use mathlib.Core.Bool.{true, false, false≢true}
use mathlib.Core.List.{List, [], ◌∷◌}
use native.Mathlib.Nat.{add-mul, mul-le-mul_right, not-suc-le-zero, le_of_suc-le-suc}
use native.Mathlib.Omega.{arith}
use borrow.Author.Tests.{ltb-false, lt-ltb, not-false}
use lib.Dec.{ltb}
use lib.IntN.{ℤ}
use lib.ListN.{length, set, get_or}
use Rattle.refusal.specs.Table.{row, no_refusal}
use Rattle.refusal.proofs.Rows.{Clear, none, one, accepted_clear}
use Rattle.grid.specs.Grid.{within}
use Rattle.grid.specs.Axes.{dim_at, image_limit, capped, seven_axes}
use Rattle.grid.specs.Sizes.{bytes_before, Reaches}
use Rattle.grid.proofs.Axes.{seven_at}
use Rattle.grid.proofs.Bounds.{seven_length, within-length}
use Rattle.grid.proofs.Limit.{capped-sum}
use Rattle.grid.proofs.Voxels.{within_both}
use Rattle.rules.specs.Rules.{axis_count, offset_outside, holder}
use Rattle.rules.proofs.Passed.{neither, image_held}
use Rattle.rules.proofs.Sizes.{axes_few}
use Rattle.voxel.specs.declared.Volume.{Volume}
use Rattle.voxel.specs.Steps.{image_at, first_step, strays_by, strays, no_axes}
use Rattle.voxel.proofs.Stepping.{stays, inside_stays, strays_like, stepped_at}
use Rattle.line_plan.specs.Line.{with_number, count_along, axis_outside, line_outside, last_along, widest, line_rows, volume_verdict, Lies}

-- ---- another number on one axis

set-within : (ds is : List ℕ) (j k : ℕ) → within ds is ≡ true → k < get_or ds j 0 → within ds (set is j k) ≡ true
unfolding within
set-within [] [] j k h l = absurd (not-suc-le-zero l)
set-within [] (i ∷ is) j k h l = absurd (false≢true h)
set-within (d ∷ ds) [] j k h l = absurd (false≢true h)
set-within (d ∷ ds) (i ∷ is) zero k h l = rw (lt-ltb k d l) (within_both d ds i is h).1
set-within (d ∷ ds) (i ∷ is) (suc j) k h l =
    let p = within_both d ds i is h in
    rw (lt-ltb i d p.0) (set-within ds is j k p.1 l)

number_inside : (ds is : List ℕ) (j : ℕ) → within ds is ≡ true → j < length ds → get_or is j 0 < get_or ds j 0
unfolding within
number_inside [] is j h l = absurd (not-suc-le-zero l)
number_inside (d ∷ ds) [] j h l = absurd (false≢true h)
number_inside (d ∷ ds) (i ∷ is) zero h l = (within_both d ds i is h).0
number_inside (d ∷ ds) (i ∷ is) (suc j) h l = number_inside ds is j (within_both d ds i is h).1 (le_of_suc-le-suc l)

set_before : (ss is : List ℕ) (j k : ℕ) → j < length ss → j < length is
    → bytes_before ss (set is j k) ≡ bytes_before ss (set is j 0) + k * get_or ss j 0
unfolding bytes_before
set_before [] is j k h g = absurd (not-suc-le-zero h)
set_before (s ∷ ss) [] j k h g = absurd (not-suc-le-zero g)
set_before (s ∷ ss) (i ∷ is) zero k h g = omega arith
set_before (s ∷ ss) (i ∷ is) (suc j) k h g = omega (arith, set_before ss is j k (le_of_suc-le-suc h) (le_of_suc-le-suc g))

-- ---- rule 17

-- an axis and an index inside
pub record Inside (dim : List ℤ) (axis : ℕ) (index : List ℕ) : Type 0 where
  pub first : 1 ≤ axis
  pub last : axis ≤ axis_count dim
  pub few : axis_count dim ≤ 7
  pub given : within (seven_axes dim (axis_count dim)) index ≡ true
  pub own : get_or index (axis - 1) 0 < count_along dim axis
  pub some : 1 ≤ count_along dim axis
  pub each : (k : ℕ) → k < count_along dim axis → within (seven_axes dim (axis_count dim)) (with_number axis index k) ≡ true

pub line_inside : (dim : List ℤ) (axis : ℕ) (index : List ℕ) → no_axes dim ≡ false → line_outside dim axis index ≡ false → Inside dim axis index
unfolding with_number
line_inside dim axis index two e =
    let n : ℕ = axis_count dim in
    let ds : List ℕ = seven_axes dim n in
    let p = neither _ (axis_outside dim axis) e in
    let q = neither (ltb axis 1) (ltb n axis) p.1 in
    let first = ltb-false axis 1 q.0 in
    let last = ltb-false n axis q.1 in
    let few = axes_few (dim_at dim 0) two in
    let inside = not-false (within ds index) p.0 in
    let j : ℕ = axis - 1 in
    let at : axis ≡ suc j = omega arith in
    let length-is : get_or ds j 0 ≡ count_along dim axis =
    seven_at dim n j (omega arith) ∙ rw (lt-ltb j n (omega arith)) (ap (λ (i : ℕ). count_along dim i) (sym at)) in
    let own : get_or index j 0 < count_along dim axis = rw length-is at (number_inside ds index j inside (omega (arith, seven_length dim n few))) in
    record {
      first = first;
      last = last;
      few = few;
      given = inside;
      own = own;
      some = omega arith;
      each = λ k l. set-within ds index j k inside (omega (arith, length-is));
    }

-- the number that the index has on the axis is one of the line's
set_same : (is : List ℕ) (j : ℕ) → set is j (get_or is j 0) ≡ is
set_same [] j = refl
set_same (i ∷ is) zero = refl
set_same (i ∷ is) (suc j) = ap (λ (l : List ℕ). i ∷ l) (set_same is j)

pub own_number : (dim : List ℤ) (axis : ℕ) (index : List ℕ) → Inside dim axis index
    → (get_or index (axis - 1) 0 < count_along dim axis) × (with_number axis index (get_or index (axis - 1) 0) ≡ index)
unfolding with_number
own_number dim axis index p = (p.own, set_same index (axis - 1))

-- ---- the voxels of a line

module _ (v : Volume) (axis : ℕ) (index : List ℕ) (seven : length v.sizes.steps ≡ 7) (inside : Inside v.dim axis index) where
  abbrev steps : List ℕ
  steps = v.sizes.steps

  abbrev count : ℕ
  count = count_along v.dim axis

  -- the step of the axis
  abbrev step : ℕ
  step = get_or steps (axis - 1) 0

  -- each is a step from the one before
  pub before_along : (k : ℕ) → bytes_before steps (with_number axis index k) ≡ bytes_before steps (with_number axis index 0) + k * step
  unfolding with_number
  before_along k =
      let ds : List ℕ = seven_axes v.dim (axis_count v.dim) in
      let long = within-length ds index inside.given ∙ seven_length v.dim (axis_count v.dim) inside.few in
      let first = inside.first in
      let last = inside.last in
      let few = inside.few in
      set_before steps index (axis - 1) k (omega arith) (omega arith)

  -- where the last is one of the image, all are
  pub all_stay : strays v (with_number axis index (count - 1)) ≡ false → (k : ℕ) → k < count → strays v (with_number axis index k) ≡ false
  all_stay e k l =
      let far = bytes_before steps (with_number axis index (count - 1)) in
      let s = stays v.sizes.total far (first_step v) e in
      let grown = mul-le-mul_right {m = k} {n = count - 1} step (omega arith) in
      inside_stays v.sizes.total (bytes_before steps (with_number axis index k)) (first_step v) s.0 s.1
      (omega (arith, s.2, before_along k, before_along (count - 1)))

  -- by a sum r that rule 10 does not tell from the bytes before the voxel of the index, whose number on the axis is i
  abbrev i : ℕ
  i = get_or index (axis - 1) 0

  own_before : bytes_before steps index ≡ bytes_before steps (with_number axis index 0) + i * step
  own_before = ap (bytes_before steps) (sym (own_number v.dim axis index inside).1) ∙ before_along i

  last_before : bytes_before steps (with_number axis index (count - 1)) ≡ bytes_before steps index + (count - 1 - i) * step
  last_before =
      let n : ℕ = count - 1 - i in
      let all : count - 1 ≡ i + n = omega (arith, (own_number v.dim axis index inside).0) in
      omega (arith, before_along (count - 1), own_before, ap (λ (m : ℕ). m * step) all, add-mul i n step)

  pub last_like : (r : ℕ) → capped r ≡ capped (bytes_before steps index)
      → capped (r + (count - 1 - i) * capped step) ≡ capped (bytes_before steps (with_number axis index (count - 1)))
  last_like r e =
      let n : ℕ = count - 1 - i in
      omega (arith, capped-sum r n step 0, last_before)

  -- where the last one is one of the image, the sum is exact
  pub first_exact : (r : ℕ) → capped r ≡ capped (bytes_before steps index) → strays v (with_number axis index (count - 1)) ≡ false
      → (r ≡ bytes_before steps (with_number axis index 0) + i * step) × (r ≤ image_limit)
  first_exact r e kept =
      let s = stays v.sizes.total (bytes_before steps (with_number axis index (count - 1))) (first_step v) kept in
      (omega (arith, s, last_before, own_before), omega (arith, s, last_before, own_before))

-- By a sum `before` that rule 10 does not tell from the bytes before the voxel of the index: the sum for the line's last voxel decides 26, and
-- where that passes the first one's place is exact.
pub record Sums (v : Volume) (axis : ℕ) (index : List ℕ) (before : ℕ) : Type 0 where
  pub first : 1 ≤ axis
  pub last : axis ≤ 7
  pub own : get_or index (axis - 1) 0 < count_along v.dim axis
  pub small : before ≤ 7 * (32767 * (image_limit + 1))
  pub far : strays_by v.sizes.total (before + (count_along v.dim axis - 1 - get_or index (axis - 1) 0) * capped (get_or v.sizes.steps (axis - 1) 0)) (first_step v)
      ≡ strays v (last_along v axis index)
  pub exact : strays v (last_along v axis index) ≡ false
      → (before ≡ bytes_before v.sizes.steps (with_number axis index 0) + get_or index (axis - 1) 0 * get_or v.sizes.steps (axis - 1) 0)
      × (before ≤ image_limit)

pub sums : (v : Volume) (axis : ℕ) (index : List ℕ) (before : ℕ) → length v.sizes.steps ≡ 7
    → (no_axes v.dim ≡ false) × (offset_outside v.kind v.offset 0 ≡ false) × (line_outside v.dim axis index ≡ false)
    × Reaches (seven_axes v.dim (axis_count v.dim)) v.sizes.steps index before
    → Sums v axis index before
sums v axis index before seven (two, nine, passed, r) =
    let inside = line_inside v.dim axis index two passed in
    let like = r.inside inside.given in
    record {
      first = inside.first;
      last = omega (arith, inside.last, inside.few);
      own = inside.own;
      small = r.small inside.given;
      far = strays_like v.sizes.total (first_step v) _ _ (last_like v axis index seven inside before like);
      exact = first_exact v axis index seven inside before like;
    }

-- a line that none of the rules refuses, of a file and an image file
pub line_lies : (v : Volume) (file image : List ℕ) (axis : ℕ) (index : List ℕ) (out : ℕ) → length v.sizes.steps ≡ 7
    → volume_verdict v (length file) (length image) axis index out ≡ no_refusal
    → Lies v (length (holder v.kind file image)) (length image) axis index out
line_lies v file image axis index out seven a =
    by (accepted_clear (row AxisCount (no_axes v.dim) 40 ∷ line_rows v (length file) (length image) axis index out) a)
  where
    by : Clear (row AxisCount (no_axes v.dim) 40 ∷ line_rows v (length file) (length image) axis index out)
        → Lies v (length (holder v.kind file image)) (length image) axis index out
    by (one two (one nine (one eleven (one sixteen (one seventeen (one sizes (one room none))))))) =
        let inside = line_inside v.dim axis index two seventeen in
        let p = neither (strays v (last_along v axis index)) (ltb widest (first_step v)) sizes in
        let kept = all_stay v axis index seven inside p.0 in
        record {
          first = inside.first;
          last = omega (arith, inside.last, inside.few);
          some = inside.some;
          wide = ltb-false widest (first_step v) p.1;
          located = λ k l.
              sym (stepped_at v (length image) (with_number axis index k) two nine sixteen (inside.each k l) (kept k l));
          stepped = before_along v axis index seven inside;
          held = λ k l.
              let s = stays v.sizes.total (bytes_before v.sizes.steps (with_number axis index k)) (first_step v) (kept k l) in
              omega (arith, s.2, image_held v.kind (image_at v) file image eleven sixteen);
          room = ltb-false out (count_along v.dim axis * first_step v) room;
        }

-- The laws of specs/Grid.antt: each number below how many voxels there are is that of exactly one index, and so each byte of an
-- image lies in exactly one voxel, at one place of it. Then what the loops over the axes ask.
use mathlib.Core.Path.{◌≡◌, refl, sym, ap, ◌∙◌}
use mathlib.Core.Bool.{true, ◌&&◌, and-eq-true_iff, false≢true}
use mathlib.Core.List.{List, [], ◌∷◌}
use Prim.Native.Nat.{ℕ, zero, suc, ◌+◌, ◌-◌, ◌*◌, ◌/◌, ◌%◌, ◌≤◌, ◌<◌, zero-le, suc-le-suc}
use native.Mathlib.Nat.{mul_comm, zero-mul, mod-lt, mod-add-div, div-lt_iff_lt-mul, not-suc-le-zero}
use native.Mathlib.Numerals.{add-one}
use native.Mathlib.Omega.{arith}
use lib.ListN.{length, get_or, drop, drop_of_length-le}
use lib.Seq.{drop-cons}
use lib.Arith.{digits_lt, digits_div, digits_mod}
use lib.Dec.{ltb}
use borrow.Author.Tests.{ltb-true, lt-ltb}
use Rattle.grid.specs.Grid.{voxels, within, voxel_number, index_of}

-- an index within: its first number, and the others
pub within_both : (d : ℕ) (ds : List ℕ) (i : ℕ) (is : List ℕ) → within (d ∷ ds) (i ∷ is) ≡ true → (i < d) × (within ds is ≡ true)
unfolding within
within_both d ds i is h =
    let p = (and-eq-true_iff (ltb i d) (within ds is)).0 h in
    (ltb-true i d p.0, p.1)

-- a voxel's number is below how many there are
pub number_below : (ds is : List ℕ) → within ds is ≡ true → voxel_number ds is < voxels ds
unfolding within voxel_number voxels
number_below [] [] h = omega arith
number_below [] (i ∷ is) h = absurd (false≢true h)
number_below (d ∷ ds) [] h = absurd (false≢true h)
number_below (d ∷ ds) (i ∷ is) h =
    let p = within_both d ds i is h in
    let k : voxel_number ds is * d + i < voxels ds * d = digits_lt (number_below ds is p.1) p.0 in
    omega (arith, mul_comm (voxel_number ds is) d, mul_comm (voxels ds) d)

-- two indexes of one number are one index
pub number_injective : (ds is js : List ℕ) → within ds is ≡ true → within ds js ≡ true → voxel_number ds is ≡ voxel_number ds js
    → is ≡ js
unfolding within voxel_number
number_injective [] [] [] h g e = refl
number_injective [] [] (j ∷ js) h g e = absurd (false≢true g)
number_injective [] (i ∷ is) js h g e = absurd (false≢true h)
number_injective (d ∷ ds) [] js h g e = absurd (false≢true h)
number_injective (d ∷ ds) (i ∷ is) [] h g e = absurd (false≢true g)
number_injective (d ∷ ds) (i ∷ is) (j ∷ js) h g e =
    let p = within_both d ds i is h in
    let q = within_both d ds j js g in
    let u : ℕ = voxel_number ds is in
    let v : ℕ = voxel_number ds js in
    let f : u * d + i ≡ v * d + j = omega (arith, mul_comm u d, mul_comm v d) in
    let low : i ≡ j = sym (digits_mod u p.0) ∙ ap (λ (n : ℕ). n % d) f ∙ digits_mod v q.0 in
    let high : u ≡ v = sym (digits_div u p.0) ∙ ap (λ (n : ℕ). n / d) f ∙ digits_div v q.0 in
    let rest : is ≡ js = number_injective ds is js p.1 q.1 high in
    cc

-- the first digit of a number below d * n, taken off
pub digit_off : (d n k : ℕ) → k < d * n → (0 < d) × (k / d < n)
digit_off zero n k h = let z : k < 0 = rw zero-mul at h in absurd (not-suc-le-zero z)
digit_off (suc d) n k h =
    let pos : 0 < suc d = suc-le-suc zero-le in
    (pos, (div-lt_iff_lt-mul pos).1 (rw mul_comm at h))

-- each number below how many voxels there are is that of an index within
pub index_within : (ds : List ℕ) (k : ℕ) → k < voxels ds → within ds (index_of ds k) ≡ true
unfolding within voxels index_of
index_within [] k h = refl
index_within (d ∷ ds) k h =
    let p = digit_off d (voxels ds) k h in
    rw (lt-ltb (k % d) d (mod-lt k p.0)) (index_within ds (k / d) p.1)

pub index_number : (ds : List ℕ) (k : ℕ) → k < voxels ds → voxel_number ds (index_of ds k) ≡ k
unfolding voxel_number voxels index_of
index_number [] k h = omega arith
index_number (d ∷ ds) k h = rw (index_number ds (k / d) (digit_off d (voxels ds) k h).1) (mod-add-div k d)

-- and the index of that number is the index itself
pub number_index : (ds is : List ℕ) → within ds is ≡ true → index_of ds (voxel_number ds is) ≡ is
number_index ds is h =
    let k = voxel_number ds is in
    let l = number_below ds is h in
    number_injective ds (index_of ds k) is (index_within ds k l) h (index_number ds k l)

-- An image from the byte off on, of b bytes for each voxel. Byte o of a voxel is a byte of the image;
pub byte_inside : (ds is : List ℕ) (b off o : ℕ) → within ds is ≡ true → o < b → off + b * voxel_number ds is + o < off + b * voxels ds
byte_inside ds is b off o h g =
    let k : voxel_number ds is * b + o < voxels ds * b = digits_lt (number_below ds is h) g in
    omega (arith, mul_comm (voxel_number ds is) b, mul_comm (voxels ds) b)

-- no byte is in two voxels, or at two places of one;
pub byte_one : (ds is js : List ℕ) (b off o p : ℕ) → within ds is ≡ true → within ds js ≡ true → o < b → p < b
    → off + b * voxel_number ds is + o ≡ off + b * voxel_number ds js + p → (is ≡ js) × (o ≡ p)
byte_one ds is js b off o p h g l m e =
    let u : ℕ = voxel_number ds is in
    let v : ℕ = voxel_number ds js in
    let f : u * b + o ≡ v * b + p = omega (arith, mul_comm u b, mul_comm v b) in
    let r : u ≡ v = sym (digits_div u l) ∙ ap (λ (n : ℕ). n / b) f ∙ digits_div v m in
    (number_injective ds is js h g r, omega (arith, ap (λ (n : ℕ). n * b) r))

-- and each byte of the image is in one.
pub byte_some : (ds : List ℕ) (b off x : ℕ) → off ≤ x → x < off + b * voxels ds
    → (is : List ℕ) × (o : ℕ) × (within ds is ≡ true) × (o < b) × (off + b * voxel_number ds is + o ≡ x)
byte_some ds b off x h g =
    let y : ℕ = x - off in
    let p = digit_off b (voxels ds) y (omega arith) in
    let r : voxel_number ds (index_of ds (y / b)) ≡ y / b = index_number ds (y / b) p.1 in
    (index_of ds (y / b), y % b, index_within ds (y / b) p.1, mod-lt y p.0, rw r (omega (arith, mod-add-div y b)))

-- One axis more, and the end of the axes, for a loop over them.
module _ (ds is : List ℕ) (k : ℕ) where
  pub within_next : k < length ds → k < length is
      → within (drop k ds) (drop k is) ≡ (ltb (get_or is k 0) (get_or ds k 0) && within (drop (k + 1) ds) (drop (k + 1) is))
  unfolding within
  within_next h g = rw (add-one, drop-cons ds k 0, drop-cons is k 0)

  pub within_end : length ds ≤ k → length is ≤ k → within (drop k ds) (drop k is) ≡ true
  unfolding within
  within_end h g = rw (drop_of_length-le ds h, drop_of_length-le is g)

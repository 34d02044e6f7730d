-- The part of a list between two places, for the crates that cut and move bytes; a list that is filled up, and grows.
use Prim.Native.Nat.{ℕ, zero, suc, ◌+◌, ◌-◌, ◌<◌}
use mathlib.Core.Path.{◌≡◌, sym, ◌∙◌}
use mathlib.Core.List.{List, [], ◌∷◌, ◌++◌}
use native.Mathlib.Nat.{sub-zero, zero-sub, suc-sub-suc, add-sub_cancel_left}
use native.Mathlib.Omega.{arith}
use lib.ListN.{length, take, drop, set, replicate, length-append}
use lib.Seq.{take-nil, set-append_seam, append_snoc}

-- what lies from m on of the first n is the first n - m of what lies from m on
pub drop-take : (m n : ℕ) (l : List ℕ) → drop m (take n l) ≡ take (n - m) (drop m l)
drop-take zero n l = rw sub-zero
drop-take (suc m) zero l = rw zero-sub
drop-take (suc m) (suc n) [] = sym (take-nil (suc n - suc m))
drop-take (suc m) (suc n) (x ∷ xs) = rw suc-sub-suc (drop-take m n xs)

-- the k from m on
pub drop-take_add : (m k : ℕ) (l : List ℕ) → drop m (take (m + k) l) ≡ take k (drop m l)
drop-take_add m k l = rw (drop-take m (m + k) l, add-sub_cancel_left)

-- a list that is filled up with z to n elements: an element stored behind it makes it one longer
pub fill_more {ℓ} : {A : Type ℓ} (l : List A) (z x : A) (n : ℕ) → length l < n
    → set (l ++ replicate (n - length l) z) (length l) x ≡ (l ++ (x ∷ [])) ++ replicate (n - length (l ++ (x ∷ []))) z
fill_more l z x n h =
    let k : length (l ++ (x ∷ [])) ≡ length l + 1 = length-append l (x ∷ []) in
    let m : n - length l ≡ suc (n - (length l + 1)) = omega arith in
    let zeros = replicate (n - (length l + 1)) z in
    rw (k, m) (set-append_seam l z zeros x ∙ sym (append_snoc l x zeros))

-- The bytes of a region as a part of the file, and the numbers in them.
use Prim.Native.Nat.{ℕ, ◌+◌, ◌-◌, ◌<◌, min}
use mathlib.Core.Path.{◌≡◌, sym}
use mathlib.Core.List.{List}
use native.Mathlib.Omega.{arith}
use lib.ListN.{length, take, drop, get_or, length-take, length-drop}
use lib.Seq.{ext_get_or, get_or-take, get_or-drop}
use Rattle.field.specs.declared.Order.{Order}
use Rattle.field.specs.Numbers.{u32_at}
use Rattle.extension.specs.Walk.{rest_of}

pub length_rest : (file : List ℕ) (end at : ℕ) → length (rest_of file end at) ≡ min end (length file) - at
length_rest file end at = simp (length-drop, length-take)

-- a byte of the region is a byte of the file
pub get_d_rest : (file : List ℕ) (end at i : ℕ) → i < length (rest_of file end at) → get_or (rest_of file end at) i 0 ≡ get_or file (at + i) 0
get_d_rest file end at i h =
    let l = length_rest file end at in
    rw (get_or-drop at (take end file) i 0, get_or-take end file (at + i) 0 (omega arith))

-- a region's bytes from a place on, as a part of the file that starts and ends inside it
pub part_rest : (file : List ℕ) (end at stop from : ℕ) → stop ≡ min end (length file) → from ≡ min at stop
    → take (stop - from) (drop from file) ≡ rest_of file end at
part_rest file end at stop from e f =
    let l = length_rest file end at in
    ext_get_or 0 (take (stop - from) (drop from file)) (rest_of file end at) (simp (length-take, length-drop) (omega arith))
    (λ i below.
    let h : i < min (stop - from) (length file - from) = simp (length-take, length-drop) at below in
    let same : from + i ≡ at + i = omega arith in
    rw (get_or-take (stop - from) (drop from file) i 0 (omega arith), get_or-drop from file i 0, same) (sym (get_d_rest file end at i (omega arith))))

-- a number depends on its own four bytes alone
pub u32_same : (order : Order) (s t : List ℕ) (i j : ℕ) → ((k : ℕ) → k < 4 → get_or s (i + k) 0 ≡ get_or t (j + k) 0) → u32_at order s i ≡ u32_at order t j
unfolding u32_at
u32_same order s t i j h = rw (h 0 (omega arith), h 1 (omega arith), h 2 (omega arith), h 3 (omega arith))

-- What a turn makes of an image (02-change-requests.md, P10): "axes 1 to 3 permuted and any of these old axes reversed; the turn names
-- the old axis for each new one, and higher axes go along."
use Rattle.std.specs.Prelude.{Bool, true, false, cond, not, ◌&&◌, ◌||◌, List, [], ◌∷◌, ℕ, ◌-◌, ◌*◌, get_or, take, drop, eqb}
use Rattle.grid.specs.Grid.{voxels, voxel_number, index_of}
use Rattle.gather_row.specs.Series.{series}
use Rattle.gather_row.specs.declared.Axis.{Axis}
use Rattle.reorient.specs.declared.Turn.{Turn}

-- old axis o is shown by one of the new axes
abbrev pub named : Turn → ℕ → Bool
named t o = eqb t.axis1 o || (eqb t.axis2 o || eqb t.axis3 o)

-- rule 30 is that this is false: each of the old axes 1 to 3 is shown
abbrev pub is_permutation : Turn → Bool
is_permutation t = named t 1 && (named t 2 && named t 3)

-- ---- Lists with a member for each axis

-- from the old axes to the new: each of the first three has the member of the old axis that it shows, the others go along. d stands for a
-- member that is not there.
unfoldable pub permuted : {A : Type 0} → A → Turn → List A → List A
permuted d t xs = get_or xs (t.axis1 - 1) d ∷ (get_or xs (t.axis2 - 1) d ∷ (get_or xs (t.axis3 - 1) d ∷ drop 3 xs))

-- of x, y and z, which the new axes 1 to 3 have, the one of the axis that shows old axis o
abbrev pub shown_as : {A : Type 0} → Turn → ℕ → A → A → A → A
shown_as t o x y z = cond (eqb t.axis1 o) x (cond (eqb t.axis2 o) y z)

-- from the new axes back to the old
unfoldable pub unpermuted : {A : Type 0} → A → Turn → List A → List A
unpermuted d t xs =
    shown_as t 1 (get_or xs 0 d) (get_or xs 1 d) (get_or xs 2 d)
    ∷ (shown_as t 2 (get_or xs 0 d) (get_or xs 1 d) (get_or xs 2 d)
    ∷ (shown_as t 3 (get_or xs 0 d) (get_or xs 1 d) (get_or xs 2 d)
    ∷ drop 3 xs))

-- ---- Voxels

-- which of the old axes 1 to 3 are reversed
abbrev pub reversals : Turn → List Bool
reversals t = t.reversed1 ∷ (t.reversed2 ∷ (t.reversed3 ∷ []))

-- number i of an axis of n, counted from the other end where the axis is reversed
abbrev pub mirrored : Bool → ℕ → ℕ → ℕ
mirrored false n i = i
mirrored true n i = n - 1 - i

-- the same of an index, with the lengths of its axes and a reversal for each of the first
unfoldable pub mirrored_in : List Bool → List ℕ → List ℕ → List ℕ
mirrored_in [] ns is = is
mirrored_in (r ∷ rs) [] is = is
mirrored_in (r ∷ rs) (n ∷ ns) [] = []
mirrored_in (r ∷ rs) (n ∷ ns) (i ∷ is) = mirrored r n i ∷ mirrored_in rs ns is

-- the index of the old voxel that the new voxel js came from; ns are the old lengths
unfoldable pub came_from : Turn → List ℕ → List ℕ → List ℕ
came_from t ns js = mirrored_in (reversals t) ns (unpermuted 0 t js)

-- the same by number
unfoldable pub source_of : Turn → List ℕ → ℕ → ℕ
source_of t ns k = voxel_number ns (came_from t ns (index_of (permuted 0 t ns) k))

-- "Each voxel's bytes are those of the voxel it came from": the new image, from an old one s with b bytes for each voxel
unfoldable pub reoriented : ℕ → List ℕ → Turn → List ℕ → List ℕ
reoriented b ns t s = series (λ k. take b (drop (b * source_of t ns k) s)) (voxels ns)

-- ---- Turns after one another

-- exactly one of the two holds
abbrev pub one_of : Bool → Bool → Bool
one_of false q = q
one_of true q = not q

-- "One turn followed by another": t, and then u, as one turn. An old axis is reversed by t, or by u where u's old axes are t's new ones.
unfoldable pub composed : Turn → Turn → Turn
composed t u =
    record {
      axis1 = get_or (t.axis1 ∷ (t.axis2 ∷ (t.axis3 ∷ []))) (u.axis1 - 1) 0;
      axis2 = get_or (t.axis1 ∷ (t.axis2 ∷ (t.axis3 ∷ []))) (u.axis2 - 1) 0;
      axis3 = get_or (t.axis1 ∷ (t.axis2 ∷ (t.axis3 ∷ []))) (u.axis3 - 1) 0;
      reversed1 = one_of t.reversed1 (shown_as t 1 u.reversed1 u.reversed2 u.reversed3);
      reversed2 = one_of t.reversed2 (shown_as t 2 u.reversed1 u.reversed2 u.reversed3);
      reversed3 = one_of t.reversed3 (shown_as t 3 u.reversed1 u.reversed2 u.reversed3);
    }

-- the turn that undoes t
unfoldable pub inverse : Turn → Turn
inverse t =
    record {
      axis1 = shown_as t 1 1 2 3;
      axis2 = shown_as t 2 1 2 3;
      axis3 = shown_as t 3 1 2 3;
      reversed1 = get_or (reversals t) (t.axis1 - 1) false;
      reversed2 = get_or (reversals t) (t.axis2 - 1) false;
      reversed3 = get_or (reversals t) (t.axis3 - 1) false;
    }

-- the turn that leaves each axis as it is
unfoldable pub identity : Turn
identity = record { axis1 = 1; axis2 = 2; axis3 = 3; reversed1 = false; reversed2 = false; reversed3 = false }

-- ---- How the new image is made: gathered along the old axes

abbrev pub no_axis : Axis
no_axis = record { length = 0; up = 0; down = 0 }

-- an axis of n numbers, `step` bytes from one to the next
abbrev pub axis_of : ℕ → ℕ → Bool → Axis
axis_of n step false = record { length = n; up = step; down = 0 }
axis_of n step true = record { length = n; up = 0; down = step }

-- the axes of the old image, the first with the step given
unfoldable pub old_axes : ℕ → List Bool → List ℕ → List Axis
old_axes step rs [] = []
old_axes step rs (n ∷ ns) = axis_of n step (get_or rs 0 false) ∷ old_axes (step * n) (drop 1 rs) ns

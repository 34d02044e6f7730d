-- What every format of the table has in common, by one test over the whole table: a voxel takes 1 to 32 bytes, which are its
-- bits and divide into swap units.
use Rattle.std.specs.Prelude.{Some, None, Option}
use Prim.Native.Nat.{ℕ, ◌*◌, ◌%◌, ◌≤◌}
use mathlib.Core.Path.{◌≡◌, refl, ap}
use mathlib.Core.Bool.{Bool, true, false, cond, ◌&&◌, and-eq-true_iff}
use mathlib.Core.List.{List, [], ◌∷◌}
use native.Mathlib.Omega.{arith}
use borrow.Author.Tests.{leb-true, eqb-true}
use lib.Dec.{eqb, leb}
use lib.IntN.{ℤ, pos}
use Rattle.datatype.specs.Datatypes.{Entry, datatypes, datatype_of, is_number, format_of, lookup}
use Rattle.datatype.specs.declared.Format.{Format}

pub record Sound (f : Format) : Type 0 where
  pub some : 1 ≤ f.bytes
  pub most : f.bytes ≤ 32
  pub bits : f.bits ≡ pos (f.bytes * 8)
  pub unit_some : 1 ≤ f.unit
  pub unit_most : f.unit ≤ 16
  pub divides : f.bytes % f.unit ≡ 0

abbrev sound : Entry → Bool
sound r =
    let f = format_of r in
    leb 1 f.bytes
    && (leb f.bytes 32
    && (eqb r.bits (f.bytes * 8)
    && (leb 1 f.unit && (leb f.unit 16 && eqb (f.bytes % f.unit) 0))))

abbrev all_sound : List Entry → Bool
all_sound [] = true
all_sound (r ∷ rs) = sound r && all_sound rs

entry_sound : (r : Entry) → sound r ≡ true → Sound (format_of r)
entry_sound r h =
    let f = format_of r in
    let t5 : Bool = leb f.unit 16 && eqb (f.bytes % f.unit) 0 in
    let t4 : Bool = leb 1 f.unit && t5 in
    let t3 : Bool = eqb r.bits (f.bytes * 8) && t4 in
    let p1 = (and-eq-true_iff (leb 1 f.bytes) (leb f.bytes 32 && t3)).0 h in
    let p2 = (and-eq-true_iff (leb f.bytes 32) t3).0 p1.1 in
    let p3 = (and-eq-true_iff (eqb r.bits (f.bytes * 8)) t4).0 p2.1 in
    let p4 = (and-eq-true_iff (leb 1 f.unit) t5).0 p3.1 in
    let p5 = (and-eq-true_iff (leb f.unit 16) (eqb (f.bytes % f.unit) 0)).0 p4.1 in
    record {
      some = leb-true 1 f.bytes p1.0;
      most = leb-true f.bytes 32 p2.0;
      bits = ap pos (eqb-true r.bits (f.bytes * 8) p3.0);
      unit_some = leb-true 1 f.unit p4.0;
      unit_most = leb-true f.unit 16 p5.0;
      divides = eqb-true (f.bytes % f.unit) 0 p5.1;
    }

-- an unknown code has no format
pub unknown_never {ℓ} : {A : Type ℓ} {f : Format} → None ≡ Some f → A
unknown_never e = let q : ◌≡◌ {A = ℕ} 0 1 = cc in absurd (omega arith)

pick_known : (t : Bool) (f g : Format) (d : Option Format) → cond t (Some g) d ≡ Some f → Sound g → (d ≡ Some f → Sound f) → Sound f
pick_known true f g d e s rest = let q : g ≡ f = cc in rw (← q) s
pick_known false f g d e s rest = rest e

entries_sound : (z : ℤ) (f : Format) (rs : List Entry) → all_sound rs ≡ true → lookup z rs ≡ Some f → Sound f
entries_sound z f [] h e = unknown_never e
entries_sound z f (r ∷ rs) h e =
    let p = (and-eq-true_iff (sound r) (all_sound rs)).0 h in
    pick_known (is_number z r.code) f (format_of r) (lookup z rs) e (entry_sound r p.0) (λ g. entries_sound z f rs p.1 g)

pub known_sound : (z : ℤ) (f : Format) → datatype_of z ≡ Some f → Sound f
unfolding datatype_of
known_sound z f e = entries_sound z f datatypes refl e

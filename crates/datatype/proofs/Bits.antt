-- A signed code is looked up by its bits: in two's complement no negative number has the bits of a code of the table.
use Rattle.std.specs.Prelude.{Some, None, Option}
use Rattle.datatype.specs.declared.Format.{Format}
use Prim.Native.Nat.{ℕ, suc, ◌-◌, ◌<◌, ◌^◌}
use mathlib.Core.Path.{◌≡◌, refl, ap, sym, ◌∙◌}
use mathlib.Core.Bool.{Bool, true, cond, ◌&&◌, and-eq-true_iff}
use mathlib.Core.List.{List, [], ◌∷◌}
use native.Mathlib.Omega.{arith}
use borrow.Author.Tests.{ne_eqb, ltb-true}
use lib.Dec.{eqb, ltb}
use lib.IntN.{ℤ, pos, negsuc}
use mir.Syntax.{Width, w16}
use mir.Val.{SFits, bits, hbits, of_z}
use mir.ValLaws.{pow-bits}
use Rattle.datatype.specs.Datatypes.{Entry, datatypes, datatype_of, is_number, format_of, lookup}

-- at any width: a number that is not negative is its own bits, and a negative one has those of none in the lower half
pub number_bits : (w : Width) (z : ℤ) (n : ℕ) → SFits w z → n < 2 ^ hbits w → is_number z n ≡ eqb (of_z w z) n
number_bits w (pos m) n f h = refl
number_bits w (negsuc m) n f h =
    let k : m < 2 ^ hbits w = f.sfits in
    sym (ne_eqb (2 ^ bits w - suc m) n (λ e. omega (arith, pow-bits w)))

abbrev pub by_bits : ℕ → List Entry → Option Format
by_bits n [] = None
by_bits n (r ∷ rs) = cond (eqb n r.code) (Some (format_of r)) (by_bits n rs)

abbrev small : List Entry → Bool
small [] = true
small (r ∷ rs) = ltb r.code 32768 && small rs

lookup_bits : (z : ℤ) (rs : List Entry) → SFits w16 z → small rs ≡ true → lookup z rs ≡ by_bits (of_z w16 z) rs
lookup_bits z [] f h = refl
lookup_bits z (r ∷ rs) f h =
    let p = (and-eq-true_iff (ltb r.code 32768) (small rs)).0 h in
    rw (number_bits w16 z r.code f (ltb-true r.code 32768 p.0), lookup_bits z rs f p.1)

-- a code whose bits are n has the format that n has in the table
pub by_bits_lem : (z : ℤ) (n : ℕ) {d : Option Format} → SFits w16 z → of_z w16 z ≡ n → d ≡ by_bits n datatypes → d ≡ datatype_of z
unfolding datatype_of
by_bits_lem z n f e h = h ∙ sym (lookup_bits z datatypes f refl ∙ ap (λ (m : ℕ). by_bits m datatypes) e)

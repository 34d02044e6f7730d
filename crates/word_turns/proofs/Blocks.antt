-- Loops over blocks of p units of w bytes, which are b bytes, up to a fixed end, with what is left counted in bytes: one invariant and three laws for
-- every such loop.
use mathlib.Core.Path.{◌≡◌, refl, sym, ap, ◌∙◌}
use mathlib.Core.List.{List}
use Prim.Native.Nat.{ℕ, ◌+◌, ◌*◌, ◌-◌, ◌/◌, ◌≤◌, ◌<◌}
use native.Mathlib.Nat.{add-mul-div_right, div-mul-le_self, mul-div_cancel}
use native.Mathlib.Omega.{arith}
use lib.ListN.{length}
use Rattle.units.specs.Units.{turned_at}
use Rattle.units.proofs.Units.{turned_next}
use Rattle.word_blocks.specs.Blocks.{Wide, fours, eights, sixteens}

-- the units that are left, turned round, come to what the whole was to be at the start
pub record Left (w start count : ℕ) (l₀ : List ℕ) (end left : ℕ) (l : List ℕ) : Type 0 where
  pub within : left ≤ end
  pub room : end ≤ length l
  pub same : length l ≡ length l₀
  pub comes : turned_at w start count l₀ ≡ turned_at w (end - left) (left / w) l

module _ (w start count : ℕ) (l₀ : List ℕ) (positive : 0 < w) where
  pub left_all : start + count * w ≤ length l₀ → Left w start count l₀ (start + count * w) (count * w) l₀
  left_all room =
      let from : start + count * w - count * w ≡ start = omega arith in
      let all : count * w / w ≡ count = mul-div_cancel count positive in
      record { within = omega arith; room = room; same = refl; comes = sym (rw (from, all)) }

  -- a block is turned round
  module _ (p b : ℕ) (size : p * w ≡ b) (end left : ℕ) (l : List ℕ) (inv : Left w start count l₀ end left l) (more : b ≤ left) where
    units : left / w ≡ (left - b) / w + p
    units =
        let e : left ≡ (left - b) + p * w = omega arith in
        ap (λ (x : ℕ). x / w) e ∙ add-mul-div_right (left - b) p positive

    pub left_next : (l' : List ℕ) → length l' ≡ length l → l' ≡ turned_at w (end - left) p l → Left w start count l₀ end (left - b) l'
    left_next l' kept e =
        let behind : left / w - p ≡ (left - b) / w = omega (arith, units) in
        let on : end - left + b ≡ end - (left - b) = omega (arith, inv.within) in
        let next = turned_next w (end - left) p (left / w) l l' (omega (arith, units)) (omega (arith, inv.within, inv.room, div-mul-le_self left w)) e in
        record {
          within = omega (arith, inv.within);
          room = omega (arith, inv.room);
          same = kept ∙ inv.same;
          comes = inv.comes ∙ rw (size, behind, on) at next;
        }

  -- the rest is turned round
  pub left_rest : (end left : ℕ) (l l' : List ℕ) → Left w start count l₀ end left l → l' ≡ turned_at w (end - left) (left / w) l
      → l' ≡ turned_at w start count l₀
  left_rest end left l l' inv e = e ∙ sym inv.comes

-- a wide unit is some bytes, and fills a block
pub wide_positive : {w : ℕ} → Wide w → 0 < w
wide_positive fours = omega arith
wide_positive eights = omega arith
wide_positive sixteens = omega arith

pub wide_fills : {w : ℕ} → Wide w → 64 / w * w ≡ 64
wide_fills fours = refl
wide_fills eights = refl
wide_fills sixteens = refl

-- Sixteen bytes of units of four, eight or sixteen, put together from parts that are turned round: from eight pairs, and from two words.
use Prim.Native.Nat.{ℕ, ◌+◌, ◌*◌, ◌/◌, ◌≤◌}
use mathlib.Core.Path.{◌≡◌, refl, sym, ap, ◌∙◌}
use mathlib.Core.List.{List, ◌++◌, append-nil, reverse, reverse-append}
use native.Mathlib.Omega.{arith}
use lib.ListN.{length, take, drop}
use lib.Seq.{sets, take-add, take-take, drop-drop, slice_empty}
use Rattle.number.proofs.Lists.{drop-take_add}
use Rattle.units.specs.Units.{turned, turned_at}
use Rattle.units.proofs.Units.{turned_one, turned_parts}
use Rattle.word_blocks.specs.Blocks.{Wide, fours, eights, sixteens}
use Rattle.word_blocks.proofs.Stored.{sets-turned}

-- ---- Two parts

-- some units behind as many others
two_parts : (w p b : ℕ) (l : List ℕ) → p * w ≡ b → turned w p (take b l) ++ turned w p (take b (drop b l)) ≡ turned w (p + p) (take (b + b) l)
two_parts w p b l e =
    let first : take b (take (b + b) l) ≡ take b l = take-take b (b + b) l (omega arith) in
    sym (turned_parts w p p (take (b + b) l) ∙ rw (e, first, drop-take_add b b l))

-- two units
two_units : (n : ℕ) (l : List ℕ) → reverse (take n l) ++ reverse (take n (drop n l)) ≡ turned n 2 (take (n + n) l)
unfolding turned
two_units n l =
    let first : take n (take (n + n) l) ≡ take n l = take-take n (n + n) l (omega arith) in
    let second : take n (take n (drop n l)) ≡ take n (drop n l) = take-take n n (drop n l) (omega arith) in
    sym (rw (first, drop-take_add n n l, second, slice_empty n (drop n l), append-nil))

-- ---- Parts of sixteen bytes

module _ (s : List ℕ) (at : ℕ) (room : at + 16 ≤ length s) where
  -- the n bytes from the k-th on, turned round
  abbrev back : ℕ → ℕ → List ℕ
  back n k = reverse (take n (drop k (drop at s)))

  -- two halves in the other order
  halves : (n k : ℕ) → back n (k + n) ++ back n k ≡ back (n + n) k
  halves n k =
      let l : List ℕ = drop k (drop at s) in
      sym (ap reverse (take-add n n l) ∙ reverse-append (take n l) (take n (drop n l)) ∙ rw (drop-drop n k (drop at s)))

  one_unit : back 8 8 ++ back 8 0 ≡ turned 16 1 (take 16 (drop at s))
  one_unit = halves 8 0 ∙ sym (turned_one 16 (drop at s))

  module _ {A B C D E F G H : List ℕ} (a : A ≡ back 2 0) (b : B ≡ back 2 2) (c : C ≡ back 2 4) (d : D ≡ back 2 6) (e : E ≡ back 2 8)
      (f : F ≡ back 2 10) (g : G ≡ back 2 12) (h : H ≡ back 2 14) where
    pub pairs_fours : sets s at (((B ++ A) ++ (D ++ C)) ++ ((F ++ E) ++ (H ++ G))) ≡ turned_at 4 at 4 s
    pairs_fours =
        let l : List ℕ = drop at s in
        let last : drop 12 l ≡ drop 4 (drop 8 l) = sym (drop-drop 4 8 l) in
        sets-turned 4 4 at s (((B ++ A) ++ (D ++ C)) ++ ((F ++ E) ++ (H ++ G))) room
        (rw (a, b, c, d, e, f, g, h, halves 2 0, halves 2 4, halves 2 8, halves 2 12, last, two_units 4 l, two_units 4 (drop 8 l)) (two_parts 4 2 8 l refl))

    pub pairs_eights : sets s at (((D ++ C) ++ (B ++ A)) ++ ((H ++ G) ++ (F ++ E))) ≡ turned_at 8 at 2 s
    pairs_eights =
        sets-turned 8 2 at s (((D ++ C) ++ (B ++ A)) ++ ((H ++ G) ++ (F ++ E))) room
        (rw (a, b, c, d, e, f, g, h, halves 2 0, halves 2 4, halves 2 8, halves 2 12, halves 4 0, halves 4 8) (two_units 8 (drop at s)))

    pub pairs_sixteens : sets s at (((H ++ G) ++ (F ++ E)) ++ ((D ++ C) ++ (B ++ A))) ≡ turned_at 16 at 1 s
    pairs_sixteens =
        sets-turned 16 1 at s (((H ++ G) ++ (F ++ E)) ++ ((D ++ C) ++ (B ++ A))) room
        (rw (a, b, c, d, e, f, g, h, halves 2 0, halves 2 4, halves 2 8, halves 2 12, halves 4 0, halves 4 8) one_unit)

  -- a part that begins k bytes on
  pub part_at : (n k : ℕ) {A : List ℕ} → A ≡ reverse (take n (drop (at + k) s)) → A ≡ back n k
  part_at n k e = e ∙ ap (λ (x : List ℕ). reverse (take n x)) (sym (drop-drop k at s))

  -- two words that were turned round, each as w-byte units
  module _ (w : ℕ) {A B : List ℕ} (a : A ≡ turned w (8 / w) (take 8 (drop at s))) (b : B ≡ turned w (8 / w) (take 8 (drop (at + 8) s))) where
    pub words_kept : 8 / w * w ≡ 8 → (8 / w + 8 / w) * w ≡ 16 → sets s at (A ++ B) ≡ turned_at w at (8 / w + 8 / w) s
    words_kept fills both =
        let l : List ℕ = drop at s in
        let later : drop (at + 8) s ≡ drop 8 l = sym (drop-drop 8 at s) in
        sets-turned w (8 / w + 8 / w) at s (A ++ B) (rw both room) (rw (a, b, later, both) (two_parts w (8 / w) 8 l fills))

  pub words_crossed : {A B : List ℕ} → A ≡ turned 8 1 (take 8 (drop at s)) → B ≡ turned 8 1 (take 8 (drop (at + 8) s)) → sets s at (B ++ A) ≡ turned_at 16 at 1 s
  words_crossed {A} {B} a b =
      let first : A ≡ back 8 0 = a ∙ turned_one 8 (drop at s) in
      let second : B ≡ back 8 8 = part_at 8 8 (b ∙ turned_one 8 (drop (at + 8) s)) in
      sets-turned 16 1 at s (B ++ A) room (rw (first, second) one_unit)

-- ---- The widths

-- a wide unit that is neither four nor eight bytes is sixteen
pub wide_other : {w : ℕ} → Wide w → (w ≡ 4 → ⊥) → (w ≡ 8 → ⊥) → w ≡ 16
wide_other fours p q = absurd (p refl)
wide_other eights p q = absurd (q refl)
wide_other sixteens p q = refl

-- sixteen bytes are whole units, and so are twice and four times as many
pub wide_sixteen : {w : ℕ} → Wide w → 16 / w * w ≡ 16
wide_sixteen fours = refl
wide_sixteen eights = refl
wide_sixteen sixteens = refl

pub wide_twice : {w : ℕ} → Wide w → 16 / w + 16 / w ≡ 32 / w
wide_twice fours = refl
wide_twice eights = refl
wide_twice sixteens = refl

pub wide_thirty_two : {w : ℕ} → Wide w → 32 / w * w ≡ 32
wide_thirty_two fours = refl
wide_thirty_two eights = refl
wide_thirty_two sixteens = refl

pub wide_twice_again : {w : ℕ} → Wide w → 32 / w + 32 / w ≡ 64 / w
wide_twice_again fours = refl
wide_twice_again eights = refl
wide_twice_again sixteens = refl

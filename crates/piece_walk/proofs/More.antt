-- An extension that has come whole stays what it is when more bytes come, and one that ends within the fewer bytes was found there.
use Prim.Native.Nat.{ℕ, ◌+◌, ◌≤◌}
use mathlib.Core.Path.{◌≡◌, sym, ap, ◌∙◌}
use mathlib.Core.Bool.{true}
use mathlib.Core.List.{List, ◌++◌}
use native.Mathlib.Omega.{arith}
use lib.IntN.{pos, nat_abs}
use lib.ListN.{length, length-append, get_or-append}
use mir.Syntax.{w32}
use mir.Val.{to_z}
use Rattle.field.specs.declared.Order.{Order}
use Rattle.field.specs.Numbers.{i32_at}
use Rattle.extension.specs.declared.Span.{Span}
use Rattle.extension.specs.Walk.{size_rule, span_at, extension, found, rest_of}
use Rattle.extension.proofs.Signs.{rule_holds}
use Rattle.extension.proofs.Regions.{length_rest, get_d_rest, u32_same}
use Rattle.extension.proofs.Found.{taken, found_extension}

-- an extension that is found in one region is found in another with the same two numbers, where it fits
found_same : (order : Order) (before at : ℕ) (u v : List ℕ) (x : Span) → found order before at u ≡ extension x
    → i32_at order u 0 ≡ i32_at order v 0 → i32_at order u 4 ≡ i32_at order v 4 → nat_abs x.size ≤ length v
    → found order before at v ≡ extension x
unfolding found
found_same order before at u v x e n0 n4 fits =
    let t = taken order before at u x e in
    let r = t.size in
    let y : span_at order at v ≡ x = rw (← n0, ← n4) (sym t.span) in
    let s : i32_at order v 0 ≡ pos (nat_abs x.size) = ap (λ (z : Span). z.size) y ∙ r.whole in
    let rule : size_rule (i32_at order v 0) (length v) ≡ true = rw s (rule_holds (nat_abs x.size) (length v) r.least r.units fits) in
    found_extension before at (length v) (i32_at order v 0) (i32_at order v 4) (omega arith) t.more rule
    (rw (ap (λ (z : Span). z.code) y) t.code)
    ∙ ap extension y

module _ (order : Order) (end : ℕ) (b piece : List ℕ) where
  abbrev c : List ℕ
  c = b ++ piece

  number_same : (at k : ℕ) → k + 4 ≤ length (rest_of b end at) → i32_at order (rest_of b end at) k ≡ i32_at order (rest_of c end at) k
  number_same at k h =
      let l = length_rest b end at in
      let m = length_rest c end at in
      let s = length-append b piece in
      ap (to_z w32)
      (u32_same order (rest_of b end at) (rest_of c end at) k k
      (λ i below.
      get_d_rest b end at (k + i) (omega arith)
      ∙ sym (get_or-append b piece 0 (at + (k + i)) (omega arith))
      ∙ sym (get_d_rest c end at (k + i) (omega arith))))

  module _ (before at : ℕ) (x : Span) where
    pub found_more : found order before at (rest_of b end at) ≡ extension x → found order before at (rest_of c end at) ≡ extension x
    found_more e =
        let r = (taken order before at (rest_of b end at) x e).size in
        let l = length_rest b end at in
        let m = length_rest c end at in
        let s = length-append b piece in
        found_same order before at (rest_of b end at) (rest_of c end at) x e (number_same at 0 (omega arith)) (number_same at 4 (omega arith)) (omega arith)

    pub found_less : found order before at (rest_of c end at) ≡ extension x → at + nat_abs x.size ≤ length b
        → found order before at (rest_of b end at) ≡ extension x
    found_less e h =
        let r = (taken order before at (rest_of c end at) x e).size in
        let l = length_rest b end at in
        let m = length_rest c end at in
        found_same order before at (rest_of c end at) (rest_of b end at) x e
        (sym (number_same at 0 (omega arith))) (sym (number_same at 4 (omega arith))) (omega arith)

-- A window, once a piece has come, is that of the longer file.
use Prim.Native.Nat.{ℕ, ◌+◌, ◌-◌, ◌<◌, ◌≤◌}
use mathlib.Core.Path.{◌≡◌, refl, sym, ap, ◌∙◌}
use mathlib.Core.Bool.{Bool, true, false, cond}
use mathlib.Core.List.{List, ◌++◌}
use native.Mathlib.Omega.{arith}
use borrow.Author.Tests.{ltb-true, ltb-false}
use lib.Dec.{ltb}
use lib.ListN.{length, get_or, take, length-take, get_or-append, get_or-eq_default}
use lib.Seq.{get_or-append-add, get_or-take}
use Rattle.field.specs.Numbers.{bytes_at}
use Rattle.field.proofs.Tabulate.{tabulate_get, tabulate_same}
use Rattle.piece_walk.specs.Window.{window_byte, window}

-- the old window counts only where it begins before the piece
module _ (at end : ℕ) (b old piece : List ℕ) (known : at < length b → old ≡ bytes_at at 8 (take end b)) where
  byte_is : (i : ℕ) → i < 8 → (t u : Bool) → ltb (at + i) end ≡ t → ltb (at + i) (length b) ≡ u
      → cond t (cond u (get_or old i 0) (get_or piece (at + i - length b) 0)) 0 ≡ get_or (take end (b ++ piece)) (at + i) 0
  byte_is i h true true d e =
      let l : at + i < length b = ltb-true (at + i) (length b) e in
      let m : at + i < end = ltb-true (at + i) end d in
      rw (known (omega arith), get_or-take end (b ++ piece) (at + i) 0 m)
      (tabulate_get (λ k. get_or (take end b) (at + k) 0) 8 i 0 h
      ∙ get_or-take end b (at + i) 0 m
      ∙ sym (get_or-append b piece 0 (at + i) l))
  byte_is i h true false d e =
      let l : length b ≤ at + i = ltb-false (at + i) (length b) e in
      let m : at + i < end = ltb-true (at + i) end d in
      let s : length b + (at + i - length b) ≡ at + i = omega arith in
      rw (get_or-take end (b ++ piece) (at + i) 0 m)
      (sym (get_or-append-add b piece (at + i - length b) 0) ∙ ap (λ k. get_or (b ++ piece) k 0) s)
  byte_is i h false u d e =
      let m : end ≤ at + i = ltb-false (at + i) end d in
      sym (get_or-eq_default (take end (b ++ piece)) 0 (simp length-take (omega arith)))

  pub window_is : window at end (length b) old piece ≡ bytes_at at 8 (take end (b ++ piece))
  unfolding window
  window_is =
      tabulate_same (λ i. window_byte at end (length b) old piece i) (λ i. get_or (take end (b ++ piece)) (at + i) 0) 8
      (λ i h. byte_is i h (ltb (at + i) end) (ltb (at + i) (length b)) refl refl)

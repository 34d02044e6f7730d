-- `turn_pairs` meets its contract: eight pairs turned round, in the order that the unit's width asks for (proofs/Blocks.antt).
use Prim.Native.Nat.{ℕ}
use mathlib.Core.Path.{◌≡◌, ◌∙◌}
use mathlib.Core.List.{List, reverse}
use native.Mathlib.Nat.{add-zero}
use lib.ListN.{take, drop}
use Rattle.byte_pairs.specs.Pairs.{pair_bytes}
use Rattle.byte_pairs.proofs.Pairs.{four, length_four}
use Rattle.word_blocks.proofs.Stored.{two_stored}
use Rattle.word_blocks.proofs.Blocks.{part_at, pairs_fours, pairs_eights, pairs_sixteens, wide_other}
use Rattle.word_blocks.proofs.turn_pairs.Goals as goal
use Rattle.word_blocks.proofs.turn_pairs.Goals.{After-turned_at-h}

-- the eight pairs, as they were loaded and turned round
module _ (p : After-turned_at-h) where
  abbrev at : ℕ
  at = p.args.at

  abbrev s : List ℕ
  s = p.args.buf.now

  first : pair_bytes p.turned_at-a.result ≡ reverse (take 2 (drop 0 (drop at s)))
  first = part_at s at p.requires.1 2 0 (rw (add-zero at) p.turned_at-a.ensures)

  second : pair_bytes p.turned_at-b.result ≡ reverse (take 2 (drop 2 (drop at s)))
  second = part_at s at p.requires.1 2 2 p.turned_at-b.ensures

  third : pair_bytes p.turned_at-c.result ≡ reverse (take 2 (drop 4 (drop at s)))
  third = part_at s at p.requires.1 2 4 p.turned_at-c.ensures

  fourth : pair_bytes p.turned_at-d.result ≡ reverse (take 2 (drop 6 (drop at s)))
  fourth = part_at s at p.requires.1 2 6 p.turned_at-d.ensures

  fifth : pair_bytes p.turned_at-e.result ≡ reverse (take 2 (drop 8 (drop at s)))
  fifth = part_at s at p.requires.1 2 8 p.turned_at-e.ensures

  sixth : pair_bytes p.turned_at-f.result ≡ reverse (take 2 (drop 10 (drop at s)))
  sixth = part_at s at p.requires.1 2 10 p.turned_at-f.ensures

  seventh : pair_bytes p.turned_at-g.result ≡ reverse (take 2 (drop 12 (drop at s)))
  seventh = part_at s at p.requires.1 2 12 p.turned_at-g.ensures

  eighth : pair_bytes p.turned_at-h.result ≡ reverse (take 2 (drop 14 (drop at s)))
  eighth = part_at s at p.requires.1 2 14 p.turned_at-h.ensures

pub returns-in-4 : goal.returns-in-4
returns-in-4 end =
    let p = (goal.at.returns-in-4 end).After-turned_at-h in
    let a = p.turned_at-a.result in
    let b = p.turned_at-b.result in
    let c = p.turned_at-c.result in
    let d = p.turned_at-d.result in
    let e = p.turned_at-e.result in
    let f = p.turned_at-f.result in
    let g = p.turned_at-g.result in
    let h = p.turned_at-h.result in
    let stored =
    two_stored (at p) 8 (four b a d c) (four f e h g) (s p) end.put_four.new.buf end.put_four-in-4.new.buf
    (length_four b a d c) end.put_four.ensures end.put_four-in-4.ensures in
    rw end.in-4.is
    (stored ∙ pairs_fours (s p) (at p) p.requires.1 (first p) (second p) (third p) (fourth p) (fifth p) (sixth p) (seventh p) (eighth p))

pub returns-in-8 : goal.returns-in-8
returns-in-8 end =
    let p = (goal.at.returns-in-8 end).After-turned_at-h in
    let a = p.turned_at-a.result in
    let b = p.turned_at-b.result in
    let c = p.turned_at-c.result in
    let d = p.turned_at-d.result in
    let e = p.turned_at-e.result in
    let f = p.turned_at-f.result in
    let g = p.turned_at-g.result in
    let h = p.turned_at-h.result in
    let stored =
    two_stored (at p) 8 (four d c b a) (four h g f e) (s p) end.put_four-in-8.new.buf end.put_four-in-8-2.new.buf
    (length_four d c b a) end.put_four-in-8.ensures end.put_four-in-8-2.ensures in
    rw end.in-8.is
    (stored ∙ pairs_eights (s p) (at p) p.requires.1 (first p) (second p) (third p) (fourth p) (fifth p) (sixth p) (seventh p) (eighth p))

pub returns-in_default : goal.returns-in_default
returns-in_default end =
    let p = (goal.at.returns-in_default end).After-turned_at-h in
    let a = p.turned_at-a.result in
    let b = p.turned_at-b.result in
    let c = p.turned_at-c.result in
    let d = p.turned_at-d.result in
    let e = p.turned_at-e.result in
    let f = p.turned_at-f.result in
    let g = p.turned_at-g.result in
    let h = p.turned_at-h.result in
    let stored =
    two_stored (at p) 8 (four h g f e) (four d c b a) (s p) end.put_four-in_default.new.buf end.put_four-in_default-2.new.buf
    (length_four h g f e) end.put_four-in_default.ensures end.put_four-in_default-2.ensures in
    rw (wide_other end.requires.0 end.in_default.in_default-own.rest.0.1 end.in_default.in_default-own.rest.1)
    (stored ∙ pairs_sixteens (s p) (at p) p.requires.1 (first p) (second p) (third p) (fourth p) (fifth p) (sixth p) (seventh p) (eighth p))

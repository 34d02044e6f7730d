-- `new_numbers` meets its contract: the axes of a permutation are 1 to 3, and the numbers are made by proofs/Laws.antt.
use Rattle.reorient_rows.proofs.Laws.{numbers_made}
use Rattle.reorient_rows.proofs.new_numbers.Goals as goal

pub returns : goal.returns
returns c =
    let a = c.args in
    numbers_made a.t a.l a.m a.n a.a a.b a.c a.s _ _ _ _ _ _ _ _ _
    c.shifted_by-s1.ensures c.shifted_by-s2.ensures c.shifted_by-s3.ensures
    c.facing_to-x.ensures c.facing_to-y.ensures c.facing_to-z.ensures
    c.column_of.ensures c.column_of-2.ensures c.column_of-3.ensures

-- `rows_after` meets its contract: each row by the lengths that were read, by the laws of proofs/Made.antt.
use mathlib.Core.Path.{◌≡◌}
use mathlib.Core.Bool.{true}
use mathlib.Core.List.{List}
use Prim.Native.Nat.{ℕ}
use Rattle.reorient_rows.specs.Rows.{finite_after}
use Rattle.reorient_header.proofs.Made.{rows_made, each_finite}
use Rattle.reorient_header.proofs.rows_after.Goals as goal

pub row_after-requires : goal.row_after-requires
row_after-requires c =
    let Finite = λ (row : List ℕ).
    finite_after c.args.t c.length_in-l.result c.length_in-m.result c.length_in-n.result row ≡ true in
    let finite : let g = c.args.rows in Finite g.srow_x × Finite g.srow_y × Finite g.srow_z =
    let a = c.args in
    each_finite a.t a.dim a.rows _ _ _ c.length_in-l.ensures c.length_in-m.ensures c.length_in-n.ensures c.requires.rows_value in
    record { t_value = c.requires.t_value; row_value = finite.0 }

pub row_after-requires-2 : goal.row_after-requires-2
row_after-requires-2 c =
    let Finite = λ (row : List ℕ).
    finite_after c.args.t c.length_in-l.result c.length_in-m.result c.length_in-n.result row ≡ true in
    let finite : let g = c.args.rows in Finite g.srow_x × Finite g.srow_y × Finite g.srow_z =
    let a = c.args in
    each_finite a.t a.dim a.rows _ _ _ c.length_in-l.ensures c.length_in-m.ensures c.length_in-n.ensures c.requires.rows_value in
    record { t_value = c.requires.t_value; row_value = finite.1 }

pub row_after-requires-3 : goal.row_after-requires-3
row_after-requires-3 c =
    let Finite = λ (row : List ℕ).
    finite_after c.args.t c.length_in-l.result c.length_in-m.result c.length_in-n.result row ≡ true in
    let finite : let g = c.args.rows in Finite g.srow_x × Finite g.srow_y × Finite g.srow_z =
    let a = c.args in
    each_finite a.t a.dim a.rows _ _ _ c.length_in-l.ensures c.length_in-m.ensures c.length_in-n.ensures c.requires.rows_value in
    record { t_value = c.requires.t_value; row_value = finite.2 }

pub returns : goal.returns
returns c =
    let a = c.args in
    rows_made a.t a.dim a.rows _ _ _ c.length_in-l.ensures c.length_in-m.ensures c.length_in-n.ensures _ _ _
    c.row_after.ensures c.row_after-2.ensures c.row_after-3.ensures

-- `stay_finite` meets its contract: each row by the lengths that were read, by the laws of proofs/Made.antt.
use Rattle.reorient_header.proofs.Made.{rows_finite}
use Rattle.reorient_header.proofs.stay_finite.Goals as goal

pub returns : goal.returns
returns c =
    let a = c.args in
    rows_finite a.t a.dim a.rows _ _ _ c.length_in-l.ensures c.length_in-m.ensures c.length_in-n.ensures _ _ _
    c.stays_finite-x.ensures c.stays_finite-y.ensures c.stays_finite-z.ensures

-- `turn_header` meets its contract: one step of a chain for each of the sixteen runs of a header, eleven by a call and five that stay.
use mathlib.Core.Path.{refl}
use Rattle.units.specs.Runs.{run, turn_runs_at, header_runs}
use Rattle.units.proofs.Runs.{header_span}
use Rattle.units.proofs.Chain.{Chain, chain_next, chain_stay, chain_done}
use Rattle.units.proofs.turn_header.Goals as goal

pub returns : goal.returns
returns c =
    let l0 = c.args.buf.now in
    let l1 = c.turn_units.new.buf in
    let l2 = c.turn_units-2.new.buf in
    let l3 = c.turn_units-3.new.buf in
    let l4 = c.turn_units-4.new.buf in
    let l5 = c.turn_units-5.new.buf in
    let l6 = c.turn_units-6.new.buf in
    let l7 = c.turn_units-7.new.buf in
    let l8 = c.turn_units-8.new.buf in
    let l9 = c.turn_units-9.new.buf in
    let l10 = c.turn_units-10.new.buf in
    let l11 = c.turn_units-11.new.buf in
    let c0 : Chain (turn_runs_at 0 header_runs l0) 0 header_runs l0 = record { comes = refl; room = rw header_span c.requires } in
    let c1 = chain_next 0 (run 4 1) _ l0 l1 c0 c.turn_units.ensures in
    let c2 = chain_stay 4 28 _ l1 c1 in
    let c3 = chain_next 32 (run 4 1) _ l1 l2 c2 c.turn_units-2.ensures in
    let c4 = chain_next 36 (run 2 1) _ l2 l3 c3 c.turn_units-3.ensures in
    let c5 = chain_stay 38 2 _ l3 c4 in
    let c6 = chain_next 40 (run 2 8) _ l3 l4 c5 c.turn_units-4.ensures in
    let c7 = chain_next 56 (run 4 3) _ l4 l5 c6 c.turn_units-5.ensures in
    let c8 = chain_next 68 (run 2 4) _ l5 l6 c7 c.turn_units-6.ensures in
    let c9 = chain_next 76 (run 4 11) _ l6 l7 c8 c.turn_units-7.ensures in
    let c10 = chain_next 120 (run 2 1) _ l7 l8 c9 c.turn_units-8.ensures in
    let c11 = chain_stay 122 2 _ l8 c10 in
    let c12 = chain_next 124 (run 4 6) _ l8 l9 c11 c.turn_units-9.ensures in
    let c13 = chain_stay 148 104 _ l9 c12 in
    let c14 = chain_next 252 (run 2 2) _ l9 l10 c13 c.turn_units-10.ensures in
    let c15 = chain_next 256 (run 4 18) _ l10 l11 c14 c.turn_units-11.ensures in
    let c16 = chain_stay 328 20 _ l11 c15 in
    chain_done 348 l11 c16

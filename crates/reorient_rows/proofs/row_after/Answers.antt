-- `row_after` meets its contract: the new numbers are finite, so each has a bit pattern.
use mathlib.Core.Path.{ap, ◌∙◌}
use Rattle.reorient_rows.specs.Rows.{are_finite, patterns_of, finite_after, row_after}
use Rattle.reorient_rows.proofs.Laws.{AllFinite, all_finite, after_finite}
use Rattle.reorient_rows.proofs.row_after.Goals as goal

pub numbers_of-v-requires : goal.numbers_of-v-requires
numbers_of-v-requires c = record { t_value = c.requires.t_value; row_value = after_finite _ _ _ _ _ c.requires.t_value c.requires.row_value }

pub float_to_bits-result : goal.float_to_bits-result
unfolding finite_after
float_to_bits-result c =
    let all : let v = c.numbers_of-v.result in AllFinite v.first v.second v.third v.shift =
    let v = c.numbers_of-v.result in
    all_finite v.first v.second v.third v.shift (ap are_finite c.numbers_of-v.ensures ∙ c.requires.row_value) in
    all.first

pub float_to_bits-result-2 : goal.float_to_bits-result-2
unfolding finite_after
float_to_bits-result-2 c =
    let all : let v = c.numbers_of-v.result in AllFinite v.first v.second v.third v.shift =
    let v = c.numbers_of-v.result in
    all_finite v.first v.second v.third v.shift (ap are_finite c.numbers_of-v.ensures ∙ c.requires.row_value) in
    all.second

pub float_to_bits-result-3 : goal.float_to_bits-result-3
unfolding finite_after
float_to_bits-result-3 c =
    let all : let v = c.numbers_of-v.result in AllFinite v.first v.second v.third v.shift =
    let v = c.numbers_of-v.result in
    all_finite v.first v.second v.third v.shift (ap are_finite c.numbers_of-v.ensures ∙ c.requires.row_value) in
    all.third

pub float_to_bits-result-4 : goal.float_to_bits-result-4
unfolding finite_after
float_to_bits-result-4 c =
    let all : let v = c.numbers_of-v.result in AllFinite v.first v.second v.third v.shift =
    let v = c.numbers_of-v.result in
    all_finite v.first v.second v.third v.shift (ap are_finite c.numbers_of-v.ensures ∙ c.requires.row_value) in
    all.shift

pub returns : goal.returns
unfolding row_after
returns c = ap patterns_of c.numbers_of-v.ensures

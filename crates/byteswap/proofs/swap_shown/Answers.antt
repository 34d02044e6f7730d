-- `swap_shown` meets its contract, by the laws of proofs/Answers.antt: what the outline shows gives each call its room, and the
-- calls in order are the file's runs.
use Rattle.std.specs.Prelude.{Err}
use mathlib.Core.Path.{sym, ap, ◌∙◌}
use native.Mathlib.Omega.{arith}
use Rattle.outline.proofs.Outlines.{shows}
use Rattle.byteswap.proofs.Answers.{file, listed_stand, listed_unit, single_room, pair_room, swaps_cut, swaps_single, swaps_pair}
use Rattle.byteswap.proofs.swap_shown.Goals as goal

pub returns-then-image_cut : goal.returns-then-image_cut
returns-then-image_cut g c =
    let known = shows c.args.file.now 0 c.args.outline c.requires in
    let h = swaps_cut known c.args.image.now (sym c.image_cut.ensures ∙ c.if-image_cut.true) in
    (ap Err c.at.ensures ∙ h.0, h.1, h.2)

pub unit_in-unit-requires : goal.unit_in-unit-requires
unit_in-unit-requires g c =
    let known = shows c.args.file.now 0 c.args.outline c.requires in
    (file known).rules.long

pub turn_header-requires : goal.turn_header-requires
turn_header-requires g c =
    let known = shows c.args.file.now 0 c.args.outline c.requires in
    (file known).rules.long

pub turn_list-requires : goal.turn_list-requires
turn_list-requires g c =
    let known = shows c.args.file.now 0 c.args.outline c.requires in
    listed_stand known c.turn_header.new.buf c.turn_header.ensures

pub turn_image-requires : goal.turn_image-requires
turn_image-requires g c =
    let known = shows c.args.file.now 0 c.args.outline c.requires in (
      rw c.unit_in-unit.ensures (listed_unit known),
      omega (arith, single_room known c.in-Single.is, c.turn_list.auto.file, c.turn_header.auto.buf),
    )

pub turn_image-requires-in-Pair : goal.turn_image-requires-in-Pair
turn_image-requires-in-Pair g c =
    let known = shows c.args.file.now 0 c.args.outline c.requires in
    let uncut = sym c.image_cut.ensures ∙ c.if-image_cut.false in (
      rw c.unit_in-unit.ensures (listed_unit known),
      pair_room known c.args.image.now uncut c.in-Pair.is,
    )

pub returns-in-Single : goal.returns-in-Single
returns-in-Single g c =
    let known = shows c.args.file.now 0 c.args.outline c.requires in
    let uncut = sym c.image_cut.ensures ∙ c.if-image_cut.false in
    swaps_single known c.args.image.now uncut _ c.unit_in-unit.ensures _ _ c.turn_header.ensures c.turn_list.ensures c.in-Single.is
    _ c.turn_image.ensures

pub returns-in-Pair : goal.returns-in-Pair
returns-in-Pair g c =
    let known = shows c.args.file.now 0 c.args.outline c.requires in
    let uncut = sym c.image_cut.ensures ∙ c.if-image_cut.false in
    swaps_pair known c.args.image.now uncut _ c.unit_in-unit.ensures _ _ c.turn_header.ensures c.turn_list.ensures c.in-Pair.is
    _ c.turn_image-in-Pair.ensures

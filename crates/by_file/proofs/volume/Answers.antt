-- `volume` meets its contract: the fields that it reads are the record's (proofs/Shown.antt).
use Rattle.std.specs.Prelude.{Ok, Err}
use mathlib.Core.Path.{◌≡◌, ap, sym, ◌∙◌}
use native.Mathlib.Omega.{arith}
use mir.Syntax.{w16}
use mir.Val.{to_z, of_z}
use mir.ValLaws.{to_z-of_z}
use Rattle.layout.specs.File.{shape_in}
use Rattle.outline.specs.Outline.{outline_of}
use Rattle.outline.proofs.Outlines.{shown_answer, shown_long, shown_measured}
use Rattle.by_file.proofs.Shown.{fields, hidden_volume, shown_image, shown_volume}
use borrow.Author.Rules.{rules}
use Rattle.by_file.proofs.volume.Goals as goal

pub returns-in_err-layout : goal.returns-in_err-layout
returns-in_err-layout c =
    rw (hidden_volume c.args.file.now c.in_err-layout.field-0.0 (sym c.outline_of.ensures ∙ c.in_err-layout.was)) (search rules)

pub dims-dim-requires : goal.dims-dim-requires
dims-dim-requires c =
    omega (arith, shown_long c.args.file.now 0 c.in_ok-layout.field-0 (sym c.outline_of.ensures ∙ c.in_ok-layout.was))

pub read-bitpix-requires : goal.read-bitpix-requires
read-bitpix-requires c =
    omega (arith, shown_long c.args.file.now 0 c.in_ok-layout.field-0 (sym c.outline_of.ensures ∙ c.in_ok-layout.was))

pub sizes_in-requires : goal.sizes_in-requires
unfolding shape_in
sizes_in-requires c =
    let s = c.args.file.now in
    let o = c.in_ok-layout.field-0 in
    let e : outline_of 0 s ≡ Ok o = sym c.outline_of.ensures ∙ c.in_ok-layout.was in
    let dims : c.dims-dim.result ≡ (fields s o e).dim = c.dims-dim.ensures in
    let bitpix : to_z w16 (of_z w16 c.read-bitpix.result) ≡ (fields s o e).bitpix =
    to_z-of_z w16 c.read-bitpix.result (record { sfits = c.read-bitpix.type_inv }) ∙ c.read-bitpix.ensures in
    rw (dims, bitpix) (shown_measured s 0 o e).small

pub returns : goal.returns
unfolding shape_in
returns c =
    let s = c.args.file.now in
    let o = c.in_ok-layout.field-0 in
    let e : outline_of 0 s ≡ Ok o = sym c.outline_of.ensures ∙ c.in_ok-layout.was in
    let dims : c.dims-dim.result ≡ (fields s o e).dim = c.dims-dim.ensures in
    let bitpix : to_z w16 (of_z w16 c.read-bitpix.result) ≡ (fields s o e).bitpix =
    to_z-of_z w16 c.read-bitpix.result (record { sfits = c.read-bitpix.type_inv }) ∙ c.read-bitpix.ensures in
    let sizes = rw (dims, bitpix) at c.sizes_in.ensures in
    (λ i. Ok (record { dim = dims i; offset = (sym (shown_image s o e) i).offset; sizes = sizes i; kind = o.layout.kind }))
    ∙ ap Ok (shown_volume s o e)
    ∙ shown_answer s 0 _ Err o e

-- `shown_file` meets its contract, field by field: an accepted file is long enough for each, its sizes are small, and it has at most 64
-- extensions.
use Prim.Native.Nat.{◌≤◌}
use mathlib.Core.Path.{◌≡◌, refl, ap, ◌∙◌}
use native.Mathlib.Omega.{arith}
use lib.ListN.{length}
use mir.Syntax.{w16}
use mir.Val.{to_z, of_z}
use mir.ValLaws.{to_z-of_z}
use Rattle.field.specs.Numbers.{i16_at}
use Rattle.header.specs.Fields.{header_of}
use Rattle.rules.proofs.Sizes.{measured_sizes}
use Rattle.layout.specs.File.{shape_in}
use Rattle.outline.proofs.Outlines.{shown_long, shown_few, shown_aligned, shown_measured}
use Rattle.answers.specs.Answers.{is_aligned, is_pair, big_endian}
use Rattle.answers.proofs.Shown.{shown_file_lem}
use denote.Enum.Declared.{tag_of}
use Rattle.field.specs.declared.Order.{Order}
use Rattle.field.specs.declared.Order.TheVariants.{Little, Big}
use Rattle.field.specs.contracts.Order as Orders
use Rattle.header.specs.declared.Kind.{Kind}
use Rattle.header.specs.declared.Kind.TheVariants.{Single, Pair}
use Rattle.header.specs.contracts.Kind as Kinds
use Rattle.answers.proofs.shown_file.Goals as goal

pub overflow_cast-count : goal.overflow_cast-count
overflow_cast-count c =
    record { fits = omega (arith, shown_few c.args.file.now 0 c.args.outline c.requires) }

pub dims-dim-requires : goal.dims-dim-requires
dims-dim-requires c =
    let long : 348 ≤ length c.args.file.now = shown_long c.args.file.now 0 c.args.outline c.requires in
    omega (arith, long)

pub read-bitpix-requires : goal.read-bitpix-requires
read-bitpix-requires c =
    let long : 348 ≤ length c.args.file.now = shown_long c.args.file.now 0 c.args.outline c.requires in
    omega (arith, long)

pub sizes_in-sizes-requires : goal.sizes_in-sizes-requires
unfolding shape_in
sizes_in-sizes-requires c =
    let bitpix-is : to_z w16 (of_z w16 c.read-bitpix.result) ≡ i16_at c.args.outline.layout.order c.args.file.now 72 = to_z-of_z w16 c.read-bitpix.result (record { sfits = c.read-bitpix.type_inv }) ∙ c.read-bitpix.ensures in
    rw (c.dims-dim.ensures, bitpix-is) (shown_measured c.args.file.now 0 c.args.outline c.requires).small

pub read-requires : goal.read-requires
read-requires c =
    let long : 348 ≤ length c.args.file.now = shown_long c.args.file.now 0 c.args.outline c.requires in
    omega (arith, long)

order_tag : (order : Order) → tag_of Orders.the_type order ≡ big_endian order
order_tag Little = refl
order_tag Big = refl

kind_tag : (kind : Kind) → tag_of Kinds.the_type kind ≡ is_pair kind
kind_tag Single = refl
kind_tag Pair = refl

pub returns : goal.returns
unfolding header_of shape_in
returns c =
    let bitpix-is : to_z w16 (of_z w16 c.read-bitpix.result) ≡ i16_at c.args.outline.layout.order c.args.file.now 72 = to_z-of_z w16 c.read-bitpix.result (record { sfits = c.read-bitpix.type_inv }) ∙ c.read-bitpix.ensures in
    let datatype = c.read in
    let s = c.args.file.now in
    let o = c.args.outline in
    let dims = c.dims-dim.ensures in
    let sizes =
    rw (dims, bitpix-is) at c.sizes_in-sizes.ensures
    ∙ measured_sizes (shape_in o.layout.order o.layout.kind s) (shown_measured s 0 o c.requires) in
    rw (← shown_file_lem s 0 o c.requires)
    (λ i. record {
      refusal = 0;
      place = 0;
      data_offset = o.layout.image.offset;
      data_bytes = o.layout.image.bytes;
      big_endian = order_tag o.layout.order i;
      pair = kind_tag o.layout.kind i;
      dim = dims i;
      datatype = (to_z-of_z w16 datatype.result (record { sfits = datatype.type_inv }) ∙ datatype.ensures) i;
      bitpix = bitpix-is i;
      extensions = o.count;
      step = (sizes i).steps;
      aligned = (c.from.ensures ∙ ap is_aligned (shown_aligned s 0 o c.requires)) i;
    })

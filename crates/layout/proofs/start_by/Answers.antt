-- `start_by` meets its contract: rules 3 and 4 one after the other, by the laws of proofs/Starting.antt.
use Rattle.std.specs.Prelude.{Err}
use mathlib.Core.Path.{◌≡◌, sym, ◌∙◌, ap}
use mathlib.Core.Bool.{true}
use native.Mathlib.Omega.{arith}
use borrow.Author.Tests.{ne_eqb, eq-eqb}
use lib.Dec.{eqb}
use mir.Syntax.{w32}
use mir.Val.{of_z}
use Rattle.field.specs.Numbers.{i32_at}
use Rattle.datatype.specs.Datatypes.{is_number}
use Rattle.datatype.proofs.Bits.{number_bits}
use Rattle.layout.specs.File.{holds_in, order_of}
use Rattle.layout.proofs.Starting.{starts_3, starts_4, starts_read}
use Rattle.layout.proofs.start_by.Goals as goal

pub returns-then-read-ne348 : goal.returns-then-read-ne348
returns-then-read-ne348 c len long =
    let bytes = c.args.file.now in
    let sized-as = is_number (i32_at (order_of bytes) bytes 0) 348 in
    let ordered : holds_in (order_of bytes) bytes ≡ true = rw c.requires.1 c.requires.2 in
    let by_size : sized-as ≡ eqb (of_z w32 c.read.result) 348 =
    let n = c.read in
    rw (c.requires.1, ← n.ensures) (number_bits w32 n.result 348 (record { sfits = n.type_inv }) (omega arith)) in
    ap Err c.at.ensures
    ∙ starts_3 bytes len long ordered (by_size ∙ ne_eqb (of_z w32 c.read.result) 348 c.if-read-ne348.true)

pub returns-then-not-has_magic : goal.returns-then-not-has_magic
returns-then-not-has_magic c len long =
    let bytes = c.args.file.now in
    let sized-as = is_number (i32_at (order_of bytes) bytes 0) 348 in
    let ordered : holds_in (order_of bytes) bytes ≡ true = rw c.requires.1 c.requires.2 in
    let by_size : sized-as ≡ eqb (of_z w32 c.read.result) 348 =
    let n = c.read in
    rw (c.requires.1, ← n.ensures) (number_bits w32 n.result 348 (record { sfits = n.type_inv }) (omega arith)) in
    let sized : sized-as ≡ true = by_size ∙ eq-eqb (of_z w32 c.read.result) 348 c.if-read-ne348.false in
    let other = rw c.kind_of-kind.ensures at (sym c.has_magic.ensures ∙ c.if-not-has_magic.true) in
    ap Err c.at-then-not-has_magic.ensures ∙ starts_4 bytes len long ordered sized other

pub returns : goal.returns
returns c len long =
    let bytes = c.args.file.now in
    let sized-as = is_number (i32_at (order_of bytes) bytes 0) 348 in
    let ordered : holds_in (order_of bytes) bytes ≡ true = rw c.requires.1 c.requires.2 in
    let by_size : sized-as ≡ eqb (of_z w32 c.read.result) 348 =
    let n = c.read in
    rw (c.requires.1, ← n.ensures) (number_bits w32 n.result 348 (record { sfits = n.type_inv }) (omega arith)) in
    let sized : sized-as ≡ true = by_size ∙ eq-eqb (of_z w32 c.read.result) 348 c.if-read-ne348.false in
    let own = rw c.kind_of-kind.ensures at (sym c.has_magic.ensures ∙ c.if-not-has_magic.false) in
    rw (← c.requires.1, c.kind_of-kind.ensures) (starts_read bytes len long ordered sized own)

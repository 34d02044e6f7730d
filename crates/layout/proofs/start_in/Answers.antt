-- `start_in` meets its contract: rules 1 and 2, and rules 3 and 4 in the order in which rule 2 passes.
use Rattle.std.specs.Prelude.{Err}
use mathlib.Core.Path.{sym, ◌∙◌, ap}
use native.Mathlib.Omega.{arith}
use Rattle.layout.specs.File.{order_of}
use Rattle.layout.proofs.Starting.{starts_1, starts_2}
use Rattle.layout.proofs.start_in.Goals as goal

pub returns-then-len-lt348 : goal.returns-then-len-lt348
returns-then-len-lt348 c =
    let bytes = c.args.file.now in
    let size = c.args.len in
    ap Err c.at.ensures ∙ starts_1 bytes size c.if-len-lt348.true

pub start_by-requires : goal.start_by-requires
unfolding order_of
start_by-requires c =
    let little = sym c.holds_in.ensures ∙ c.if-holds_in.true in
    (omega arith, rw little, little)

pub returns-then-holds_in : goal.returns-then-holds_in
returns-then-holds_in c =
    let size = c.args.len in
    c.start_by.ensures size (omega arith)

pub start_by-requires-then-holds_in-2 : goal.start_by-requires-then-holds_in-2
unfolding order_of
start_by-requires-then-holds_in-2 c =
    let other = sym c.holds_in.ensures ∙ c.if-holds_in.false in
    (omega arith, rw other, sym c.holds_in-2.ensures ∙ c.if-holds_in-2.true)

pub returns-then-holds_in-2 : goal.returns-then-holds_in-2
returns-then-holds_in-2 c =
    let size = c.args.len in
    c.start_by-then-holds_in-2.ensures size (omega arith)

pub returns : goal.returns
unfolding order_of
returns c =
    let bytes = c.args.file.now in
    let size = c.args.len in
    let other = sym c.holds_in.ensures ∙ c.if-holds_in.false in
    ap Err c.at-2.ensures ∙ starts_2 bytes size (omega arith) (rw other (sym c.holds_in-2.ensures ∙ c.if-holds_in-2.false))

-- `put_extender` meets its contract: by the file's length the three bytes behind the first become zeros, or stay as they are.
use mathlib.Core.Path.{◌≡◌, ◌∙◌}
use native.Mathlib.Omega.{arith}
use borrow.Author.Tests.{lt-ltb, le-ltb}
use lib.ListN.{set}
use Rattle.buffer.specs.Put.{put}
use Rattle.edit_store.specs.Stores.{first_byte_at, extender_bytes}
use Rattle.edit_store.proofs.Storing.{first_kept, first_new}
use Rattle.edit_store.proofs.put_extender.Goals as goal
use Rattle.edit_store.proofs.put_extender.Goals.{then-len-lt-FIRST, else-len-lt-FIRST}

pub returns : goal.returns
returns c =
    let meet-bytes : set c.if-len-lt-FIRST.buf 348 (first_byte_at c.args.end) ≡ put c.args.buf.now 348 (extender_bytes c.args.len c.args.end c.args.buf.now) =
    let l = c.args.buf.now in
    let b = first_byte_at c.args.end in
    elim c.if-len-lt-FIRST.branch [
      | then-len-lt-FIRST w ↦ rw (lt-ltb c.args.len 352 (omega (arith, w.if-len-lt-FIRST.true))) (first_new l c.if-len-lt-FIRST.buf b c.requires (w.buf-is ∙ w.clear.ensures))
      | else-len-lt-FIRST w ↦ rw (le-ltb c.args.len 352 (omega (arith, w.if-len-lt-FIRST.false)), w.buf-is) (first_kept l b c.requires)
    ] in
    c.put_first.ensures ∙ meet-bytes

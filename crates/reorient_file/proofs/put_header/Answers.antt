-- `put_header` meets its contract: the 348 bytes of the new record are stored at the front.
use mathlib.Core.Path.{ap, ◌∙◌}
use native.Mathlib.Omega.{arith}
use Rattle.field.proofs.Stores.{sets_front}
use Rattle.header.specs.declared.Header.{Header}
use Rattle.encode.specs.Encode.{encode}
use Rattle.encode.proofs.Widths.{length-encode}
use Rattle.reorient_file.specs.Files.{with_header}
use Rattle.reorient_file.proofs.put_header.Goals as goal

pub returns : goal.returns
unfolding with_header
returns c =
    let l = c.args.out.now in
    let h = c.header_after-new.result in
    let n = length-encode h in
    let stored = rw n at (sets_front (encode h) l (omega arith)) in
    c.write_header.ensures ∙ stored ∙ ap (λ (g : Header). with_header g l) c.header_after-new.ensures

-- `put_front` meets its contract: the piece's bytes are copied to their places (proofs/Fronts.antt).
use Rattle.std.proofs.Common.{◌≡◌, ◌+◌, ◌-◌, ◌∙◌, sym, ap, length, take, length-take-le, arith, rules}
use Rattle.std.proofs.lemmas.List.{take_min}
use Rattle.buffer.specs.Put.{put}
use Rattle.pieces.specs.Pieces.{front_with}
use Rattle.pieces.proofs.Fronts.{front_stays, put_copied}
use Rattle.pieces.proofs.put_front.Goals as goal

pub returns-else-taken-lt352 : goal.returns-else-taken-lt352
returns-else-taken-lt352 c = let a = c.args in sym (front_stays a.front.now a.taken a.piece.now (omega arith))

pub returns-then-taken-lt352 : goal.returns-then-taken-lt352
unfolding front_with
returns-then-taken-lt352 c =
    let a = c.args in
    let n = c.min-n.result in
    let brought : c.copy_from_slice.new.self ≡ take n a.piece.now = search rules in
    let is_long : length c.copy_from_slice.new.self ≡ a.taken + n - a.taken = rw brought (length-take-le n a.piece.now (omega arith) ∙ omega arith) in
    put_copied a.front.now a.taken _ _ is_long
    ∙ ap (put a.front.now a.taken) (brought ∙ ap (λ k. take k a.piece.now) c.min-n.ensures ∙ take_min (352 - a.taken) a.piece.now)

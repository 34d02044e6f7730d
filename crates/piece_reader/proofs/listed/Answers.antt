-- `listed` meets its contract: the step is that of the walk where it stands.
use Rattle.std.proofs.Common.{◌≡◌, refl, rules, Ok, Some, None, Option}
use Rattle.extension.specs.declared.Span.{Span}
use Rattle.extension.specs.declared.Walker.{Walker}
use Rattle.reader.specs.declared.Reading.{Reading}
use Rattle.piece_reader.specs.Answer.{ended_by, listed_by}
use Rattle.piece_reader.proofs.listed.Goals as goal

-- a walk that stands still, at the end or before an extension, is answered with the list
ended_listed : (o : Option (Span × Walker)) (a : Reading) → ended_by (Ok o) a ≡ a
ended_listed None a = refl
ended_listed (Some (x, next)) a = refl

pub returns-in-Ok : goal.returns-in-Ok
unfolding listed_by
returns-in-Ok c = let all = ended_listed c.in-Ok.field-0 c.accepted-in-Ok.result in search rules

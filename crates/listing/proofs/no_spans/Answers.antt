-- `no_spans` meets its contract: 64 zero spans, by computation.
use mathlib.Core.Path.{refl}
use Rattle.extension.specs.Listing.{spans_of}
use Rattle.listing.proofs.no_spans.Goals as goal

pub returns : goal.returns
unfolding spans_of
returns c = refl

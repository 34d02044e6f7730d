-- How far a piece takes the walk over the extensions: it passes each extension that has come whole, and stands still at the first place
-- where that is not so. What stands there is judged when the answer is asked for, by the length that the file then has. Of any state
-- this says what a piece makes of it.
use Rattle.refusal.specs.declared.Refusal.{Refusal}
use Rattle.std.specs.Prelude.{ℕ, zero, suc, ◌+◌, ◌-◌, min, List, length, set, Ok, Err, Some, None, Result, Option}
use Rattle.field.specs.declared.Order.{Order}
use Rattle.field.specs.Numbers.{i32_at}
use Rattle.extension.specs.declared.Span.{Span}
use Rattle.extension.specs.declared.Walker.{Walker}
use Rattle.extension.specs.Walk.{extension_limit, found_by, step_from}
use Rattle.piece_walk.specs.declared.Walk.{Walk}
use Rattle.piece_walk.specs.Window.{window}
use Rattle.piece_walk.specs.Marks.{mark_of}

-- the next step, where `total` bytes have come and `coming` are the first eight at the walker's place
unfoldable pub step_by : Walker → List ℕ → ℕ → Result (Option (Span × Walker)) Refusal
step_by w coming total =
    step_from w
    (found_by w.count w.at (min w.end total - w.at) (i32_at w.order coming 0) (i32_at w.order coming 4))

-- the walker that stands where the walk does, by the file's byte order and the end of its region
abbrev pub walker_of : Order → ℕ → Walk → Walker
walker_of order end g = record { order = order; end = end; at = g.at; count = g.count }

-- the walk past an extension. A piece follows n bytes, of which `old` are the eight that were kept
abbrev pub passed_by : ℕ → List ℕ → ℕ → List ℕ → Walk → Span → Walker → Walk
passed_by end old n piece g x next =
    record {
      at = next.at;
      count = next.count;
      coming = window next.at end n old piece;
      marks = set g.marks g.count (mark_of x);
    }

abbrev pub if_extension : Result (Option (Span × Walker)) Refusal → Walk → (Span → Walker → Walk) → Walk
if_extension (Ok (Some (x, next))) g f = f x next
if_extension (Ok None) g f = g
if_extension (Err r) g f = g

-- the walk over at most k extensions more
unfoldable pub passing : Order → ℕ → List ℕ → ℕ → List ℕ → ℕ → Walk → Walk
passing order end old n piece zero g = g
passing order end old n piece (suc k) g =
    if_extension (step_by (walker_of order end g) g.coming (n + length piece)) g
    (λ x next. passing order end old n piece k (passed_by end old n piece g x next))

-- the walk where it stands, with the piece's bytes of the extension that is coming
abbrev pub resumed : ℕ → Walk → ℕ → List ℕ → Walk
resumed end g n piece =
    record {
      at = g.at;
      count = g.count;
      coming = window g.at end n g.coming piece;
      marks = g.marks;
    }

-- and on over all that has come whole
unfoldable pub walked_on : Order → ℕ → Walk → ℕ → List ℕ → Walk
walked_on order end g n piece = passing order end g.coming n piece (extension_limit - g.count) (resumed end g n piece)

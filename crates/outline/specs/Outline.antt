-- What a file shows without its record: the same judgement as `reading_of`, with the layout, how many extensions there are and the one
-- that is wanted; past the last there are zeros. The laws `shown_reading` and `hidden_reading` tie it to the reading of the file.
use Rattle.outline.specs.declared.Outline.{Outline}
use Rattle.refusal.specs.declared.Refusal.{Refusal}
use Rattle.layout.specs.declared.Layout.{Layout}
use Rattle.std.specs.Prelude.{ℕ, Bool, cond, List, length, get_or, Ok, Err, Result}
use Rattle.extension.specs.Walk.{Walked, listed, stopped}
use Rattle.extension.specs.Listing.{no_span}
use Rattle.layout.specs.File.{layout_of, checked_in}
use Rattle.reader.specs.Reading.{judgement}

abbrev pub outlined_by : ℕ → List ℕ → Walked → Result Outline Refusal
outlined_by wanted s (listed xs) = Ok (record { layout = layout_of s; count = length xs; span = get_or xs wanted no_span })
outlined_by wanted s (stopped r) = Err r

unfoldable pub outline_of : ℕ → List ℕ → Result Outline Refusal
outline_of wanted s = outlined_by wanted s (judgement s)

-- what rules 1 to 12 show by themselves: the layout, with no extension counted
abbrev pub checked_outline : Result Layout Refusal → Result Outline Refusal
checked_outline (Ok l) = Ok (record { layout = l; count = 0; span = no_span })
checked_outline (Err r) = Err r

-- the outline of a whole file; of a file's first bytes and its length, what rules 1 to 12 show
abbrev pub outline_in : List ℕ → ℕ → Bool → ℕ → Result Outline Refusal
outline_in s len whole wanted = cond whole (outline_of wanted s) (checked_outline (checked_in s len))

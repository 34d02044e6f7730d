-- A file's answers by its outline are those of its reading: its refusal where the outline is hidden, and else what the outline shows.
use Rattle.std.specs.Prelude.{Ok, Err}
use Prim.Native.Nat.{ℕ}
use mathlib.Core.Path.{◌≡◌, ap, sym, ◌∙◌}
use mathlib.Core.List.{List}
use Rattle.refusal.specs.declared.Refusal.{Refusal}
use Rattle.extension.specs.declared.Span.{Span}
use Rattle.extension.specs.Listing.{spans_of}
use Rattle.header.specs.Fields.{header_of}
use Rattle.rules.specs.Rules.{completed}
use Rattle.reader.specs.Reading.{reading_of}
use Rattle.outline.specs.declared.Outline.{Outline}
use Rattle.outline.specs.Outline.{outline_of}
use Rattle.outline.proofs.Outlines.{hidden_reading, shows, shown_reading, shown_span}
use Rattle.answers.specs.Answers.{shown_file, refused_file, file_answer, refused_extension, extension_shown, extension_answer}

module _ (s : List ℕ) (wanted : ℕ) where
  module _ (r : Refusal) (e : outline_of wanted s ≡ Err r) where
    pub hidden_file : refused_file r ≡ file_answer (reading_of s)
    unfolding file_answer
    hidden_file = sym (ap file_answer (hidden_reading s wanted r e))

    pub hidden_extension : refused_extension r ≡ extension_answer (reading_of s) wanted
    unfolding extension_answer
    hidden_extension = sym (ap (λ x. extension_answer x wanted) (hidden_reading s wanted r e))

  module _ (o : Outline) (e : outline_of wanted s ≡ Ok o) where
    abbrev spans : List Span
    spans = spans_of (shows s wanted o e).list

    pub shown_file_lem : shown_file (completed (header_of o.layout.order o.layout.kind o.count spans s)) o.layout.image
        ≡ file_answer (reading_of s)
    unfolding file_answer
    shown_file_lem = sym (ap file_answer (shown_reading s wanted o e))

    pub shown_extension_lem : extension_shown o.count o.span wanted ≡ extension_answer (reading_of s) wanted
    unfolding extension_answer header_of
    shown_extension_lem =
        sym (ap (λ x. extension_answer x wanted) (shown_reading s wanted o e)
        ∙ (λ i. extension_shown o.count (shown_span s wanted o e i) wanted))

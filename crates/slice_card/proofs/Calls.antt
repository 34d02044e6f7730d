-- What the calls answer and leave, case by case.
use Rattle.refusal.specs.declared.Rule.TheVariants.{ShortBuffer}
use Rattle.std.specs.Prelude.{Ok, Err, Result}
use mathlib.Core.Path.{◌≡◌, sym, ap, ◌∙◌}
use mathlib.Core.Bool.{true, false}
use mathlib.Core.List.{List, [], ◌∷◌, ◌++◌, append_assoc}
use Prim.Native.Nat.{ℕ, ◌+◌, ◌≤◌, ◌<◌}
use native.Mathlib.Omega.{arith}
use borrow.Author.Tests.{lt-ltb, le-ltb}
use lib.ListN.{length, length-append}
use Rattle.refusal.specs.declared.Refusal.{Refusal}
use Rattle.refusal.specs.Table.{refusal, verdict, no_refusal}
use Rattle.buffer.specs.Put.{put}
use Rattle.buffer.specs.Fill.{Fills}
use Rattle.buffer.proofs.Laws.{put_right}
use Rattle.decimal.specs.Decimal.{decimal}
use Rattle.reader.specs.declared.Reading.{Reading}
use Rattle.timing.specs.declared.Acquisition.{Acquisition}
use Rattle.timing.specs.Slices.{is_stated}
use Rattle.slice_rank.specs.Ranked.{acquired_count}
use Rattle.card_lines.specs.Lines.{lines_to, ended, lines_text}
use Rattle.card_lines.proofs.Texts.{ended-append, ended_one}
use Rattle.slice_card.specs.Card.{padded_count, padded, padded_line, no_timing, stated_lines, card_lines, room_for, card_of, card_answer, card_out}

-- ---- a text for a buffer l: 22, or the text at its front
module _ (l text : List ℕ) where
  pub fills_none : length l < length text → Fills (room_for text (length l)) text l (Err (refusal ShortBuffer 0)) l
  unfolding verdict
  fills_none h = let e = lt-ltb (length l) (length text) h in (rw e, rw e)

  pub fills_whole : (d : List ℕ) (n : ℕ) → length text ≤ length l → n ≡ length text → d ≡ put l 0 text
      → Fills (room_for text (length l)) text l (Ok n) d
  unfolding verdict
  fills_whole d n h en ed = let e = le-ltb (length l) (length text) h in (rw e (ap Ok en), rw e ed)

-- ---- where timing is stated
module _ (a : Acquisition) (n count : ℕ) (en : n ≡ acquired_count a) (ec : count ≡ padded_count a) where
  stated_text : ended (stated_lines a) ≡ lines_text a n ++ (padded ++ (decimal count ++ (10 ∷ [])))
  unfolding padded_line
  stated_text =
      ended-append (lines_to a (acquired_count a)) (padded_line (padded_count a) ∷ [])
      ∙ ap (λ (t : List ℕ). lines_text a (acquired_count a) ++ t)
      (ended_one (padded_line (padded_count a)) ∙ append_assoc padded (decimal (padded_count a)) (10 ∷ []))
      ∙ sym (λ i. lines_text a (en i) ++ (padded ++ (decimal (ec i) ++ (10 ∷ []))))

  pub stated_length : length (ended (stated_lines a)) ≡ length (lines_text a n) + length (decimal count) + 8
  stated_length = rw stated_text (simp length-append (omega arith))

  pub stated_written : (l b d : List ℕ) (at : ℕ) → at ≡ length (lines_text a n) → b ≡ put l 0 (lines_text a n)
      → d ≡ put b at (padded ++ (decimal count ++ (10 ∷ []))) → d ≡ put l 0 (ended (stated_lines a))
  stated_written l b d at ea eb ed =
      ed ∙ put_right l 0 (lines_text a n) (padded ++ (decimal count ++ (10 ∷ []))) b at eb (omega arith) (omega arith)
      ∙ ap (put l 0) (sym stated_text)

-- ---- which of the two it is
module _ (a : Acquisition) where
  pub card_stated : is_stated a ≡ true → card_lines a ≡ stated_lines a
  unfolding card_lines
  card_stated e = rw e

  pub card_unstated : is_stated a ≡ false → card_lines a ≡ no_timing ∷ []
  unfolding card_lines
  card_unstated e = rw e

-- ---- by what reading answered
module _ (r : Reading) (out : List ℕ) where
  pub reading_refused : (q : Refusal) → r.verdict ≡ Err q
      → (Err q ≡ card_answer r (length out)) × (out ≡ card_out r out)
  unfolding card_answer card_out
  reading_refused q e = (rw e, rw e)

  pub reading_accepted : r.verdict ≡ no_refusal → (answer : Result ℕ Refusal) (out' : List ℕ)
      → Fills (room_for (card_of r) (length out)) (card_of r) out answer out'
      → (answer ≡ card_answer r (length out)) × (out' ≡ card_out r out)
  unfolding card_answer card_out
  reading_accepted e answer out' f = (rw e f.0, rw e f.1)

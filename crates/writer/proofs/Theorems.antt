-- Demand 2: "Writing the record gives the same 348 bytes." The record of an accepted file is never refused for what it holds, and
-- written to any buffer that has room it puts the file's first 348 bytes there and leaves the rest.
use Rattle.refusal.specs.Table.{no_refusal}
use Prim.Native.Nat.{ℕ, ◌≤◌, ◌<◌}
use mathlib.Core.Path.{◌≡◌, ap, ◌∙◌}
use mathlib.Core.List.{List, ◌++◌}
use borrow.Author.Tests.{le-ltb}
use lib.ListN.{length, get_or, take, drop}
use Rattle.number.proofs.Same.{same_is}
use Rattle.field.specs.Numbers.{bytes_at}
use Rattle.refusal.proofs.Rows.{none, one, clear_accepted, clear_append}
use Rattle.reader.specs.Reading.{reading_of, IsAccepted}
use Rattle.layout.specs.File.{order_of, kind_of, has_magic}
use Rattle.encode.specs.Encode.{encode}
use Rattle.encode.proofs.Round.{header_back}
use Rattle.extension.specs.Listing.{spans_of}
use Rattle.header.specs.Fields.{magic_of, header_of}
use Rattle.reader.specs.declared.Reading.{Reading}
use Rattle.reader.proofs.File.{accepted_file, accepted_list, accepted_reads, accepted_record, accepted_sizes, accepted_aligned}
use Rattle.writer.specs.Write.{write_answer, written}
use Rattle.writer.proofs.Writing.{right_passes}

-- the record of an accepted file states the file's own bytes
pub accepted_back : (s : List ℕ) (a : IsAccepted s) → ((i : ℕ) → get_or s i 0 < 256) → encode (reading_of s).header ≡ take 348 s
unfolding has_magic encode header_of
accepted_back s a all =
    let r = (accepted_file s a).file.rules in
    let xs = accepted_list s a in
    let m = same_is (bytes_at 344 4 s) (magic_of (kind_of s)) r.magic in
    ap (λ (x : Reading). encode x.header) (accepted_reads s a)
    ∙ header_back (order_of s) s all (kind_of s) (length xs) (spans_of xs) r.size m r.long

module _ (s : List ℕ) (a : IsAccepted s) (l : List ℕ) (room : 348 ≤ length l) where
  pub write_accepts : write_answer (reading_of s).header (length l) ≡ no_refusal
  unfolding write_answer
  write_accepts =
      let right = right_passes (reading_of s).header (accepted_sizes s a, accepted_aligned s a) in
      clear_accepted (clear_append (accepted_record s a) (one right (one (le-ltb (length l) 348 room) none)))

  pub written_back : ((i : ℕ) → get_or s i 0 < 256) → written (reading_of s).header l ≡ take 348 s ++ drop 348 l
  unfolding written
  written_back all = rw (write_accepts, accepted_back s a all)

-- A file's reading, from what its rules and its list of extensions answer.
use Rattle.refusal.specs.Table.{no_refusal}
use Rattle.std.specs.Prelude.{Ok, Err}
use Prim.Native.Nat.{ℕ}
use mathlib.Core.Path.{◌≡◌, ap, sym, ◌∙◌}
use mathlib.Core.List.{List}
use lib.ListN.{length}
use Rattle.refusal.specs.declared.Refusal.{Refusal}
use Rattle.extension.specs.declared.Listing.{Listing}
use Rattle.extension.specs.Walk.{stopped}
use Rattle.extension.specs.Listing.{listing_of}
use Rattle.extension.proofs.Listings.{listing_accepted, listing_refused}
use Rattle.layout.specs.declared.Layout.{Layout}
use Rattle.layout.specs.File.{checked_of}
use Rattle.layout.proofs.Checking.{checked_fits, checked_breaks}
use Rattle.reader.specs.Reading.{extensions_of, judgement, refused_with, accepted_with, reading_by, reading_of}

module _ (s : List ℕ) where
  pub judgement_fits : (l : Layout) → checked_of s ≡ Ok l → judgement s ≡ extensions_of l s
  unfolding judgement
  judgement_fits l e =
      let p = checked_fits s (length s) l e in
      rw p.0 (ap (λ (m : Layout). extensions_of m s) p.1)

  pub judgement_breaks : (r : Refusal) → checked_of s ≡ Err r → judgement s ≡ stopped r
  unfolding judgement
  judgement_breaks r e = rw (checked_breaks s (length s) r e)

  reads_stopped : (r : Refusal) → judgement s ≡ stopped r → refused_with r ≡ reading_of s
  unfolding reading_of
  reads_stopped r e = rw e

  pub reads_broken : (r : Refusal) → checked_of s ≡ Err r → refused_with r ≡ reading_of s
  reads_broken r e = reads_stopped r (judgement_breaks r e)

  module _ (layout : Layout) (fits : checked_of s ≡ Ok layout) (l : Listing) (e : l ≡ listing_of (extensions_of layout s)) where
    pub reads_refused : (r : Refusal) → l.verdict ≡ Err r → refused_with r ≡ reading_of s
    reads_refused r v = reads_stopped r (judgement_fits layout fits ∙ listing_refused (extensions_of layout s) l r e v)

    pub reads_accepted : l.verdict ≡ no_refusal → accepted_with s layout l.count l.spans ≡ reading_of s
    unfolding reading_of
    reads_accepted v =
        let h = listing_accepted (extensions_of layout s) l e v in
        let lay = sym (checked_fits s (length s) layout fits).1 in
        (λ i. accepted_with s (lay i) (h.count i) (h.spans i)) ∙ ap (reading_by s) (sym (judgement_fits layout fits ∙ h.walked))

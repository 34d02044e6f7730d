-- A listing, read back: which walk it is of. An accepted one's count is the length of the list.
use Rattle.refusal.specs.Table.{no_refusal}
use Rattle.std.specs.Prelude.{Err}
use Prim.Native.Nat.{ℕ, zero, suc, ◌-◌}
use mathlib.Core.Path.{◌≡◌, refl}
use mathlib.Core.List.{List, [], ◌∷◌, ◌++◌}
use lib.ListN.{length, get_or, replicate}
use Rattle.refusal.specs.declared.Refusal.{Refusal}
use Rattle.extension.specs.declared.Span.{Span}
use Rattle.extension.specs.declared.Listing.{Listing}
use Rattle.extension.specs.Walk.{extension_limit, Walked, listed, stopped}
use Rattle.extension.specs.Listing.{no_span, spans_of, listing_of}

-- the list that an accepted listing holds
pub record Held (v : Walked) (l : Listing) : Type 0 where
  pub list : List Span
  pub walked : v ≡ listed list
  pub count : l.count ≡ length list
  pub spans : l.spans ≡ spans_of list

pub listing_accepted : (v : Walked) (l : Listing) → l ≡ listing_of v → l.verdict ≡ no_refusal → Held v l
unfolding listing_of
listing_accepted (listed xs) l e a = record { list = xs; walked = refl; count = cc; spans = cc }
listing_accepted (stopped r) l e a = record { list = []; walked = cc; count = cc; spans = cc }

pub listing_refused : (v : Walked) (l : Listing) (r : Refusal) → l ≡ listing_of v → l.verdict ≡ Err r → v ≡ stopped r
unfolding listing_of
listing_refused (listed xs) l r e a = cc
listing_refused (stopped q) l r e a = cc

-- at any number stands what the list itself has there, and past it zeros
zeros_at : (n k : ℕ) → get_or (replicate n no_span) k no_span ≡ no_span
zeros_at zero k = refl
zeros_at (suc n) zero = refl
zeros_at (suc n) (suc k) = zeros_at n k

padded_at : (xs : List Span) (n k : ℕ) → get_or (xs ++ replicate n no_span) k no_span ≡ get_or xs k no_span
padded_at [] n k = zeros_at n k
padded_at (x ∷ xs) n zero = refl
padded_at (x ∷ xs) n (suc k) = padded_at xs n k

pub spans_of_at : (xs : List Span) (k : ℕ) → get_or (spans_of xs) k no_span ≡ get_or xs k no_span
unfolding spans_of
spans_of_at xs k = padded_at xs (extension_limit - length xs) k

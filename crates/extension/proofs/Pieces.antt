-- The walk and the extensions with all their bytes, both ways: a region whose walk lists spans is its pieces joined, each of them
-- whole (`opened`); and any 1 to 64 whole extensions joined are listed, one after the other (`walk_join`).
use Prim.Native.Nat.{ℕ, zero, suc, ◌+◌, ◌-◌, ◌≤◌, ◌<◌, zero-le, suc-le-suc}
use mathlib.Core.Path.{◌≡◌, refl, sym, ap, ◌∙◌}
use mathlib.Core.List.{List, [], ◌∷◌, ◌++◌, append_assoc}
use native.Mathlib.Omega.{arith}
use native.Mathlib.Nat.{suc-ne-zero, zero-add}
use lib.IntN.{pos, nat_abs}
use lib.ListN.{length, take, drop, get_or, length-append, take-append-drop, get_or-append}
use lib.Seq.{length-take-le, drop-append_seam, get_or-append-add, take_at, drop_at}
use mir.Syntax.{w32}
use mir.Val.{to_z}
use Rattle.field.specs.declared.Order.{Order}
use Rattle.field.specs.Numbers.{u32_at, i32_at, joined}
use Rattle.refusal.specs.declared.Refusal.{Refusal}
use Rattle.extension.specs.declared.Span.{Span}
use Rattle.extension.specs.Walk.{extension_limit, first_place, span_at, Found, extension, ended, refused, found}
use Rattle.extension.specs.Walk.{Walked, listed, stopped, onto, go_on, walk, extensions_in}
use Rattle.extension.specs.Pieces.{pieces, Complete, AllComplete, none, one, spans_from}
use Rattle.extension.proofs.Signs.{to_z_low, rule_holds}
use Rattle.extension.proofs.Regions.{u32_same}
use Rattle.extension.proofs.Found.{found_ended, found_extension, Taken, taken, at_end}
use Rattle.extension.proofs.Walks.{before, stopped_never, walk_extension, walk_ended}

-- the numbers of an extension's bytes, whatever follows them
pub i32_front : (order : Order) (x r : List ℕ) (at : ℕ) → at + 4 ≤ length x → i32_at order (x ++ r) at ≡ i32_at order x at
i32_front order x r at h = ap (to_z w32) (u32_same order (x ++ r) x at at (λ k below. get_or-append x r 0 (at + k) (omega arith)))

pub complete_small : {order : Order} {x : List ℕ} → Complete order x → length x < 2147483648
complete_small {order} {x} w = let t = to_z_low (u32_at order x 0) (length x) w.size in omega arith

-- whole extensions, joined, are walked over
module _ (order : Order) (x r : List ℕ) (w : Complete order x) where
  span_front : (at : ℕ) → span_at order at (x ++ r) ≡ span_at order at x
  span_front at = rw (i32_front order x r 0 (omega arith), i32_front order x r 4 (omega arith))

  found_whole : (n at : ℕ) → n < extension_limit → found order n at (x ++ r) ≡ extension (span_at order at x)
  unfolding found
  found_whole n at more =
      let l = length-append x r in
      let rule = rule_holds (length x) (length (x ++ r)) w.least w.units (omega arith) in
      let size : i32_at order (x ++ r) 0 ≡ pos (length x) = i32_front order x r 0 (omega arith) ∙ w.size in
      let code : i32_at order (x ++ r) 4 ≡ i32_at order x 4 = i32_front order x r 4 (omega arith) in
      found_extension n at (length (x ++ r)) (i32_at order (x ++ r) 0) (i32_at order (x ++ r) 4) (omega arith) more (rw size rule) (rw code w.code)
      ∙ ap extension (span_front at)

found_nothing : (order : Order) (n at : ℕ) → (n ≡ 0 → ⊥) → found order n at [] ≡ ended
unfolding found
found_nothing order n at h = found_ended n at 0 (i32_at order [] 0) (i32_at order [] 4) refl h

pub walk_join : (order : Order) (left at : ℕ) {xs : List (List ℕ)} → AllComplete order xs → length xs ≤ left → left ≤ extension_limit
    → (left ≡ extension_limit → 0 < length xs) → walk order left at (joined xs) ≡ listed (spans_from order at xs)
unfolding spans_from
walk_join order left at none h k n = walk_ended order at [] left (found_nothing order (before left) at (λ e. omega (arith, n (omega arith))))
walk_join order left at (one {x} {xs} w ws) h k n =
    let later : left - 1 ≡ extension_limit → 0 < length xs = λ e. absurd (omega arith) in
    let size : nat_abs (i32_at order x 0) ≡ length x = ap nat_abs w.size in
    walk_extension order at (x ++ joined xs) left (span_at order at x) (found_whole order x (joined xs) w (before left) at (omega arith))
    ∙ rw (size, drop-append_seam, walk_join order (left - 1) (at + length x) ws (omega arith) (omega arith) later)

-- in a file: what stands in front of the extensions, and what follows them, doesn't matter
pub placed_listed : (order : Order) (head tail : List ℕ) {xs : List (List ℕ)} → length head ≡ first_place → AllComplete order xs → 0 < length xs
    → length xs ≤ extension_limit
    → extensions_in order (first_place + length (joined xs)) (head ++ (joined xs ++ tail)) ≡ listed (spans_from order first_place xs)
unfolding extensions_in
placed_listed order head tail {xs} h ws some few =
    let all = joined xs in
    let l : length (head ++ all) ≡ first_place + length all = simp (length-append, h) in
    rw (← append_assoc head all tail, take_at (head ++ all) tail (first_place + length all) l, drop_at head all first_place h)
    (walk_join order extension_limit first_place ws few (omega arith) (λ e. some))

-- what a walk that lists the spans ss says of the region: it is their pieces joined, each whole; ss are the pieces' spans, no more
-- than may come, and at the limit at least one
pub record Opened (order : Order) (left at : ℕ) (rest : List ℕ) (ss : List Span) : Type 0 where
  pub region : joined (pieces ss rest) ≡ rest
  pub complete : AllComplete order (pieces ss rest)
  pub spans : spans_from order at (pieces ss rest) ≡ ss
  pub few : length ss ≤ left
  pub some : left ≡ extension_limit → 0 < length ss

nothing : (l : List ℕ) → length l ≡ 0 → l ≡ []
nothing [] e = refl
nothing (a ∷ l) e = absurd (suc-ne-zero (length l) e)

uncons : (x : Span) (r : Walked) (ss : List Span) → onto x r ≡ listed ss → (xs : List Span) × (r ≡ listed xs) × (ss ≡ x ∷ xs)
uncons x (listed xs) ss e = (xs, refl, cc)
uncons x (stopped r) ss e = ([], (cc), (cc))

module _ (order : Order) (left at : ℕ) (rest : List ℕ) where
  open_end : (ss : List Span) → found order (before left) at rest ≡ ended → listed [] ≡ listed ss → Opened order left at rest ss
  unfolding pieces spans_from
  open_end ss f e =
      let d = at_end order (before left) at rest f in
      let z : ss ≡ [] = cc in
      rw (z, nothing rest d.0) record { region = refl; complete = none; spans = refl; few = zero-le; some = λ l. absurd (d.1 (omega arith)) }

  open_refused : (ss : List Span) (r : Refusal) → stopped r ≡ listed ss → Opened order left at rest ss
  open_refused ss r e = stopped_never e

  -- the piece that is cut for a span is whole, and the span is its own
  module _ (x : Span) (t : Taken order (before left) at rest x) where
    piece_length : length (take (nat_abs x.size) rest) ≡ nat_abs x.size
    piece_length = length-take-le (nat_abs x.size) rest t.size.within

    piece_number : (k : ℕ) → k + 4 ≤ 16 → i32_at order (take (nat_abs x.size) rest) k ≡ i32_at order rest k
    piece_number k h =
        let r = t.size in
        sym (rw take-append-drop at (i32_front order (take (nat_abs x.size) rest) (drop (nat_abs x.size) rest) k (omega (arith, piece_length))))

    piece_span : span_at order at (take (nat_abs x.size) rest) ≡ x
    piece_span = rw (piece_number 0 (omega arith), piece_number 4 (omega arith)) (sym t.span)

    piece_complete : Complete order (take (nat_abs x.size) rest)
    piece_complete =
        record {
          size = ap (λ (y : Span). y.size) piece_span ∙ t.size.whole ∙ sym (ap pos piece_length);
          least = rw piece_length t.size.least;
          units = rw piece_length t.size.units;
          code = rw (ap (λ (y : Span). y.code) piece_span) t.code;
        }

open_more : (order : Order) (m at : ℕ) (rest : List ℕ) (x : Span) (xs : List Span) → Taken order (before (suc m)) at rest x
    → Opened order m (at + nat_abs x.size) (drop (nat_abs x.size) rest) xs → Opened order (suc m) at rest (x ∷ xs)
unfolding pieces spans_from
open_more order m at rest x xs t o =
    record {
      region = rw o.region (take-append-drop (nat_abs x.size) rest);
      complete = one (piece_complete order (suc m) at rest x t) o.complete;
      spans = rw (piece_length order (suc m) at rest x t, piece_span order (suc m) at rest x t, o.spans);
      few = suc-le-suc o.few;
      some = λ e. suc-le-suc zero-le;
    }

pub opened : (order : Order) (left at : ℕ) (rest : List ℕ) (ss : List Span) → walk order left at rest ≡ listed ss → Opened order left at rest ss
unfolding walk
opened order zero at rest ss e = by (found order extension_limit at rest) refl e where
  by : (f : Found) → found order extension_limit at rest ≡ f → go_on f (λ x. listed []) ≡ listed ss → Opened order zero at rest ss
  by ended h q = open_end order zero at rest ss h q
  by (refused r) h q = open_refused order zero at rest ss r q
  by (extension x) h q = let t = taken order extension_limit at rest x h in absurd (omega arith)
opened order (suc m) at rest ss e = by (λ a r xs q. opened order m a r xs q) (found order (before (suc m)) at rest) refl e where
  by : ((a : ℕ) (r : List ℕ) (xs : List Span) → walk order m a r ≡ listed xs → Opened order m a r xs)
      → (f : Found) → found order (before (suc m)) at rest ≡ f
      → go_on f (λ x. onto x (walk order m (at + nat_abs x.size) (drop (nat_abs x.size) rest))) ≡ listed ss → Opened order (suc m) at rest ss
  by ih ended h q = open_end order (suc m) at rest ss h q
  by ih (refused r) h q = open_refused order (suc m) at rest ss r q
  by ih (extension x) h q =
      let n = nat_abs x.size in
      let u = uncons x (walk order m (at + n) (drop n rest)) ss q in
      rw u.2 (open_more order m at rest x u.0 (taken order (before (suc m)) at rest x h) (ih (at + n) (drop n rest) u.0 u.1))

-- the k-th span is that of the k-th extension, behind those before it
pub spans_from_at : (order : Order) (at : ℕ) (xs : List (List ℕ)) (k : ℕ) (z : Span) → k < length xs
    → get_or (spans_from order at xs) k z ≡ span_at order (at + length (joined (take k xs))) (get_or xs k [])
unfolding spans_from
spans_from_at order at [] k z h = absurd (omega arith)
spans_from_at order at (x ∷ xs) zero z h = let e : at + 0 ≡ at = omega arith in rw e
spans_from_at order at (x ∷ xs) (suc k) z h =
    let l = length-append x (joined (take k xs)) in
    let e : at + length (x ++ joined (take k xs)) ≡ at + length x + length (joined (take k xs)) = omega arith in
    rw e (spans_from_at order (at + length x) xs k z (omega arith))

pub length-spans_from : (order : Order) (at : ℕ) (xs : List (List ℕ)) → length (spans_from order at xs) ≡ length xs
unfolding spans_from
length-spans_from order at [] = refl
length-spans_from order at (x ∷ xs) = ap suc (length-spans_from order (at + length x) xs)

pub complete_at : {order : Order} {xs : List (List ℕ)} → AllComplete order xs → (k : ℕ) → k < length xs → Complete order (get_or xs k [])
complete_at none k h = absurd (omega arith)
complete_at (one w ws) zero h = w
complete_at (one w ws) (suc k) h = complete_at ws k (omega arith)

-- the bytes of the k-th extension stand behind those before it
pub joined_at : (xs : List (List ℕ)) (k i : ℕ) → k < length xs → i < length (get_or xs k [])
    → get_or (joined xs) (length (joined (take k xs)) + i) 0 ≡ get_or (get_or xs k []) i 0
joined_at [] k i h b = absurd (omega arith)
joined_at (x ∷ xs) zero i h b = rw zero-add (get_or-append x (joined xs) 0 i b)
joined_at (x ∷ xs) (suc k) i h b =
    let l = length-append x (joined (take k xs)) in
    let e : length (x ++ joined (take k xs)) + i ≡ length x + (length (joined (take k xs)) + i) = omega arith in
    rw e (get_or-append-add x (joined xs) (length (joined (take k xs)) + i) 0 ∙ joined_at xs k i (omega arith) b)

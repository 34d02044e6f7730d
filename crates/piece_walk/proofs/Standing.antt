-- The walk over the bytes so far, as these alone say it (specs/Whole.antt): a piece takes it to the walk over the longer bytes
-- (`walked_first`, `walked_later`), and from where it stands the whole list of extensions follows (`standing_listed`, `standing_stopped`).
use Rattle.std.specs.Prelude.{Ok, Err, Some, None}
use Prim.Native.Nat.{ℕ, zero, suc, ◌+◌, ◌-◌, ◌<◌, ◌≤◌}
use mathlib.Core.Path.{◌≡◌, refl, sym, ap, ◌∙◌}
use mathlib.Core.Bool.{Bool, true, false}
use mathlib.Core.List.{List, [], ◌∷◌, ◌++◌, append-nil}
use native.Mathlib.Omega.{arith}
use borrow.Author.Tests.{ltb-true, ltb-false}
use lib.Dec.{ltb}
use lib.IntN.{nat_abs}
use lib.ListN.{length, get_or, take, drop, length-take, length-append, get_or-eq_default}
use lib.Seq.{append_snoc, get_or-drop, take-append-le}
use mir.Syntax.{w32}
use mir.Val.{to_z}
use Rattle.refusal.specs.declared.Refusal.{Refusal}
use Rattle.field.specs.declared.Order.{Order}
use Rattle.field.specs.Numbers.{bytes_at, i32_at}
use Rattle.field.proofs.Tabulate.{tabulate_get, tabulate_same}
use Rattle.extension.specs.declared.Span.{Span}
use Rattle.extension.specs.declared.Walker.{Walker}
use Rattle.extension.specs.Walk.{extension_limit, first_place, rest_of, Found, extension, ended, refused, found_by, found, past, step_from, step_of}
use Rattle.extension.specs.Walk.{Walked, listed, stopped, extensions_in}
use Rattle.extension.proofs.Regions.{length_rest, u32_same}
use Rattle.extension.proofs.Found.{taken}
use Rattle.listing.proofs.Passed.{Passed, pass_none, pass_turn, pass_end, pass_halt, stepped}
use Rattle.piece_walk.specs.declared.Walk.{Walk}
use Rattle.piece_walk.specs.Marks.{marks_of, spans_by}
use Rattle.piece_walk.specs.Walking.{step_by, passed_by, if_extension, passing, walked_on}
use Rattle.piece_walk.specs.Whole.{if_found, whole_from, place_after, standing, walk_of}
use Rattle.piece_walk.proofs.Windows.{window_is}
use Rattle.piece_walk.proofs.Marks.{marks_more, Follows, none, one, spans_back}
use Rattle.piece_walk.proofs.More.{found_more, found_less}

-- the step by the bytes kept is the walker's step over the bytes so far
module _ (w : Walker) (b : List ℕ) where
  abbrev kept : List ℕ
  kept = bytes_at w.at 8 (take w.end b)

  number : (k : ℕ) → k + 4 ≤ 8 → i32_at w.order kept k ≡ i32_at w.order (rest_of b w.end w.at) k
  number k h =
      ap (to_z w32)
      (u32_same w.order kept (rest_of b w.end w.at) k k
      (λ i below.
      tabulate_get (λ j. get_or (take w.end b) (w.at + j) 0) 8 (k + i) 0 (omega arith)
      ∙ sym (get_or-drop w.at (take w.end b) (k + i) 0)))

  pub step_same : step_by w kept (length b) ≡ step_of b w
  unfolding step_by step_of found
  step_same =
      let l = length_rest b w.end w.at in
      λ i. step_from w (found_by w.count w.at (sym l i) (number 0 (omega arith) i) (number 4 (omega arith) i))

end_never : (x : Span) → ended ≡ extension x → ⊥
end_never x e = let z : ◌≡◌ {A = ℕ} 0 1 = cc in omega arith

refused_no : (r : Refusal) (x : Span) → refused r ≡ extension x → ⊥
refused_no r x e = let z : ◌≡◌ {A = ℕ} 0 1 = cc in omega arith

place-append : (at : ℕ) (xs ys : List Span) → place_after at (xs ++ ys) ≡ place_after (place_after at xs) ys
place-append at [] ys = refl
place-append at (x ∷ xs) ys = place-append (at + nat_abs x.size) xs ys

-- bytes that end at a place hold no extension there
none_whole : (order : Order) (end : ℕ) (b : List ℕ) (k at : ℕ) → length b ≤ at → whole_from order end b k at ≡ []
unfolding whole_from
none_whole order end b zero at h = refl
none_whole order end b (suc k) at h = by (found order (extension_limit - suc k) at (rest_of b end at)) refl
  where
    by : (f : Found) → found order (extension_limit - suc k) at (rest_of b end at) ≡ f
        → if_found f (λ x. x ∷ whole_from order end b k (at + nat_abs x.size)) ≡ []
    by (extension x) e =
        let r = (taken order (extension_limit - suc k) at (rest_of b end at) x e).size in
        let l = length_rest b end at in
        absurd (omega arith)
    by ended e = refl
    by (refused r) e = refl

module _ (order : Order) (end : ℕ) (b : List ℕ) where
  -- what the next finding makes of the list
  abbrev on_found : ℕ → ℕ → Found → List Span
  on_found k at f = if_found f (λ x. x ∷ whole_from order end b k (at + nat_abs x.size))

  -- after these spans no extension has come whole
  abbrev NoMore : ℕ → ℕ → List Span → Type 0
  NoMore k at xs =
      (x : Span) → found order (extension_limit - (k - length xs)) (place_after at xs) (rest_of b end (place_after at xs)) ≡ extension x → ⊥

  stands : (k at : ℕ) → k ≤ extension_limit → NoMore k at (whole_from order end b k at)
  unfolding whole_from
  stands zero at h = λ x e. let t = taken order extension_limit at (rest_of b end at) x e in omega (arith, t.more)
  stands (suc k) at h = by (λ a. stands k a (omega arith)) (found order (extension_limit - suc k) at (rest_of b end at)) refl
    where
      whole : suc k - 0 ≡ suc k
      whole = omega arith

      by : ((a : ℕ) → NoMore k a (whole_from order end b k a))
          → (f : Found) → found order (extension_limit - suc k) at (rest_of b end at) ≡ f → NoMore (suc k) at (on_found k at f)
      by ih (extension y) d x q =
          let a = at + nat_abs y.size in
          let n = length (whole_from order end b k a) in
          let m : suc k - suc n ≡ k - n = omega arith in
          ih a x (rw m at q)
      by ih ended d x q = end_never x (sym d ∙ rw whole at q)
      by ih (refused r) d x q = refused_no r x (sym d ∙ rw whole at q)

  -- a walker that has passed xs and stands at a place, and the whole walk that it is on
  abbrev walker_at : ℕ → List Span → Walker
  walker_at at xs = record { order = order; end = end; at = at; count = length xs }

  abbrev On : Walked → ℕ → List Span → Type 0
  On all at xs = Passed all b (walker_at at xs) xs

  passes : (all : Walked) (k at : ℕ) (xs : List Span) → k + length xs ≡ extension_limit → On all at xs
      → On all (place_after at (whole_from order end b k at)) (xs ++ whole_from order end b k at)
  unfolding whole_from step_of
  passes all zero at xs h p = rw append-nil p
  passes all (suc k) at xs h p = by (λ a ys g q. passes all k a ys g q) (found order (extension_limit - suc k) at (rest_of b end at)) refl
    where
      by : ((a : ℕ) (ys : List Span) → k + length ys ≡ extension_limit → On all a ys
          → On all (place_after a (whole_from order end b k a)) (ys ++ whole_from order end b k a))
          → (f : Found) → found order (extension_limit - suc k) at (rest_of b end at) ≡ f
          → On all (place_after at (on_found k at f)) (xs ++ on_found k at f)
      by ih (extension x) d =
          let w = walker_at at xs in
          let n : extension_limit - suc k ≡ length xs = omega arith in
          let l : length (xs ++ (x ∷ [])) ≡ length xs + 1 = length-append xs (x ∷ []) in
          let q = pass_turn all b w xs p x (past w x) (ap (step_from w) (rw n at d)) in
          rw (append_snoc xs x (whole_from order end b k (at + nat_abs x.size))) at
          (ih (at + nat_abs x.size) (xs ++ (x ∷ [])) (omega arith) (rw (← l) at q))
      by ih ended d = rw append-nil p
      by ih (refused r) d = rw append-nil p

  -- they stand one after the other
  whole_follows : (k at : ℕ) → Follows at (whole_from order end b k at)
  unfolding whole_from
  whole_follows zero at = none
  whole_follows (suc k) at = by (λ a. whole_follows k a) (found order (extension_limit - suc k) at (rest_of b end at)) refl
    where
      by : ((a : ℕ) → Follows a (whole_from order end b k a)) → (f : Found) → found order (extension_limit - suc k) at (rest_of b end at) ≡ f
          → Follows at (on_found k at f)
      by ih (extension x) d =
          let t = taken order (extension_limit - suc k) at (rest_of b end at) x d in
          one (ap (λ (y : Span). y.start) t.span) t.size.whole (ih (at + nat_abs x.size))
      by ih ended d = none
      by ih (refused r) d = none

  abbrev wholes : List Span
  wholes = whole_from order end b extension_limit first_place

  abbrev place : ℕ
  place = place_after first_place wholes

  -- where the walk stands, what the walk over all extensions comes to
  on_all : On (extensions_in order end b) place wholes
  on_all = passes (extensions_in order end b) extension_limit first_place [] refl (pass_none b (walker_at first_place []) refl refl)

  -- so the spans follow from the marks
  pub standing_spans : spans_by first_place (take (length wholes) (marks_of wholes)) ≡ wholes
  standing_spans = spans_back (whole_follows extension_limit first_place)

  pub standing_listed : step_of b (walker_at place wholes) ≡ Ok None → extensions_in order end b ≡ listed wholes
  standing_listed e = pass_end (extensions_in order end b) b (walker_at place wholes) wholes on_all e

  pub standing_stopped : (r : Refusal) → step_of b (walker_at place wholes) ≡ Err r → extensions_in order end b ≡ stopped r
  standing_stopped r e = pass_halt (extensions_in order end b) b (walker_at place wholes) wholes on_all r e

  pub few_whole : length wholes ≤ extension_limit
  few_whole = omega (arith, on_all.most)

  found_no : (x : Span) → found order (length wholes) place (rest_of b end place) ≡ extension x → ⊥
  found_no x e =
      let n : extension_limit - (extension_limit - length wholes) ≡ length wholes = omega (arith, few_whole) in
      stands extension_limit first_place (omega arith) x (rw n e)

  pub standing_still : (x : Span) (next : Walker) → step_of b (walker_at place wholes) ≡ Ok (Some (x, next)) → ⊥
  unfolding step_of
  standing_still x next e =
      found_no x (stepped (walker_at place wholes) next (found order (length wholes) place (rest_of b end place)) x e).0

-- ---- A piece more

module _ (order : Order) (end : ℕ) (b piece : List ℕ) where
  abbrev c : List ℕ
  c = b ++ piece

  -- those that had come whole are the first of those that have
  whole_more : (k at : ℕ) → whole_from order end c k at
      ≡ whole_from order end b k at
      ++ whole_from order end c (k - length (whole_from order end b k at)) (place_after at (whole_from order end b k at))
  unfolding whole_from
  whole_more zero at = refl
  whole_more (suc k) at = by (λ a. whole_more k a) (found order (extension_limit - suc k) at (rest_of b end at)) refl
    where
      whole : suc k - 0 ≡ suc k
      whole = omega arith

      by : ((a : ℕ) → whole_from order end c k a
          ≡ whole_from order end b k a ++ whole_from order end c (k - length (whole_from order end b k a)) (place_after a (whole_from order end b k a)))
          → (f : Found) → found order (extension_limit - suc k) at (rest_of b end at) ≡ f
          → whole_from order end c (suc k) at
          ≡ on_found order end b k at f
          ++ whole_from order end c (suc k - length (on_found order end b k at f)) (place_after at (on_found order end b k at f))
      by ih (extension x) d =
          let a = at + nat_abs x.size in
          let n = length (whole_from order end b k a) in
          let m : suc k - suc n ≡ k - n = omega arith in
          rw (found_more order end b piece (extension_limit - suc k) at x d, m) (ap (λ xs. x ∷ xs) (ih a))
      by ih ended d = rw whole
      by ih (refused r) d = rw whole

  -- the next extension does not end before the piece begins
  abbrev Ahead : ℕ → ℕ → Type 0
  Ahead n at = (x : Span) → found order n at (rest_of c end at) ≡ extension x → length b ≤ at + nat_abs x.size

  -- the eight bytes that were kept before the piece do not count any more
  module _ (old : List ℕ) where
    one_more : (xs : List Span) (at : ℕ) (x : Span) → length xs < extension_limit → length b ≤ at + nat_abs x.size
        → passed_by end old (length b) piece (standing end c xs at) x (past (walker_at order end c at xs) x)
        ≡ standing end c (xs ++ (x ∷ [])) (at + nat_abs x.size)
    one_more xs at x h a =
        let l : length xs + 1 ≡ length (xs ++ (x ∷ [])) = sym (length-append xs (x ∷ [])) in
        let w = window_is (at + nat_abs x.size) end b old piece (λ q. absurd (omega arith)) in
        λ i. record { at = at + nat_abs x.size; count = l i; coming = w i; marks = marks_more xs x h i }

    goes : (k : ℕ) (xs : List Span) (at : ℕ) → k + length xs ≡ extension_limit → Ahead (length xs) at
        → passing order end old (length b) piece k (standing end c xs at)
        ≡ standing end c (xs ++ whole_from order end c k at) (place_after at (whole_from order end c k at))
    unfolding passing whole_from step_of
    goes zero xs at h a = rw append-nil
    goes (suc k) xs at h a = rw same (by (λ ys p g d. goes k ys p g d) (found order (length xs) at (rest_of c end at)) refl)
      where
        n : extension_limit - suc k ≡ length xs
        n = omega arith

        same : step_by (walker_at order end c at xs) (bytes_at at 8 (take end c)) (length b + length piece) ≡ step_of c (walker_at order end c at xs)
        same = rw (← length-append b piece) (step_same (walker_at order end c at xs) c)

        by : ((ys : List Span) (p : ℕ) → k + length ys ≡ extension_limit → Ahead (length ys) p
            → passing order end old (length b) piece k (standing end c ys p)
            ≡ standing end c (ys ++ whole_from order end c k p) (place_after p (whole_from order end c k p)))
            → (f : Found) → found order (length xs) at (rest_of c end at) ≡ f
            → if_extension (step_from (walker_at order end c at xs) f) (standing end c xs at)
            (λ x next. passing order end old (length b) piece k (passed_by end old (length b) piece (standing end c xs at) x next))
            ≡ standing end c (xs ++ on_found order end c k at (found order (extension_limit - suc k) at (rest_of c end at)))
            (place_after at (on_found order end c k at (found order (extension_limit - suc k) at (rest_of c end at))))
        by ih (extension x) d =
            let p = at + nat_abs x.size in
            let l : length (xs ++ (x ∷ [])) ≡ length xs + 1 = length-append xs (x ∷ []) in
            rw (n, d, one_more xs at x (taken order (length xs) at (rest_of c end at) x d).more (a x d), ← append_snoc xs x (whole_from order end c k p))
            (ih (xs ++ (x ∷ [])) p (omega arith) (λ y e. omega (arith, a x d)))
        by ih ended d = rw (n, d, append-nil)
        by ih (refused r) d = rw (n, d, append-nil)

  abbrev before : List Span
  before = whole_from order end b extension_limit first_place

  abbrev at_place : ℕ
  at_place = place_after first_place before

  ahead : Ahead (length before) at_place
  ahead x e = by (ltb (length b) (at_place + nat_abs x.size)) refl
    where
      by : (t : Bool) → ltb (length b) (at_place + nat_abs x.size) ≡ t → length b ≤ at_place + nat_abs x.size
      by true q = let z = ltb-true (length b) (at_place + nat_abs x.size) q in omega arith
      by false q =
          let z = ltb-false (length b) (at_place + nat_abs x.size) q in
          absurd (found_no order end b x (found_less order end b piece (length before) at_place x e z))

  -- A piece takes the walk over b to the walk over the longer bytes. The eight bytes count only where they have begun to come.
  walked_on_lem : (m : List ℕ) → (at_place < length b → m ≡ bytes_at at_place 8 (take end b))
      → walked_on order end (record { at = at_place; count = length before; coming = m; marks = marks_of before }) (length b) piece
      ≡ walk_of order end c
  unfolding walked_on walk_of
  walked_on_lem m known =
      let j = extension_limit - length before in
      let ys = whole_from order end c j at_place in
      ap
      (λ l. passing order end m (length b) piece j (record { at = at_place; count = length before; coming = l; marks = marks_of before }))
      (window_is at_place end b m piece known)
      ∙ goes m j before at_place (omega (arith, few_whole order end b)) ahead
      ∙ ap (standing end c (before ++ ys)) (sym (place-append first_place before ys))
      ∙ ap (λ zs. standing end c zs (place_after first_place zs)) (sym (whole_more extension_limit first_place))

-- the walk over bytes that end at 352 or before has come nowhere
abbrev pub nowhere : ℕ → List ℕ → Walk
nowhere end b = record { at = first_place; count = 0; coming = bytes_at first_place 8 (take end b); marks = marks_of [] }

pub walk_nowhere : (order : Order) (end : ℕ) (b : List ℕ) → length b ≤ first_place → walk_of order end b ≡ nowhere end b
unfolding walk_of
walk_nowhere order end b h = rw (none_whole order end b extension_limit first_place h)

module _ (order : Order) (end : ℕ) (b piece : List ℕ) where
  -- it goes on by any order and end
  pub walked_first : (e : ℕ) → length b ≤ first_place → walked_on order end (nowhere e b) (length b) piece ≡ walk_of order end (b ++ piece)
  walked_first e h =
      let m = bytes_at first_place 8 (take e b) in
      rw (none_whole order end b extension_limit first_place h) at (walked_on_lem order end b piece m)
      (λ l. absurd (omega arith))

  pub walked_later : walked_on order end (walk_of order end b) (length b) piece ≡ walk_of order end (b ++ piece)
  unfolding walk_of
  walked_later = walked_on_lem order end b piece (bytes_at (place order end b) 8 (take end b)) (λ _. refl)

-- ---- A piece that the walk does not see

-- only the region's bytes count
whole_same : (order : Order) (end : ℕ) (b c : List ℕ) → take end b ≡ take end c → (k at : ℕ) → whole_from order end b k at ≡ whole_from order end c k at
unfolding whole_from
whole_same order end b c e zero at = refl
whole_same order end b c e (suc k) at =
    λ i. if_found (found order (extension_limit - suc k) at (drop at (e i)))
    (λ x. x ∷ whole_same order end b c e k (at + nat_abs x.size) i)

module _ (order : Order) (end : ℕ) (b piece : List ℕ) where
  -- behind both there are zeros
  nothing : (p : ℕ) → length (b ++ piece) ≤ p → (i : ℕ) → get_or (take end b) (p + i) 0 ≡ get_or (take end (b ++ piece)) (p + i) 0
  nothing p h i =
      get_or-eq_default (take end b) 0 (simp length-take (omega (arith, length-append b piece)))
      ∙ sym (get_or-eq_default (take end (b ++ piece)) 0 (simp length-take (omega arith)))

  pub walk_behind : end ≤ length b → walk_of order end b ≡ walk_of order end (b ++ piece)
  unfolding walk_of
  walk_behind h =
      let e : take end b ≡ take end (b ++ piece) = sym (take-append-le end b piece h) in
      let w = whole_same order end b (b ++ piece) e extension_limit first_place in
      λ i.
      record {
        at = place_after first_place (w i);
        count = length (w i);
        coming = bytes_at (place_after first_place (w i)) 8 (e i);
        marks = marks_of (w i);
      }

  pub walk_before : length (b ++ piece) ≤ (walk_of order end b).at → walk_of order end b ≡ walk_of order end (b ++ piece)
  unfolding walk_of
  walk_before h =
      let xs = whole_from order end b extension_limit first_place in
      let p = place_after first_place xs in
      let m = tabulate_same (λ i. get_or (take end b) (p + i) 0) (λ i. get_or (take end (b ++ piece)) (p + i) 0) 8 (λ i below. nothing p h i) in
      (λ i. record { at = p; count = length xs; coming = m i; marks = marks_of xs })
      ∙ ap (λ zs. standing end (b ++ piece) zs (place_after first_place zs))
      (sym
      (whole_more order end b piece extension_limit first_place
      ∙ ap (λ ys. xs ++ ys) (none_whole order end (b ++ piece) (extension_limit - length xs) p h)
      ∙ append-nil xs))

-- An exchange in a list of extensions, and what it is in their joined bytes.
use Prim.Native.Nat.{ℕ, zero, suc, ◌+◌, ◌-◌, ◌%◌, ◌≤◌, ◌<◌}
use mathlib.Core.Path.{◌≡◌, refl, sym, ap, ◌∙◌}
use mathlib.Core.List.{List, [], ◌∷◌, ◌++◌, append_assoc, append-nil}
use native.Mathlib.Numerals.{add-one}
use native.Mathlib.Omega.{arith}
use lib.ListN.{length, get_or, take, drop, length-append, length-take, length-drop, take-append-drop}
use lib.Seq.{take_at, drop_at, take-take, take-suc}
use Rattle.field.specs.declared.Order.{Order}
use Rattle.field.specs.Numbers.{joined}
use Rattle.extension.specs.Pieces.{AllComplete, none, one}
use Rattle.edit_plan.specs.Fresh.{exchange}

joined-append : (xs ys : List (List ℕ)) → joined (xs ++ ys) ≡ joined xs ++ joined ys
joined-append [] ys = refl
joined-append (x ∷ xs) ys = rw (joined-append xs ys) (sym (append_assoc x (joined xs) (joined ys)))

joined_split : (n : ℕ) (xs : List (List ℕ)) → joined xs ≡ joined (take n xs) ++ joined (drop n xs)
joined_split n xs = ap joined (sym (take-append-drop n xs)) ∙ joined-append (take n xs) (drop n xs)

complete_append : {order : Order} {xs ys : List (List ℕ)} → AllComplete order xs → AllComplete order ys → AllComplete order (xs ++ ys)
complete_append none v = v
complete_append (one w u) v = one w (complete_append u v)

complete_take : {order : Order} (n : ℕ) {xs : List (List ℕ)} → AllComplete order xs → AllComplete order (take n xs)
complete_take zero u = none
complete_take (suc n) none = none
complete_take (suc n) (one w u) = one w (complete_take n u)

complete_drop : {order : Order} (n : ℕ) {xs : List (List ℕ)} → AllComplete order xs → AllComplete order (drop n xs)
complete_drop zero u = u
complete_drop (suc n) none = none
complete_drop (suc n) (one w u) = complete_drop n u

-- each extension has at least 16 bytes, and a list of none has no bytes
pub joined_some : {order : Order} {xs : List (List ℕ)} → AllComplete order xs → 0 < length xs → 16 ≤ length (joined xs)
joined_some none h = absurd (omega arith)
joined_some (one {x} {xs} w u) h = rw length-append (omega arith)

-- and whole multiples of 16 of them
pub joined_units : {order : Order} {xs : List (List ℕ)} → AllComplete order xs → length (joined xs) % 16 ≡ 0
joined_units none = refl
joined_units (one {x} {xs} w u) = let h = joined_units u in rw length-append (omega arith)

-- the bytes of the extensions before a place in the list are some of all the bytes
pub before_all : (n : ℕ) (xs : List (List ℕ)) → length (joined (take n xs)) ≤ length (joined xs)
before_all n xs = omega (arith, ap length (joined_split n xs), length-append (joined (take n xs)) (joined (drop n xs)))

pub before_later : (i j : ℕ) (xs : List (List ℕ)) → i ≤ j → length (joined (take i xs)) ≤ length (joined (take j xs))
before_later i j xs h = rw (take-take i j xs h) at (before_all i (take j xs))

pub before_next : (xs : List (List ℕ)) (k : ℕ) → k < length xs
    → length (joined (take (k + 1) xs)) ≡ length (joined (take k xs)) + length (get_or xs k [])
before_next xs k h = rw (add-one, take-suc xs k [] h, joined-append, append-nil, length-append)

module _ (xs ys : List (List ℕ)) (i j : ℕ) where
  pub complete_exchange : {order : Order} → AllComplete order xs → AllComplete order ys → AllComplete order (exchange xs i j ys)
  unfolding exchange
  complete_exchange u v = complete_append (complete_take i u) (complete_append v (complete_drop j u))

  pub length-exchange : i ≤ j → j ≤ length xs → length (exchange xs i j ys) ≡ length xs - (j - i) + length ys
  unfolding exchange
  length-exchange h k = simp (length-append, length-take, length-drop) (omega arith)

  -- the bytes between the two places give way to those of ys
  pub joined_exchange : (a b : ℕ) → length (joined (take i xs)) ≡ a → length (joined (take j xs)) ≡ b
      → joined (exchange xs i j ys) ≡ take a (joined xs) ++ (joined ys ++ drop b (joined xs))
  unfolding exchange
  joined_exchange a b ea eb =
      let t : take a (joined xs) ≡ joined (take i xs) =
      ap (take a) (joined_split i xs) ∙ take_at (joined (take i xs)) (joined (drop i xs)) a ea in
      let d : drop b (joined xs) ≡ joined (drop j xs) =
      ap (drop b) (joined_split j xs) ∙ drop_at (joined (take j xs)) (joined (drop j xs)) b eb in
      rw (t, d, joined-append, joined-append)

  pub bytes_exchange : i ≤ j
      → length (joined (exchange xs i j ys))
      ≡ length (joined xs) - (length (joined (take j xs)) - length (joined (take i xs))) + length (joined ys)
  bytes_exchange h =
      let a = before_later i j xs h in
      let b = before_all j xs in
      rw (joined_exchange (length (joined (take i xs))) (length (joined (take j xs))) refl refl)
      (simp (length-append, length-take, length-drop) (omega arith))

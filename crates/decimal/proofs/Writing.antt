-- What the loop of `put_number` has done at each turn: the digits written stand behind those still to come.
use mathlib.Core.Path.{◌≡◌, sym, ap, ◌∙◌}
use mathlib.Core.List.{List, [], ◌∷◌, ◌++◌, append_assoc, append-nil}
use Prim.Native.Nat.{ℕ, ◌+◌, ◌/◌, ◌%◌, ◌≤◌, ◌<◌}
use native.Mathlib.Omega.{arith}
use lib.ListN.{length, set, length-set}
use Rattle.buffer.specs.Put.{put}
use Rattle.buffer.proofs.Laws.{put_nil, put_left}
use Rattle.buffer.proofs.Moves.{set-put}
use Rattle.decimal.specs.Decimal.{decimal}
use Rattle.decimal.proofs.Decimals.{decimal_one, decimal_next, decimal_longer, decimal_some}

-- a byte stored right before what was written
store_before : (l : List ℕ) (at : ℕ) (e b : List ℕ) (j v : ℕ) → b ≡ put l at e → at ≡ j + 1 → at ≤ length l → length b ≡ length l
    → set b j v ≡ put l j (v ∷ e)
store_before l at e b j v eb ea hl n = set-put b j v (omega arith) ∙ put_left l at e (v ∷ []) b j eb ea hl

-- the buffer l has become b: from i on it holds the digits of n behind those of `rest`, which are to go from `at` on
pub record Written (l : List ℕ) (at n : ℕ) (b : List ℕ) (i rest : ℕ) : Type 0 where
  pub done : List ℕ
  pub joined : decimal n ≡ decimal rest ++ done
  pub place : i ≡ at + length (decimal rest)
  pub room : i ≤ length l
  pub bytes : b ≡ put l i done
  pub same : length b ≡ length l

pub written_none : (l : List ℕ) (at n i : ℕ) → i ≡ at + length (decimal n) → i ≤ length l → Written l at n l i n
written_none l at n i e h =
    record { done = []; joined = sym (append-nil (decimal n)); place = e; room = h; bytes = sym (put_nil l i); same = omega arith }

module _ (l : List ℕ) (at n : ℕ) (b : List ℕ) (i rest : ℕ) (w : Written l at n b i rest) where
  -- there is a digit to come
  pub written_more : at < i
  written_more = omega (arith, w.place, decimal_some rest)

  pub written_next : (j : ℕ) → 10 ≤ rest → i ≡ j + 1 → Written l at n (set b j (48 + rest % 10)) j (rest / 10)
  written_next j h e =
      let d = decimal_longer rest h in
      record {
        done = (48 + rest % 10) ∷ w.done;
        joined =
            w.joined ∙ ap (λ (ds : List ℕ). ds ++ w.done) (decimal_next rest h)
            ∙ append_assoc (decimal (rest / 10)) ((48 + rest % 10) ∷ []) w.done;
        place = omega (arith, w.place);
        room = omega (arith, w.room);
        bytes = store_before l i w.done b j (48 + rest % 10) w.bytes e w.room w.same;
        same = length-set b j (48 + rest % 10) ∙ w.same;
      }

  pub written_whole : rest < 10 → set b at (48 + rest) ≡ put l at (decimal n)
  written_whole h =
      let one = decimal_one rest h in
      let k : length (decimal rest) ≡ 1 = ap length one in
      store_before l i w.done b at (48 + rest) w.bytes (omega (arith, w.place)) w.room w.same
      ∙ ap (put l at) (sym (w.joined ∙ ap (λ (ds : List ℕ). ds ++ w.done) one))

-- the byte behind the number, which was stored first
pub written_after : (l : List ℕ) (at n end after : ℕ) → end ≡ at + length (decimal n) → end < length l
    → put (set l end after) at (decimal n) ≡ put l at (decimal n ++ (after ∷ []))
written_after l at n end after e h = put_left l end (after ∷ []) (decimal n) (set l end after) at (set-put l end after h) e (omega arith)

-- The stores of an edit: the four that make the stored extension E, the extender told by where the region ends, and the voxel offset.
use Prim.Native.Nat.{ℕ, ◌+◌, ◌-◌, ◌≤◌, ◌<◌}
use mathlib.Core.Path.{◌≡◌, refl, sym, ap, ◌∙◌}
use mathlib.Core.Bool.{Bool, true, false, cond}
use mathlib.Core.List.{List, [], ◌∷◌, ◌++◌, append_assoc}
use native.Mathlib.Omega.{arith}
use borrow.Author.Tests.{lt-ltb, le-ltb, ltb-true, ltb-false}
use lib.Dec.{ltb}
use lib.IntN.{ℤ}
use lib.ListN.{length, get_or, set, take, drop, replicate, length-append, length-take, get_or-eq_default}
use lib.Seq.{sets, take_at, drop_at, take-take, get_or-take}
use mir.Syntax.{w32}
use mir.Val.{of_z}
use Rattle.field.specs.declared.Order.{Order}
use Rattle.field.specs.Numbers.{bytes_of, joined}
use Rattle.field.proofs.Stores.{length-bytes_of}
use Rattle.field.proofs.Tabulate.{bytes_at_part}
use Rattle.offset.specs.Offset.{offset_bits}
use Rattle.extension.specs.Walk.{first_place}
use Rattle.extension.specs.Pieces.{AllComplete, none, one}
use Rattle.header.specs.declared.Kind.{Kind}
use Rattle.header.specs.declared.Kind.TheVariants.{Single, Pair}
use Rattle.layout.specs.File.{reserved_of}
use Rattle.buffer.specs.Put.{put}
use Rattle.buffer.specs.Settled.{settled}
use Rattle.buffer.proofs.Laws.{sets-put, put_same, length-put, drop-put, put_right, put_left, put-append}
use Rattle.buffer.proofs.Settled.{settled_put}
use Rattle.change.specs.Change.{size_for}
use Rattle.edit_plan.specs.Fresh.{stored, first_byte_for, extender_for, end_for, head_for}
use Rattle.edit_plan.proofs.Exchanging.{joined_some}
use Rattle.edit_store.specs.Stores.{first_byte_at, extender_bytes}

-- the four stores that make E
pub stored_put : (l : List ℕ) (at : ℕ) (order : Order) (code : ℤ) (p b₁ b₂ b₃ b₄ : List ℕ) → at + size_for (length p) ≤ length l
    → length b₁ ≡ length l → b₁ ≡ sets l at (bytes_of order 4 (size_for (length p)))
    → b₂ ≡ sets b₁ (at + 4) (bytes_of order 4 (of_z w32 code)) → b₃ ≡ put b₂ (at + 8) p
    → b₄ ≡ put b₃ (at + 8 + length p) (replicate (size_for (length p) - (length p + 8)) 0) → b₄ ≡ put l at (stored order code p)
unfolding stored
stored_put l at order code p b₁ b₂ b₃ b₄ h k e₁ e₂ e₃ e₄ =
    let s = bytes_of order 4 (size_for (length p)) in
    let c = bytes_of order 4 (of_z w32 code) in
    let ls = length-bytes_of order 4 (size_for (length p)) in
    let lc = length-bytes_of order 4 (of_z w32 code) in
    let z : List ℕ = replicate (size_for (length p) - (length p + 8)) 0 in
    let f₁ : b₁ ≡ put l at s = e₁ ∙ sets-put l at s (omega arith) in
    let f₂ : b₂ ≡ put l at (s ++ c) = e₂ ∙ sets-put b₁ (at + 4) c (omega arith) ∙ put_right l at s c b₁ (at + 4) f₁ (omega arith) (omega arith) in
    let f₃ : b₃ ≡ put l at ((s ++ c) ++ p) = e₃ ∙ put_right l at (s ++ c) p b₂ (at + 8) f₂ (simp length-append (omega arith)) (omega arith) in
    e₄ ∙ put_right l at ((s ++ c) ++ p) z b₃ (at + 8 + length p) f₃ (simp length-append (omega arith)) (omega arith) ∙ simp append_assoc

-- the extender's first byte, with the three that stand behind it,
pub first_kept : (l : List ℕ) (b : ℕ) → first_place ≤ length l → set l 348 b ≡ put l 348 (b ∷ reserved_of l)
first_kept l b h =
    let m = put l 348 (b ∷ []) in
    let n : length m ≡ length l = length-put l 348 (b ∷ []) (omega arith) in
    let d : drop 349 m ≡ drop 349 l = drop-put l 348 (b ∷ []) 349 (omega arith) (omega arith) in
    let r : reserved_of l ≡ take 3 (drop 349 m) = bytes_at_part 349 3 l h ∙ ap (take 3) (sym d) in
    sets-put l 348 (b ∷ []) (omega arith)
    ∙ sym (put_same m 349 3 (omega arith))
    ∙ put_right l 348 (b ∷ []) (take 3 (drop 349 m)) m 349 refl refl (omega arith)
    ∙ ap (λ (e : List ℕ). put l 348 (b ∷ e)) (sym r)

-- and with three zeros
pub first_new : (l m : List ℕ) (b : ℕ) → first_place ≤ length l → m ≡ put l 349 (replicate 3 0) → set m 348 b ≡ put l 348 (b ∷ 0 ∷ 0 ∷ 0 ∷ [])
first_new l m b h e =
    let n : length m ≡ length l = ap length e ∙ length-put l 349 (replicate 3 0) (omega arith) in
    sets-put m 348 (b ∷ []) (omega arith) ∙ put_left l 349 (replicate 3 0) (b ∷ []) m 348 e refl (omega arith)

-- the first byte of a list, told by where its region ends
first_is : {order : Order} {xs : List (List ℕ)} → AllComplete order xs → first_byte_at (end_for xs) ≡ first_byte_for xs
first_is none = refl
first_is (one {x} {xs} w ws) =
    let s : 16 ≤ length (joined (x ∷ xs)) = joined_some (one w ws) (omega arith) in
    rw (lt-ltb first_place (end_for (x ∷ xs)) (omega arith))

-- the reserved bytes are among the first 352,
reserved_same : (l m : List ℕ) → take first_place l ≡ take first_place m → reserved_of l ≡ reserved_of m
reserved_same l m e = λ k. at 349 refl k ∷ at 350 refl k ∷ at 351 refl k ∷ []
  where
    at : (i : ℕ) → ltb i first_place ≡ true → get_or l i 0 ≡ get_or m i 0
    at i h =
        let n = ltb-true i first_place h in
        sym (get_or-take first_place l i 0 n) ∙ ap (λ (t : List ℕ). get_or t i 0) e ∙ get_or-take first_place m i 0 n

-- and a file that ends at 348 has none
reserved_is : (l b : List ℕ) (len : ℕ) → take first_place b ≡ take first_place l → (348 < len → first_place ≤ len)
    → cond (ltb len first_place) (0 ∷ 0 ∷ 0 ∷ []) (reserved_of b) ≡ reserved_of (take len l)
reserved_is l b len e long = by (ltb 348 len) refl
  where
    past : len ≤ 348 → (i : ℕ) → len ≤ i → get_or (take len l) i 0 ≡ 0
    past h i k = get_or-eq_default (take len l) 0 (rw (length-take len l) (omega arith))

    by : (t : Bool) → ltb 348 len ≡ t → cond (ltb len first_place) (0 ∷ 0 ∷ 0 ∷ []) (reserved_of b) ≡ reserved_of (take len l)
    by true h =
        let k = long (ltb-true 348 len h) in
        rw (le-ltb len first_place k) (reserved_same b (take len l) (e ∙ sym (take-take first_place len l k)))
    by false h =
        let k = ltb-false 348 len h in
        rw (lt-ltb len first_place (omega arith), past k 349 (omega arith), past k 350 (omega arith), past k 351 (omega arith))

-- so the bytes that are stored are the fresh file's extender
pub extender_is : (l b : List ℕ) (len : ℕ) {order : Order} {xs : List (List ℕ)} → AllComplete order xs → take first_place b ≡ take first_place l
    → (348 < len → first_place ≤ len) → extender_bytes len (end_for xs) b ≡ extender_for (take len l) xs
extender_is l b len ws e long = λ i. first_is ws i ∷ reserved_is l b len e long i

-- the extender, written between the header and the list
pub extended : (h x e r : List ℕ) → length h ≡ 348 → length x ≡ 4 → length e ≡ 4 → put ((h ++ x) ++ r) 348 e ≡ h ++ (e ++ r)
unfolding put
extended h x e r lh lx le =
    let n : 348 + length e ≡ 352 = omega arith in
    let k : length (h ++ x) ≡ 352 = length-append h x ∙ omega arith in
    rw (n, drop_at (h ++ x) r 352 k, append_assoc, take_at h (x ++ r) 348 lh)

-- the voxel offset, written into a header with more behind it, and into a settled buffer
pub headed : (kind : Kind) (order : Order) (end : ℕ) (h r : List ℕ) → 112 ≤ length h
    → head_for kind order end (h ++ r) ≡ head_for kind order end h ++ r
headed Single order end h r l =
    let b = length-bytes_of order 4 (offset_bits end) in
    put-append h 108 (bytes_of order 4 (offset_bits end)) r (omega arith)
headed Pair order end h r l = refl

pub headed_settled : (kind : Kind) (order : Order) (end : ℕ) (l : List ℕ) (len : ℕ) (g : List ℕ) → 112 ≤ length g
    → head_for kind order end (settled l len g) ≡ settled l len (head_for kind order end g)
headed_settled Single order end l len g h =
    let b = length-bytes_of order 4 (offset_bits end) in
    settled_put l len g 108 (bytes_of order 4 (offset_bits end)) (omega arith)
headed_settled Pair order end l len g h = refl

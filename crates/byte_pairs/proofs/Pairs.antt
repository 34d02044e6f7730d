-- Pairs that are loaded, turned round and stored, as bytes.
use Prim.Native.Nat.{ℕ, ◌+◌}
use mathlib.Core.Path.{◌≡◌, refl, ap}
use mathlib.Core.List.{List, ◌++◌, append_assoc}
use lib.ListN.{length, length-append}
use lib.Seq.{sets}
use Rattle.field.proofs.Stores.{sets-next}
use Rattle.byte_pairs.specs.Pairs.{pair_bytes}

pub length-pair_bytes : (n : ℕ) → length (pair_bytes n) ≡ 2
unfolding pair_bytes
length-pair_bytes n = refl

-- four pairs, stored one after the other
pub four_stored : (at a b c d : ℕ) (s s₁ s₂ s₃ s₄ : List ℕ) → s₁ ≡ sets s at (pair_bytes a) → s₂ ≡ sets s₁ (at + 2) (pair_bytes b)
    → s₃ ≡ sets s₂ (at + 4) (pair_bytes c) → s₄ ≡ sets s₃ (at + 6) (pair_bytes d)
    → s₄ ≡ sets s at ((pair_bytes a ++ pair_bytes b) ++ (pair_bytes c ++ pair_bytes d))
four_stored at a b c d s s₁ s₂ s₃ s₄ p q r t =
    let A = pair_bytes a in
    let B = pair_bytes b in
    let C = pair_bytes c in
    let D = pair_bytes d in
    let two : length (A ++ B) ≡ 4 = simp (length-append, length-pair_bytes) in
    let three : length ((A ++ B) ++ C) ≡ 6 = simp (length-append, length-pair_bytes) in
    rw (t, r, q, p, sets-next A B s at 2 (length-pair_bytes a), sets-next (A ++ B) C s at 4 two, sets-next ((A ++ B) ++ C) D s at 6 three)
    (ap (sets s at) (append_assoc (A ++ B) C D))

-- their bytes
abbrev pub four : ℕ → ℕ → ℕ → ℕ → List ℕ
four a b c d = (pair_bytes a ++ pair_bytes b) ++ (pair_bytes c ++ pair_bytes d)

pub length_four : (a b c d : ℕ) → length (four a b c d) ≡ 8
length_four a b c d = simp (length-append, length-pair_bytes)

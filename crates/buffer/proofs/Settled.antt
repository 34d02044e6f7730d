-- Laws of `settled` (specs/Settled.antt), for the edits: what make_room and a write of e leave is the settled buffer.
use mathlib.Core.Path.{◌≡◌, refl}
use mathlib.Core.List.{List, ◌++◌, append_assoc}
use Prim.Native.Nat.{ℕ, ◌+◌, ◌-◌, ◌≤◌, max}
use native.Mathlib.Omega.{arith}
use lib.ListN.{length, take, drop, replicate, length-append, length-take, length-drop, length-replicate}
use lib.Seq.{take_at, take-take}
use Rattle.buffer.specs.Put.{put}
use Rattle.buffer.specs.Settled.{settled}
use Rattle.number.proofs.Lists.{drop-take}
use Rattle.buffer.proofs.Laws.{length-put, put-append}

-- f with e in place of the `old` bytes from `at`: "A single file's bytes from vox_offset to its end slide along, trailing ones included."
unfoldable pub replaced : List ℕ → ℕ → ℕ → List ℕ → List ℕ
replaced f at old e = take at f ++ (e ++ drop (at + old) f)

-- the file after an edit is the buffer up to the file's new length
pub take-settled : (l : List ℕ) (len : ℕ) (g : List ℕ) → take (length g) (settled l len g) ≡ g
unfolding settled
take-settled l len g = take_at g (replicate (len - length g) 0 ++ drop (max len (length g)) l) (length g) refl

-- a write within the fresh file
pub settled_put : (l : List ℕ) (len : ℕ) (g : List ℕ) (at : ℕ) (e : List ℕ) → at + length e ≤ length g
    → put (settled l len g) at e ≡ settled l len (put g at e)
unfolding settled
settled_put l len g at e h =
    let n : length (put g at e) ≡ length g = length-put g at e h in
    rw n (put-append g at e (replicate (len - length g) 0 ++ drop (max len (length g)) l) h)

-- what follows the `old` bytes moved along behind e, and zeros where that frees bytes
pub settle : (l : List ℕ) (len at old : ℕ) (e : List ℕ) → at + old ≤ len → len ≤ length l
    → put l at (e ++ (take (len - (at + old)) (drop (at + old) l) ++ replicate (old - length e) 0)) ≡ settled l len (replaced (take len l) at old e)
unfolding put settled replaced
settle l len at old e h hl =
    let tail : ℕ = len - (at + old) in
    let moved : List ℕ = take tail (drop (at + old) l) in
    let lm : length moved ≡ tail = simp (length-take, length-drop) (omega arith) in
    let lf : length (take at l ++ (e ++ moved)) ≡ at + length e + tail = simp (length-append, lm, length-take) (omega arith) in
    let le : length (e ++ (moved ++ replicate (old - length e) 0)) ≡ length e + (tail + (old - length e)) = simp (length-append, lm, length-replicate) in
    let z : len - (at + length e + tail) ≡ old - length e = omega arith in
    let m : max len (at + length e + tail) ≡ at + (length e + (tail + (old - length e))) = omega arith in
    rw (take-take at len l (omega arith), drop-take (at + old) len l, lf, le, z, m) (simp append_assoc)

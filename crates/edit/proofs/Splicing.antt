-- The splice: what the moves and stores of an edit leave is the settled buffer with the fresh file.
use Rattle.std.specs.Prelude.{Ok}
use Prim.Native.Nat.{ℕ, ◌+◌, ◌-◌, ◌≤◌, ◌<◌, max}
use mathlib.Core.Path.{◌≡◌, refl, sym, ap, ◌∙◌}
use mathlib.Core.List.{List, ◌++◌, append_assoc}
use native.Mathlib.Omega.{arith}
use lib.IntN.{ℤ}
use lib.ListN.{length, take, drop, replicate, length-append, length-drop, take-append-drop}
use lib.Seq.{length-take-le, take_at, take-take, take-add, take-append-le, drop-append-le, take-append-add, drop-append-add}
use mir.Syntax.{w32}
use mir.Val.{SFits}
use Rattle.field.specs.Numbers.{joined}
use Rattle.number.proofs.Lists.{drop-take}
use Rattle.offset.specs.Offset.{offset_limit}
use Rattle.extension.specs.Walk.{first_place}
use Rattle.layout.specs.File.{order_of, kind_of}
use Rattle.reader.proofs.File.{region_in_lem, accepted_file}
use Rattle.buffer.specs.Put.{put}
use Rattle.buffer.specs.Settled.{settled}
use Rattle.buffer.proofs.Laws.{length-put, put_left}
use Rattle.buffer.proofs.Settled.{replaced, settled_put, settle}
use Rattle.change.specs.declared.Change.{Change}
use Rattle.edit_plan.specs.declared.Plan.{Plan}
use Rattle.edit_plan.specs.Fresh.{extension_list, tail_of, exchange, out_from, out_to, brought_in, edited_list, extender_for, end_for, head_for}
use Rattle.edit_plan.specs.Fresh.{fresh_file, fresh_of}
use Rattle.edit_plan.specs.Planned.{bytes_before, bytes_out, plan_of, planned_of}
use Rattle.edit_plan.proofs.Exchanging.{before_all, before_later, joined_exchange}
use Rattle.edit_plan.proofs.Planning.{count_of, region_to, length_extender, length_new, length-fresh, places, out_inside, end_new, whole_new}
use Rattle.edit_plan.proofs.Deciding.{Allowed, allowed, planned, edited_complete}
use Rattle.edit_store.specs.Stores.{extender_bytes}
use Rattle.edit_store.proofs.Storing.{extender_is, extended, headed, headed_settled}

-- ---- the fresh file's bytes

-- extensions exchanged in a file of a front h, extensions and a tail t
module _ (h : List ℕ) (xs ys : List (List ℕ)) (t : List ℕ) (i j : ℕ) (front : length h ≡ first_place) (le : i ≤ j) where
  exchanged : (at old : ℕ) → at ≡ first_place + length (joined (take i xs)) → old ≡ length (joined (take j xs)) - length (joined (take i xs))
      → replaced (h ++ (joined xs ++ t)) at old (joined ys) ≡ h ++ (joined (exchange xs i j ys) ++ t)
  unfolding replaced
  exchanged at old ea eo =
      let a = length (joined (take i xs)) in
      let b = length (joined (take j xs)) in
      let r = joined xs ++ t in
      let lab = before_later i j xs le in
      let lb = before_all j xs in
      let pa : at ≡ length h + a = omega arith in
      let pb : at + old ≡ length h + b = omega arith in
      let ta : take at (h ++ r) ≡ h ++ take a (joined xs) = rw (pa, take-append-add h r a, take-append-le a (joined xs) t (omega arith)) in
      let db : drop (at + old) (h ++ r) ≡ drop b (joined xs) ++ t = rw (pb, drop-append-add h r b, drop-append-le b (joined xs) t lb) in
      rw (ta, db, joined_exchange xs ys i j a b refl refl) (simp append_assoc)

-- a file shorter than the fresh one is settled over in the same way whatever its length
settled_longer : (l : List ℕ) (len : ℕ) (g : List ℕ) → first_place ≤ length g → settled l (max len first_place) g ≡ settled l len g
unfolding settled
settled_longer l len g h =
    let z : max len first_place - length g ≡ len - length g = omega arith in
    let m : max (max len first_place) (length g) ≡ max len (length g) = omega arith in
    rw (z, m)

-- ---- the edit

-- a plan's numbers, one by one
pub record Carries (f : List ℕ) (change : Change) (code : ℤ) (p : List ℕ) (x : Plan) : Type 0 where
  pub order_is : x.order ≡ order_of f
  pub kind_is : x.kind ≡ kind_of f
  pub at_is : x.at ≡ first_place + bytes_before f (out_from change (count_of f))
  pub old_is : x.old ≡ bytes_out f change
  pub new_is : x.new ≡ length (joined (brought_in (order_of f) change code p))
  pub end_is : x.end ≡ end_for (edited_list f change code p)

pub carries : (f : List ℕ) (change : Change) (code : ℤ) (p : List ℕ) (x : Plan) → plan_of f change code p ≡ x → Carries f change code p x
unfolding plan_of
carries f change code p x e =
    let q = sym e in
    record {
      order_is = ap (λ (y : Plan). y.order) q;
      kind_is = ap (λ (y : Plan). y.kind) q;
      at_is = ap (λ (y : Plan). y.at) q;
      old_is = ap (λ (y : Plan). y.old) q;
      new_is = ap (λ (y : Plan). y.new) q;
      end_is = ap (λ (y : Plan). y.end) q;
    }

-- that its moves stay inside the buffer l, and how long the fresh file is
pub record Sizes (l : List ℕ) (len : ℕ) (change : Change) (code : ℤ) (p : List ℕ) (x : Plan) : Type 0 where
  pub out : x.at + x.old ≤ max len first_place
  pub inside : max len first_place ≤ length l
  pub room : max len first_place + x.new ≤ length l + x.old
  pub new_inside : x.at + x.new ≤ x.end
  pub end_limit : x.end ≤ offset_limit
  pub long : first_place ≤ length (fresh_of (take len l) change code p)
  pub result : length (fresh_of (take len l) change code p) ≡ max len first_place - x.old + x.new

-- the sums behind them: the region ends at E, the file at W, the buffer at L, and J and T are the bytes of the extensions and the tail
record Sums (at old new end W fresh L : ℕ) : Type 0 where
  out : at + old ≤ W
  inside : W ≤ L
  room : W + new ≤ L + old
  new_inside : at + new ≤ end
  long : first_place ≤ fresh

sums : (at old new end E W J T fresh L len : ℕ) → first_place ≤ at → at + old ≤ E → E ≡ first_place + J → W ≡ first_place + J + T → end ≡ E - old + new
    → fresh ≡ W - old + new → fresh ≡ end + T → fresh ≤ L → len ≤ L → W ≤ len + (first_place - len) → Sums at old new end W fresh L
sums at old new end E W J T fresh L len h o b c e w g r hl m =
    let f : first_place ≤ fresh = omega arith in
    let i : W ≤ L = omega arith in
    record { out = omega arith; inside = i; room = omega arith; new_inside = omega arith; long = f }

module _ (l : List ℕ) (len : ℕ) (change : Change) (code : ℤ) (p : List ℕ) (x : Plan) (hl : len ≤ length l)
    (a : Allowed (take len l) (length l) change code p) (v : Carries (take len l) change code p x) where
  abbrev f : List ℕ
  f = take len l

  abbrev xs : List (List ℕ)
  xs = extension_list f

  abbrev ys : List (List ℕ)
  ys = brought_in (order_of f) change code p

  abbrev i : ℕ
  i = out_from change (length xs)

  abbrev j : ℕ
  j = out_to change (length xs)

  file_length : length f ≡ len
  file_length = length-take-le len l hl

  pub sizes : Sizes l len change code p x
  sizes =
      let k = a.known in
      let lf = file_length in
      let E = region_to f in
      let W = max len first_place in
      let fresh = length (fresh_of f change code p) in
      let o : x.at + x.old ≤ E = rw (v.at_is, v.old_is) (out_inside f change k.present k.cut) in
      let n = length_new (order_of f) change code p in
      let e : x.end ≡ E - x.old + x.new = rw (v.end_is, v.old_is, v.new_is, n) (end_new f change k.present k.cut code p) in
      let w : fresh ≡ W - x.old + x.new =
      rw (v.old_is, v.new_is, n) (rw lf at (whole_new f change k.present k.cut code p k.long)) in
      let g : fresh ≡ x.end + length (tail_of f) = rw v.end_is (length-fresh f (edited_list f change code p) k.long) in
      let c : W ≡ first_place + length (joined xs) + length (tail_of f) = rw lf at k.cut.whole in
      let s = sums x.at x.old x.new x.end E W (length (joined xs)) (length (tail_of f)) fresh (length l) len
      (omega (arith, v.at_is)) o k.cut.base c e w g a.fits hl (omega arith) in
      record {
        out = s.out;
        inside = s.inside;
        room = s.room;
        new_inside = s.new_inside;
        end_limit = rw v.end_is a.end_limit;
        long = s.long;
        result = w;
      }

  -- the front of the buffer, up to where the extensions begin
  abbrev front : List ℕ
  front = take 348 f ++ take 4 (drop 348 l)

  buffer_long : first_place ≤ length l
  buffer_long = let s : max len first_place ≤ length l = sizes.inside in omega arith

  front_is : take first_place l ≡ front
  front_is =
      let k = a.known.long in
      let lf = file_length in
      take-add 348 4 l ∙ rw (take-take 348 len l (omega arith))

  front_length_lem : length front ≡ first_place
  front_length_lem = sym (ap length front_is) ∙ length-take-le first_place l buffer_long

  -- the file, with room for an extender where it had none
  file_is : take (max len first_place) l ≡ front ++ (joined xs ++ tail_of f)
  file_is =
      let w = max len first_place in
      let lf = file_length in
      let t : take first_place (take w l) ≡ front = take-take first_place w l (omega arith) ∙ front_is in
      let n : w - first_place ≡ len - first_place = omega arith in
      let d : drop first_place (take w l) ≡ drop first_place f = drop-take first_place w l ∙ rw n (sym (drop-take first_place len l)) in
      sym (take-append-drop first_place (take w l)) ∙ rw (t, d, a.known.cut.rest)

  list_is : replaced (take (max len first_place) l) x.at x.old (joined ys) ≡ front ++ (joined (edited_list f change code p) ++ tail_of f)
  unfolding edited_list
  list_is =
      rw file_is
      (exchanged front xs ys (tail_of f) i j front_length_lem (places change (length xs) a.known.present).0 x.at x.old v.at_is v.old_is)

  -- the moves leave the front as it was
  front_kept : (g r : List ℕ) → g ≡ front ++ r → take first_place (settled l (max len first_place) g) ≡ take first_place l
  unfolding settled
  front_kept g r e =
      let W = max len first_place in
      let n = front_length_lem in
      let z : List ℕ = replicate (W - length g) 0 ++ drop (max W (length g)) l in
      let lg : first_place ≤ length g = rw e (rw (length-append, front_length_lem) (omega arith)) in
      take-append-le first_place g z lg ∙ rw e (take_at front r first_place n) ∙ sym front_is

  module _ (fits : SFits w32 code) where
    abbrev zs : List (List ℕ)
    zs = edited_list f change code p

    -- the file ends at 348, or not before 352
    file_long : 348 < len → first_place ≤ len
    file_long h =
        let n = file_length in
        let r = region_in_lem f (accepted_file f a.accepted).file.rules (omega arith) in
        omega (arith, r.0, r.1)

    extender_same : (b : List ℕ) → take first_place b ≡ take first_place l → extender_bytes len x.end b ≡ extender_for f zs
    extender_same b e = rw v.end_is (extender_is l b len (edited_complete f (length l) change code p fits a) e file_long)

    fresh_is : head_for x.kind x.order x.end
        (put (replaced (take (max len first_place) l) x.at x.old (joined ys)) 348 (extender_for f zs))
        ≡ fresh_of f change code p
    unfolding fresh_file
    fresh_is =
        let e = extender_for f zs in
        let r = joined zs ++ tail_of f in
        let k = a.known.long in
        let lt : length (take 348 f) ≡ 348 = length-take-le 348 f k in
        let s = buffer_long in
        let lx : length (take 4 (drop 348 l)) ≡ 4 = length-take-le 4 (drop 348 l) (rw length-drop (omega arith)) in
        let t = extended (take 348 f) (take 4 (drop 348 l)) e r lt lx (length_extender f zs) in
        rw (list_is, t, v.kind_is, v.order_is, v.end_is)
        (headed (kind_of f) (order_of f) (end_for zs) (take 348 f) (e ++ r) (omega arith))

    -- what the four steps leave
    pub spliced : (w : ℕ) (b₁ b₂ b₃ b₄ : List ℕ) → w ≡ max len first_place
        → b₁ ≡ put l (x.at + x.new) (take (w - (x.at + x.old)) (drop (x.at + x.old) l) ++ replicate (x.old - x.new) 0)
        → b₂ ≡ put b₁ x.at (joined (brought_in x.order change code p)) → b₃ ≡ put b₂ 348 (extender_bytes len x.end b₂)
        → b₄ ≡ head_for x.kind x.order x.end b₃ → b₄ ≡ settled l len (fresh_of f change code p)
    spliced w b₁ b₂ b₃ b₄ ew e₁ e₂ e₃ e₄ =
        let s = sizes in
        let W = max len first_place in
        let moved : List ℕ = take (W - (x.at + x.old)) (drop (x.at + x.old) l) ++ replicate (x.old - x.new) 0 in
        let n = v.new_is in
        let f₁ : b₁ ≡ put l (x.at + x.new) moved = rw ew at e₁ in
        let f₂ : b₂ ≡ put b₁ x.at (joined ys) = rw v.order_is at e₂ in
        let g : List ℕ = replaced (take W l) x.at x.old (joined ys) in
        let z : x.old - x.new ≡ x.old - length (joined ys) = omega arith in
        let h₂ : b₂ ≡ settled l W g =
        f₂ ∙ put_left l (x.at + x.new) moved (joined ys) b₁ x.at f₁ (omega arith) (omega arith)
        ∙ rw z (settle l W x.at x.old (joined ys) s.out s.inside) in
        let e : List ℕ = extender_for f zs in
        let lx = length_extender f zs in
        let lg : first_place ≤ length g = rw list_is (rw (length-append, front_length_lem) (omega arith)) in
        let kept : take first_place b₂ ≡ take first_place l = ap (take first_place) h₂ ∙ front_kept g (joined zs ++ tail_of f) list_is in
        let f₃ : b₃ ≡ put b₂ 348 e = e₃ ∙ ap (put b₂ 348) (extender_same b₂ kept) in
        let lp : length (put g 348 e) ≡ length g = length-put g 348 e (omega arith) in
        let h₃ : b₃ ≡ settled l W (put g 348 e) = f₃ ∙ rw (h₂, settled_put l W g 348 e (omega arith)) in
        e₄
        ∙ rw (h₃, headed_settled x.kind x.order x.end l W (put g 348 e) (omega arith), fresh_is)
        (settled_longer l len (fresh_of f change code p) s.long)

-- what a splice knows of its plan
pub record Known (l : List ℕ) (len : ℕ) (change : Change) (code : ℤ) (p : List ℕ) (x : Plan) : Type 0 where
  pub allowed : Allowed (take len l) (length l) change code p
  pub carries : Carries (take len l) change code p x
  pub sizes : Sizes l len change code p x

pub known : {l : List ℕ} {len : ℕ} {change : Change} {code : ℤ} {p : List ℕ} {x : Plan} → len ≤ length l
    → planned_of (take len l) (length l) change code p ≡ Ok x → Known l len change code p x
known {l} {len} {change} {code} {p} {x} h e =
    let go = planned (take len l) (length l) change code p x e in
    let a = allowed (take len l) (length l) change code p go.0 in
    let v = carries (take len l) change code p x go.1 in
    record { allowed = a; carries = v; sizes = sizes l len change code p x h a v }

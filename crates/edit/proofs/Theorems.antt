-- Demand 3 but for its voxels: an edit that the table doesn't refuse leaves a file that is accepted, whose extensions are the edited list
-- and whose other fields, image and tail are the old ones. One statement for append, replacement and removal, for a single file and
-- a pair, in either byte order.
use Rattle.refusal.specs.declared.Rule.TheVariants.{LengthAboveBuffer}
use Rattle.std.specs.Prelude.{Ok, Err}
use Prim.Native.Nat.{ℕ, ◌+◌, ◌-◌, ◌≤◌, ◌<◌}
use mathlib.Core.Path.{◌≡◌, refl, sym, ap, subst, ◌∙◌}
use mathlib.Core.Bool.{false, not}
use mathlib.Core.List.{List, [], ◌∷◌}
use native.Mathlib.Omega.{arith}
use borrow.Author.Tests.{lt-ltb, le-ltb, ltb-false}
use lib.Dec.{ltb}
use lib.IntN.{ℤ}
use lib.ListN.{length, take, drop, length-take}
use mir.Syntax.{w32}
use mir.Val.{SFits}
use Rattle.field.proofs.Tabulate.{bytes_at_part}
use Rattle.refusal.specs.declared.Refusal.{Refusal}
use Rattle.refusal.specs.Table.{row, verdict, no_refusal}
use Rattle.refusal.proofs.Rows.{Clear, none, one, accepted_clear, clear_accepted, decided_accepted, refused_never}
use Rattle.offset.specs.Offset.{offset_limit}
use Rattle.extension.specs.declared.Span.{Span}
use Rattle.header.specs.declared.Kind.TheVariants.{Single, Pair}
use Rattle.header.specs.Fields.{header_of}
use Rattle.rules.specs.declared.Image.{Image}
use Rattle.rules.specs.declared.Shape.{Shape}
use Rattle.rules.specs.Rules.{image_of}
use Rattle.layout.specs.File.{kind_of, shape_in, shape_of, aligned_file, extender_of, end_of}
use Rattle.reader.specs.declared.Reading.{Reading}
use Rattle.reader.specs.Reading.{reading_of, IsAccepted}
use Rattle.reader.proofs.File.{AcceptedFile, accepted_file, accepted_reads, accepted_image, accepted_shape, accepted_fact}
use Rattle.buffer.specs.Settled.{settled}
use Rattle.buffer.proofs.Settled.{take-settled}
use Rattle.change.specs.declared.Change.{Change}
use Rattle.change.specs.declared.Change.TheVariants.{Remove}
use Rattle.edit_plan.specs.Fresh.{extension_list, edited_list, extender_for, end_for, fresh_of}
use Rattle.edit_plan.specs.Refusals.{too_much, change_rows, change_verdict}
use Rattle.edit_plan.specs.Planned.{bytes_out, aligned_after, plan_of}
use Rattle.edit_plan.proofs.Exchanging.{joined_some, joined_units}
use Rattle.edit_plan.proofs.Cutting.{list_complete, length_list}
use Rattle.edit_plan.proofs.Planning.{count_of, region_to, out_inside, whole_new, much_is}
use Rattle.edit_plan.proofs.Deciding.{past_by, Allowed, allowed, edited_complete}
use Rattle.edit.specs.declared.NewFile.{NewFile}
use Rattle.edit.specs.Outcome.{Outcome, edit_verdict, fresh, refused, outcome_of, edit_answer, buffer_after}
use Rattle.edit.specs.After.{read_after}
use Rattle.edit.proofs.Outcomes.{outcome_is}
use Rattle.edit.proofs.Keeping.{same_bytes, same_kind, pair_head}
use Rattle.edit.proofs.Rereading.{Ends, tail_single, extender_at, new_long, aligned_is, list_new, reads_new, tail_new}

-- an edit that is done is not denied
pub denied_never {ℓ} : {A : Type ℓ} {r : Refusal} {n : NewFile} → Err r ≡ Ok n → A
denied_never e = let z : ◌≡◌ {A = ℕ} 0 1 = cc in absurd (omega arith)

-- ---- the fresh file

-- in a single file
pub record Moved (f g : List ℕ) : Type 0 where
  -- the image began where the extensions ended
  pub offset_old : (reading_of f).image.offset ≡ end_for (extension_list f)
  -- "the same bytes behind it"
  pub behind : drop (reading_of g).image.offset g ≡ drop (reading_of f).image.offset f
  -- of the header's bytes only vox_offset's are new
  pub header_front : take 108 g ≡ take 108 f
  pub header_back : take 236 (drop 112 g) ≡ take 236 (drop 112 f)

-- what an edit of the file f into the list xs leaves: the file g
pub record Renewed (f g : List ℕ) (xs : List (List ℕ)) : Type 0 where
  -- "the new file is accepted"
  pub accepted : IsAccepted g
  -- "the same header fields, the extension list with that one edit, .. with the voxel offset worked out anew in a single file"
  pub reads : reading_of g ≡ read_after (reading_of f) xs
  pub list : extension_list g ≡ xs
  -- "An edit writes the first byte as 1 or 0 by the resulting list, and keeps the three" (02-change-requests.md, P2)
  pub extender : extender_of g ≡ extender_for f xs
  pub single : (reading_of f).header.kind ≡ Single → Moved f g
  -- in a pair the header's bytes stay as they are
  pub pair : (reading_of f).header.kind ≡ Pair → take 348 g ≡ take 348 f
  -- P6: a single file's new offset is aligned, always; a pair's is as aligned as it was
  pub aligned : (reading_of g).header.aligned ≡ aligned_after (reading_of f).header.kind (reading_of f).header.aligned

module _ (f : List ℕ) (room : ℕ) (change : Change) (code : ℤ) (p : List ℕ) (fits : SFits w32 code)
    (go : change_verdict f room change code p ≡ no_refusal) where
  abbrev xs : List (List ℕ)
  xs = edited_list f change code p

  abbrev g : List ℕ
  g = fresh_of f change code p

  may : Allowed f room change code p
  may = allowed f room change code p go

  abbrev ss : List Span
  ss = (accepted_file f may.accepted).list

  file : AcceptedFile f ss
  file = (accepted_file f may.accepted).file

  long : 348 ≤ length f
  long = may.known.long

  ends : Ends (end_for xs)
  ends =
      let u = joined_units (edited_complete f room change code p fits may) in
      record { units = omega arith; least = omega arith; most = may.end_limit }

  -- the record after an edit, as one equation
  pub edit_reads : reading_of g ≡ read_after (reading_of f) xs
  edit_reads = reads_new f xs long ends (edited_complete f room change code p fits may) may.count_limit ss file

  new_accepted : IsAccepted g
  new_accepted = ap (λ (r : Reading). r.verdict) edit_reads ∙ may.accepted

  kind_old : (reading_of f).header.kind ≡ kind_of f
  unfolding shape_in
  kind_old = ap (λ (s : Shape). s.kind) (accepted_shape f may.accepted)

  -- a single file's extensions end where its image begins
  offset_ends : kind_of f ≡ Single → (image_of (shape_of f)).offset ≡ end_for (extension_list f)
  unfolding end_of
  offset_ends k =
      let b = file.begins k in
      let e : region_to f ≡ end_for (extension_list f) = may.known.cut.base in
      let r : end_of f ≡ (image_of (shape_of f)).offset = rw k in
      omega arith

  moved : kind_of f ≡ Single → Moved f g
  moved k =
      let o : (reading_of g).image.offset ≡ (image_of (shape_of g)).offset = ap (λ (i : Image). i.offset) (accepted_image g new_accepted) in
      let q : (reading_of f).image.offset ≡ (image_of (shape_of f)).offset = ap (λ (i : Image). i.offset) (accepted_image f may.accepted) in
      let t : drop (image_of (shape_of g)).offset g ≡ drop (image_of (shape_of f)).offset f =
      sym (tail_single g (same_kind f xs long ∙ k)) ∙ tail_new f xs long ends ∙ tail_single f k in
      let lf = long in
      let lg = new_long f xs long in
      record {
        offset_old = q ∙ offset_ends k;
        behind = ap (λ (n : ℕ). drop n g) o ∙ t ∙ ap (λ (n : ℕ). drop n f) (sym q);
        header_front = sym (bytes_at_part 0 108 g (omega arith)) ∙ same_bytes f xs long 0 108 refl ∙ bytes_at_part 0 108 f (omega arith);
        header_back = sym (bytes_at_part 112 236 g (omega arith)) ∙ same_bytes f xs long 112 236 refl ∙ bytes_at_part 112 236 f (omega arith);
      }

  -- the fresh file of an edit that is not refused
  pub renewed : Renewed f g xs
  renewed =
      record {
        accepted = new_accepted;
        reads = edit_reads;
        list = list_new f xs long ends (edited_complete f room change code p fits may) may.count_limit file.rules;
        extender = extender_at f xs long;
        single = λ k. moved (sym kind_old ∙ k);
        pair = λ k. pair_head f xs long (sym kind_old ∙ k);
        aligned =
            accepted_fact g new_accepted
            ∙ aligned_is f xs long ends
            ∙ (λ i. aligned_after (sym kind_old i) (sym (accepted_fact f may.accepted) i));
      }

  -- the plan says the same of the fresh file
  pub plan_aligned : (plan_of f change code p).aligned ≡ aligned_file g
  unfolding plan_of
  plan_aligned = sym (aligned_is f xs long ends)

-- ---- the buffer

-- an edit of the file in the first len bytes of l that answers `new` and leaves the buffer b
pub record Carried (l : List ℕ) (len : ℕ) (change : Change) (code : ℤ) (p : List ℕ) (new : NewFile) (b : List ℕ) : Type 0 where
  -- the old file is accepted, in the buffer
  pub inside : len ≤ length l
  pub accepted : IsAccepted (take len l)
  -- "The length answered is the fresh file's", which the buffer holds: "voxels are asked of the buffer up to the file's length at the time"
  pub answered : new.length ≡ length (fresh_of (take len l) change code p)
  pub holds : take new.length b ≡ fresh_of (take len l) change code p
  -- "The whole buffer afterwards equals the fresh file and, past its end, what the exact rules say, to the last byte."
  pub whole : b ≡ settled l len (fresh_of (take len l) change code p)
  pub new_inside : new.length ≤ length l
  -- P6: "an edit beside its new length, for the new offset": what reading the new file says
  pub aligned : new.aligned ≡ (reading_of (take new.length b)).header.aligned
  pub renewed : Renewed (take len l) (take new.length b) (edited_list (take len l) change code p)

done_is : (o : Outcome) (new : NewFile) → edit_answer o ≡ Ok new
    → (g : List ℕ) × (o ≡ fresh g) × (length g ≡ new.length) × (aligned_file g ≡ new.aligned)
done_is (fresh g) new e =
    let n : record { length = length g; aligned = aligned_file g } ≡ new = cc in
    (g, refl, ap (λ (x : NewFile). x.length) n, ap (λ (x : NewFile). x.aligned) n)
done_is (refused r) new e = denied_never e

pub fresh_never {ℓ} : {A : Type ℓ} {r : Refusal} {g : List ℕ} → refused r ≡ fresh g → A
fresh_never e = let z : ◌≡◌ {A = ℕ} 0 1 = cc in absurd (omega arith)

inside_by : (room len : ℕ) → Clear (row LengthAboveBuffer (ltb room len) 0 ∷ []) → len ≤ room
inside_by room len (one r none) = ltb-false room len r

-- every append, replacement or removal "that the table doesn't refuse", a code being any that fits 32 bits
pub edit_carried : (l : List ℕ) (len : ℕ) (change : Change) (code : ℤ) (p : List ℕ) (new : NewFile) → SFits w32 code
    → edit_answer (outcome_of l len change code p) ≡ Ok new
    → Carried l len change code p new (buffer_after l len (outcome_of l len change code p))
unfolding outcome_of
edit_carried l len change code p new fits e =
    let f = take len l in
    let g = fresh_of f change code p in
    let d = done_is (outcome_of l len change code p) new e in
    let v = decided_accepted (edit_verdict l len change code p) (λ r. fresh_never) d.1 in
    let first = decided_accepted (verdict (row LengthAboveBuffer (ltb (length l) len) 0 ∷ [])) (λ r. refused_never) v.0 in
    let inside = inside_by (length l) len (accepted_clear (row LengthAboveBuffer (ltb (length l) len) 0 ∷ []) first.0) in
    let same : d.0 ≡ g = cc v.1 in
    let n : length g ≡ new.length = ap length (sym same) ∙ d.2 in
    let w : buffer_after l len (outcome_of l len change code p) ≡ settled l len g = ap (buffer_after l len) (d.1 ∙ ap fresh same) in
    let t : take new.length (buffer_after l len (outcome_of l len change code p)) ≡ g = rw (w, ← n) (take-settled l len g) in
    let a = allowed f (length l) change code p first.1 in
    let whole = subst (λ (x : List ℕ). Renewed f x (edited_list f change code p)) (sym t) (renewed f (length l) change code p fits first.1) in
    record {
      inside = inside;
      accepted = a.accepted;
      answered = sym n;
      holds = t;
      whole = w;
      new_inside = rw (← n) a.fits;
      aligned = sym d.3 ∙ ap aligned_file (same ∙ sym t) ∙ sym (accepted_fact _ whole.accepted);
      renewed = whole;
    }

-- a refusal "leaves all lent buffers as they stood"
pub denied_keeps : (l : List ℕ) (len : ℕ) (o : Outcome) (r : Refusal) → edit_answer o ≡ Err r → buffer_after l len o ≡ l
denied_keeps l len (fresh g) r e = denied_never (sym e)
denied_keeps l len (refused q) r e = refl

-- ---- removals

-- neither 21 nor 22 refuses a removal
pub removal_clear : (f : List ℕ) (room k : ℕ) (code : ℤ) (p : List ℕ) → IsAccepted f → length f ≤ room → k < count_of f
    → verdict (change_rows f room (Remove k) code p) ≡ no_refusal
removal_clear f room k code p a h b =
    let ss = (accepted_file f a).list in
    let file = (accepted_file f a).file in
    let m : not (ltb k (count_of f)) ≡ false = rw (lt-ltb k (count_of f) b) in
    let q = past_by f ss file (Remove k) code m refl refl in
    let o = out_inside f (Remove k) m q.cut in
    let w = whole_new f (Remove k) m q.cut code p q.long in
    let s = joined_some (list_complete f ss file) (omega arith) in
    let c = q.cut.whole in
    let n = q.small in
    let t : too_much (edited_list f (Remove k) code p) ≡ false =
    sym (much_is f (Remove k) m q.cut code p q.few) ∙ le-ltb offset_limit (region_to f - bytes_out f (Remove k) + 0) (omega arith) in
    let i : length (fresh_of f (Remove k) code p) ≤ room = omega (arith, w, c, s) in
    let l : ltb room (length (fresh_of f (Remove k) code p)) ≡ false = le-ltb room (length (fresh_of f (Remove k) code p)) i in
    clear_accepted {rs = change_rows f room (Remove k) code p} (one m (one refl (one refl (one t (one l none)))))

-- of an accepted file, a removal by a number below its count is done
pub removal_done : (l : List ℕ) (len k : ℕ) (code : ℤ) (p : List ℕ) → len ≤ length l → IsAccepted (take len l)
    → k < (reading_of (take len l)).header.count
    → outcome_of l len (Remove k) code p ≡ fresh (fresh_of (take len l) (Remove k) code p)
unfolding change_verdict header_of
removal_done l len k code p inside a below =
    let f = take len l in
    let x = accepted_file f a in
    let n : (reading_of f).header.count ≡ count_of f =
    ap (λ (r : Reading). r.header.count) (accepted_reads f a) ∙ sym (length_list f x.list x.file) in
    let c = removal_clear f (length l) k code p a (rw length-take (omega arith)) (omega arith) in
    rw (outcome_is l len (Remove k) code p inside, a, c)

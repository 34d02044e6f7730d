-- What each rule of an edit decides, by the numbers that the code compares: one law for each answer of `plan_list`.
use Rattle.refusal.specs.declared.Rule.TheVariants.{NoSuchExtension, NegativeCodeOffered, PrivateBytes, ListTooLong, ShortBuffer}
use Rattle.std.specs.Prelude.{Ok, Err, Result}
use Prim.Native.Nat.{ℕ, ◌+◌, ◌-◌, ◌≤◌, ◌<◌, min, max}
use mathlib.Core.Path.{◌≡◌, sym, ap, ◌∙◌}
use mathlib.Core.Bool.{Bool, true, false, ◌||◌}
use mathlib.Core.List.{List}
use native.Mathlib.Omega.{arith}
use borrow.Author.Tests.{ltb-false, lt-ltb, le-ltb}
use lib.Dec.{ltb}
use lib.IntN.{ℤ}
use lib.ListN.{length}
use mir.Syntax.{w32}
use mir.Val.{SFits, to_z, of_z}
use mir.ValLaws.{to_z-of_z}
use Rattle.field.specs.declared.Order.{Order}
use Rattle.field.specs.Numbers.{joined}
use Rattle.refusal.specs.declared.Refusal.{Refusal}
use Rattle.refusal.specs.Table.{refusal, verdict, no_refusal}
use Rattle.refusal.proofs.Rows as rows
use Rattle.refusal.proofs.Rows.{Clear, accepted_clear, decided_accepted, refused_never}
use Rattle.offset.specs.Offset.{offset_limit}
use Rattle.extension.specs.declared.Span.{Span}
use Rattle.extension.specs.Walk.{extension_limit, first_place}
use Rattle.extension.specs.Pieces.{AllComplete, none, one}
use Rattle.rules.specs.Rules.{region_end}
use Rattle.rules.proofs.Passed.{neither}
use Rattle.layout.specs.declared.Layout.{Layout}
use Rattle.layout.specs.File.{order_of, end_of}
use Rattle.reader.specs.Reading.{reading_of, IsAccepted}
use Rattle.reader.proofs.File.{AcceptedFile, accepted_file}
use Rattle.outline.specs.declared.Outline.{Outline}
use Rattle.outline.specs.Outline.{outline_of}
use Rattle.outline.proofs.Outlines.{hidden_reading, Shows, shows, shown_accepted}
use Rattle.change.specs.declared.Change.{Change}
use Rattle.change.specs.declared.Change.TheVariants.{Append, Replace, Remove}
use Rattle.change.specs.declared.Slot.{Slot}
use Rattle.change.specs.Change.{missing_in, offers_negative, enters_bytes, too_many, named_by, slot_of, new_size, size_cap}
use Rattle.edit_plan.specs.declared.Plan.{Plan}
use Rattle.edit_plan.specs.Fresh.{extension_list, out_from, out_to, brought_in, edited_list, end_for, fresh_of}
use Rattle.edit_plan.specs.Refusals.{enters_private, too_much, change_rows, change_verdict}
use Rattle.edit_plan.specs.Planned.{bytes_before, bytes_out, aligned_after, plan_of, planned_of}
use Rattle.edit_plan.proofs.Cutting.{list_complete, length_list, Cut}
use Rattle.edit_plan.proofs.Sizing.{stored_complete}
use Rattle.edit_plan.proofs.Exchanging.{complete_exchange}
use Rattle.edit_plan.proofs.Planning.{count_of, region_to, length_new, slot_is, enters_is, cut_by, end_new, whole_new, much_is}

-- a plan is not a refusal
pub stop_never {ℓ} : {A : Type ℓ} {r : Refusal} {x : Plan} → Err r ≡ Ok x → A
stop_never e = let z : ◌≡◌ {A = ℕ} 0 1 = cc in absurd (omega arith)

-- ---- the table, row by row

module _ (f : List ℕ) (room : ℕ) (change : Change) (code : ℤ) (p : List ℕ) where
  abbrev Answers : Result Plan Refusal → Type 0
  Answers x = x ≡ planned_of f room change code p

  pub stops_unread : (q : Refusal) → outline_of (named_by change) f ≡ Err q → Answers (Err q)
  unfolding planned_of change_verdict
  stops_unread q e = rw (hidden_reading f (named_by change) q e)

  module _ (accepted : IsAccepted f) where
    stops_18 : missing_in change (length (extension_list f)) ≡ true → Answers (Err (refusal NoSuchExtension 0))
    unfolding planned_of change_verdict verdict
    stops_18 m = simp (accepted, m)

    module _ (m : missing_in change (length (extension_list f)) ≡ false) where
      stops_19 : offers_negative change code ≡ true → Answers (Err (refusal NegativeCodeOffered 0))
      unfolding planned_of change_verdict verdict
      stops_19 n = simp (accepted, m, n)

      module _ (n : offers_negative change code ≡ false) where
        stops_20 : enters_private change f ≡ true → Answers (Err (refusal PrivateBytes 0))
        unfolding planned_of change_verdict verdict
        stops_20 e = simp (accepted, m, n, e)

        module _ (e : enters_private change f ≡ false) where
          stops_21 : too_much (edited_list f change code p) ≡ true → Answers (Err (refusal ListTooLong 0))
          unfolding planned_of change_verdict verdict
          stops_21 t = simp (accepted, m, n, e, t)

          module _ (t : too_much (edited_list f change code p) ≡ false) where
            stops_22 : ltb room (length (fresh_of f change code p)) ≡ true → Answers (Err (refusal ShortBuffer 0))
            unfolding planned_of change_verdict verdict
            stops_22 l = simp (accepted, m, n, e, t, l)

            goes : ltb room (length (fresh_of f change code p)) ≡ false → Answers (Ok (plan_of f change code p))
            unfolding planned_of change_verdict verdict
            goes l = simp (accepted, m, n, e, t, l)

-- ---- the same by the outline

-- what is known past rules 18 to 20
pub record Past (f : List ℕ) (change : Change) (code : ℤ) : Type 0 where
  pub present : missing_in change (count_of f) ≡ false
  pub offered : offers_negative change code ≡ false
  pub entered : enters_private change f ≡ false
  pub cut : Cut f
  pub few : count_of f ≤ extension_limit
  pub long : 348 ≤ length f
  pub small : region_to f ≤ offset_limit

pub past_by : (f : List ℕ) (ss : List Span) → AcceptedFile f ss → (change : Change) (code : ℤ) → missing_in change (count_of f) ≡ false
    → offers_negative change code ≡ false → enters_private change f ≡ false → Past f change code
past_by f ss a change code m n e =
    let l = length_list f ss a in
    let d = a.end_small in
    let w = a.few in
    record {
      present = m;
      offered = n;
      entered = e;
      cut = cut_by f ss a change m e;
      few = omega arith;
      long = a.rules.long;
      small = omega arith;
    }

-- the numbers that the code has then: where the region ends, where extensions go out and how many bytes, and how many come in
pub record Numbers (f : List ℕ) (change : Change) (p : List ℕ) (end at old new : ℕ) : Type 0 where
  pub end_is : end ≡ region_to f
  pub at_is : at ≡ first_place + bytes_before f (out_from change (count_of f))
  pub old_is : old ≡ bytes_out f change
  pub new_is : new ≡ min (new_size change (length p)) size_cap

module _ (f : List ℕ) (room : ℕ) (change : Change) (code : ℤ) (p : List ℕ) (o : Outline) (e : outline_of (named_by change) f ≡ Ok o) where
  abbrev shown : Shows f (named_by change) o
  shown = shows f (named_by change) o e

  abbrev ss : List Span
  ss = shown.list

  file : AcceptedFile f ss
  file = shown.file

  accepted : IsAccepted f
  accepted = shown_accepted f (named_by change) o e

  abbrev region_in : ℕ
  region_in = max (region_end o.layout.kind o.layout.image (length f)) first_place

  count_is : o.count ≡ count_of f
  count_is = sym (length_list f ss file ∙ shown.counted)

  base_is : region_in ≡ region_to f
  unfolding end_of
  base_is = ap (λ (l : Layout). max (region_end l.kind l.image (length f)) first_place) (sym shown.layout)

  enters : enters_bytes change o.count region_in ≡ enters_private change f
  enters = rw (← shown.counted, base_is) (enters_is f ss file change)

  pub on_18 : missing_in change o.count ≡ true → Err (refusal NoSuchExtension 0) ≡ planned_of f room change code p
  on_18 m = stops_18 f room change code p accepted (rw count_is at m)

  module _ (m : missing_in change o.count ≡ false) where
    pub on_19 : offers_negative change code ≡ true → Err (refusal NegativeCodeOffered 0) ≡ planned_of f room change code p
    on_19 n = stops_19 f room change code p accepted (rw count_is at m) n

    module _ (n : offers_negative change code ≡ false) where
      pub on_20 : enters_bytes change o.count region_in ≡ true → Err (refusal PrivateBytes 0) ≡ planned_of f room change code p
      on_20 b = stops_20 f room change code p accepted (rw count_is at m) n (sym enters ∙ b)

      pub past : enters_bytes change o.count region_in ≡ false → Past f change code
      past b = past_by f ss file change code (rw count_is at m) n (sym enters ∙ b)

  pub numbers : (k : Past f change code) (end new : ℕ) (s : Slot) → end ≡ region_in → s ≡ slot_of change o.span end
      → new ≡ min (new_size change (length p)) size_cap → Numbers f change p end s.at s.old new
  numbers k end new s ee es en =
      let b : end ≡ region_to f = ee ∙ base_is in
      let q = es ∙ ap (λ (x : Span). slot_of change x end) (sym shown.span) ∙ slot_is f ss file change end k.present (b ∙ k.cut.base) in
      record {
        end_is = b;
        at_is = ap (λ (x : Slot). x.at) q;
        old_is = ap (λ (x : Slot). x.old) q;
        new_is = en;
      }

  module _ (k : Past f change code) (end at old new : ℕ) (v : Numbers f change p end at old new) where
    abbrev much_by : Bool
    much_by = too_many change o.count || ltb offset_limit (end - old + new)

    much : much_by ≡ too_much (edited_list f change code p)
    much = rw (count_is, v.end_is, v.old_is, v.new_is) (much_is f change k.present k.cut code p k.few)

    pub on_21 : much_by ≡ true → Err (refusal ListTooLong 0) ≡ planned_of f room change code p
    on_21 t = stops_21 f room change code p accepted k.present k.offered k.entered (sym much ∙ t)

    module _ (t : much_by ≡ false) where
      -- within the limit the size is the payload's own
      new_whole : new ≡ new_size change (length p)
      new_whole =
          let l = ltb-false offset_limit (end - old + new) (neither (too_many change o.count) (ltb offset_limit (end - old + new)) t).1 in
          omega (arith, v.new_is)

      whole : length (fresh_of f change code p) ≡ max (length f) first_place - old + new
      whole = rw (v.old_is, new_whole) (whole_new f change k.present k.cut code p k.long)

      pub on_22 : room < max (length f) first_place - old + new → Err (refusal ShortBuffer 0) ≡ planned_of f room change code p
      on_22 l =
          stops_22 f room change code p accepted k.present k.offered k.entered (sym much ∙ t)
          (rw whole (lt-ltb room (max (length f) first_place - old + new) l))

      pub on_go : max (length f) first_place - old + new ≤ room
          → Ok (record {
            order = o.layout.order;
            kind = o.layout.kind;
            at = at;
            old = old;
            new = new;
            end = end - old + new;
            aligned = aligned_after o.layout.kind o.layout.aligned;
          })
          ≡ planned_of f room change code p
      unfolding plan_of
      on_go l =
          let d = sym shown.layout in
          let n : new ≡ length (joined (brought_in (order_of f) change code p)) = new_whole ∙ sym (length_new (order_of f) change code p) in
          let x : end - old + new ≡ end_for (edited_list f change code p) =
          rw (v.end_is, v.old_is, new_whole) (sym (end_new f change k.present k.cut code p)) in
          (λ i.
          Ok (record {
            order = (d i).order;
            kind = (d i).kind;
            at = v.at_is i;
            old = v.old_is i;
            new = n i;
            end = x i;
            aligned = aligned_after (d i).kind (d i).aligned;
          }))
          ∙ goes f room change code p accepted k.present k.offered k.entered (sym much ∙ t)
          (rw whole (le-ltb room (max (length f) first_place - old + new) l))

-- what the code has past rules 18 to 20, by the answers of its calls
pub known : {f : List ℕ} {change : Change} {code : ℤ} {p : List ℕ} {o : Outline} {m n b : Bool} {region end new : ℕ} {s : Slot}
    → SFits w32 code → outline_of (named_by change) f ≡ Ok o → m ≡ missing_in change o.count → m ≡ false
    → n ≡ offers_negative change (to_z w32 (of_z w32 code)) → n ≡ false
    → region ≡ region_end o.layout.kind o.layout.image (length f) → end ≡ max region first_place
    → b ≡ enters_bytes change o.count end → b ≡ false → s ≡ slot_of change o.span end → new ≡ min (new_size change (length p)) size_cap
    → Past f change code × Numbers f change p end s.at s.old new
known {f} {change} {code} {p} {o} {end = end} {new = new} {s = s} fits e em m en n er ee eb b es ex =
    let q = to_z-of_z w32 code fits in
    let inside = ee ∙ ap (λ (r : ℕ). max r first_place) er in
    let k = past f 0 change code p o e (sym em ∙ m) (rw q at (sym en ∙ n)) (rw inside at (sym eb ∙ b)) in
    (k, numbers f 0 change code p o e k end new s inside es ex)

-- ---- an edit that goes ahead

-- what is known of it
pub record Allowed (f : List ℕ) (room : ℕ) (change : Change) (code : ℤ) (p : List ℕ) : Type 0 where
  pub accepted : IsAccepted f
  pub known : Past f change code
  pub end_limit : end_for (edited_list f change code p) ≤ offset_limit
  pub count_limit : length (edited_list f change code p) ≤ extension_limit
  pub fits : length (fresh_of f change code p) ≤ room

module _ (f : List ℕ) (room : ℕ) (change : Change) (code : ℤ) (p : List ℕ) where
  abbrev xs : List (List ℕ)
  xs = edited_list f change code p

  allowed_clear : IsAccepted f → Clear (change_rows f room change code p) → Allowed f room change code p
  allowed_clear a (rows.one m (rows.one n (rows.one e (rows.one t (rows.one l rows.none))))) =
      let b = neither (ltb extension_limit (length xs)) (ltb offset_limit (end_for xs)) t in
      let x = accepted_file f a in
      record {
        accepted = a;
        known = past_by f x.list x.file change code m n e;
        end_limit = ltb-false offset_limit (end_for xs) b.1;
        count_limit = ltb-false extension_limit (length xs) b.0;
        fits = ltb-false room (length (fresh_of f change code p)) l;
      }

  pub allowed : change_verdict f room change code p ≡ no_refusal → Allowed f room change code p
  unfolding change_verdict
  allowed e =
      let b = decided_accepted (reading_of f).verdict (λ r. refused_never) e in
      allowed_clear b.0 (accepted_clear (change_rows f room change code p) b.1)

  pub planned : (x : Plan) → planned_of f room change code p ≡ Ok x → (change_verdict f room change code p ≡ no_refusal) × (plan_of f change code p ≡ x)
  unfolding planned_of
  planned x e = let d = decided_accepted (change_verdict f room change code p) (λ r. stop_never) e in (d.0, cc d.1)

-- ---- the new list is complete

brought_complete : (order : Order) (change : Change) (code : ℤ) (p : List ℕ) → SFits w32 code → offers_negative change code ≡ false
    → new_size change (length p) < 2147483648 → AllComplete order (brought_in order change code p)
brought_complete order Append code p f n h = one (stored_complete order code p f n h) none
brought_complete order (Replace k) code p f n h = one (stored_complete order code p f n h) none
brought_complete order (Remove k) code p f n h = none

pub edited_complete : (f : List ℕ) (room : ℕ) (change : Change) (code : ℤ) (p : List ℕ) → SFits w32 code → Allowed f room change code p
    → AllComplete (order_of f) (edited_list f change code p)
unfolding edited_list
edited_complete f room change code p fits a =
    let k = a.known in
    let x = accepted_file f a.accepted in
    let e = end_new f change k.present k.cut code p in
    complete_exchange (extension_list f) (brought_in (order_of f) change code p) (out_from change (count_of f)) (out_to change (count_of f))
    (list_complete f x.list x.file)
    (brought_complete (order_of f) change code p fits k.offered (omega (arith, a.end_limit, e)))

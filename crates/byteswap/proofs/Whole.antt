-- The swap as a chain of steps over a file's runs (crate units, `Chain`): the header, the extensions, and the image of a single file;
-- and over a pair's image file.
use Rattle.std.specs.Prelude.{Some}
use Prim.Native.Nat.{ℕ, ◌+◌, ◌-◌, ◌/◌, ◌≤◌, ◌<◌}
use mathlib.Core.Path.{◌≡◌, refl, ap, ◌∙◌, subst}
use mathlib.Core.Bool.{false}
use mathlib.Core.List.{List, [], ◌∷◌, ◌++◌}
use native.Mathlib.Omega.{arith}
use native.Mathlib.Nat.{zero-add, div-mul-le_self}
use borrow.Author.Tests.{ltb-false}
use lib.ListN.{length, take-append-drop}
use Rattle.datatype.specs.declared.Format.{Format}
use Rattle.datatype.specs.Datatypes.{datatype_of}
use Rattle.datatype.proofs.Sound.{known_sound}
use Rattle.extension.specs.declared.Span.{Span}
use Rattle.extension.specs.Walk.{first_place}
use Rattle.extension.specs.Fills.{Fills}
use Rattle.header.specs.declared.Kind.{Kind}
use Rattle.header.specs.declared.Kind.TheVariants.{Single, Pair}
use Rattle.rules.specs.declared.Image.{Image}
use Rattle.rules.specs.Rules.{cut_short, image_cut, image_of, region_end}
use Rattle.layout.specs.File.{order_of, kind_of, shape_in, shape_of, end_of}
use Rattle.reader.proofs.File.{AcceptedFile}
use Rattle.units.specs.Units.{turned_at}
use Rattle.units.specs.Runs.{Run, run, turn_runs, turn_runs_at, header_runs}
use Rattle.units.proofs.Runs.{span_of, span-append, header_span}
use Rattle.units.proofs.Chain.{Chain, chain_runs, chain_next, chain_stay, chain_done}
use Rattle.turning.specs.Turn.{unit_of, unit_in, extension_runs}
use Rattle.turning.proofs.Turning.{fills_span}
use Rattle.byteswap.specs.Swap.{region_runs, image_runs, own_image, file_runs, image_file_runs}

-- ---- A file's unit and runs

-- the image of a file, its swap unit, its runs, and those of its image file
abbrev pub place_of : List ℕ → Image
place_of s = image_of (shape_of s)

abbrev pub unit_for : List ℕ → ℕ
unit_for s = unit_in (order_of s) s

abbrev pub runs_of : List ℕ → List Span → List Run
runs_of s xs = file_runs (kind_of s) (place_of s) (unit_for s) (length s) xs

abbrev pub image_runs_of : List ℕ → List Run
image_runs_of s = image_file_runs (kind_of s) (place_of s) (unit_for s)

pub unit_known : (s : List ℕ) (t : Format) → datatype_of (shape_of s).datatype ≡ Some t → unit_for s ≡ t.unit
unfolding unit_in shape_in
unit_known s t d = ap unit_of d

pub unit_some : {s : List ℕ} {xs : List Span} → AcceptedFile s xs → 1 ≤ unit_for s
unit_some {s} f =
    let t = f.rules.fields in
    rw (unit_known s t.format t.known) (known_sound (shape_of s).datatype t.format t.known).unit_some

-- ---- What they span

-- the runs of a region end where it ends
pub region_span : (end : ℕ) (xs : List Span) → 348 ≤ end → (0 < length xs → Fills first_place end xs) → 348 + span_of (region_runs end xs) ≡ end
unfolding span_of
region_span end [] h f = omega arith
region_span end (x ∷ xs) h f = omega (arith, fills_span (f (omega arith)))

own_span : (kind : Kind) (image : Image) (unit len : ℕ) → region_end kind image len ≤ len → cut_short kind len image ≡ false
    → region_end kind image len + span_of (own_image kind image unit) ≤ len
unfolding span_of
own_span Single image unit len h e = omega (arith, div-mul-le_self image.bytes unit, ltb-false len (image.offset + image.bytes) e)
own_span Pair image unit len h e = omega arith

pub image_file_span : (kind : Kind) (image : Image) (unit len : ℕ) → image_cut kind len image ≡ false
    → span_of (image_file_runs kind image unit) ≤ len
unfolding image_file_runs span_of
image_file_span Single image unit len c = omega arith
image_file_span Pair image unit len c = omega (arith, div-mul-le_self image.bytes unit, ltb-false len (image.offset + image.bytes) c)

-- ---- The steps

-- a list with the region's runs turned round, then the others
region_next : {goal : List ℕ} (end : ℕ) (xs : List Span) (rs : List Run) (l l' : List ℕ) → 348 ≤ end
    → (0 < length xs → Fills first_place end xs) → Chain goal 348 (region_runs end xs ++ rs) l
    → l' ≡ turn_runs_at first_place (extension_runs xs) l → Chain goal end rs l'
unfolding turn_runs_at turn_runs
region_next {goal} end [] rs l l' h f c e =
    let same : l' ≡ l = e ∙ take-append-drop first_place l in
    let c1 = chain_stay 348 (end - 348) rs l c in
    let ends : 348 + (end - 348) ≡ end = omega arith in
    rw (same, ← ends) c1
region_next {goal} end (x ∷ xs) rs l l' h f c e =
    let c1 = chain_stay 348 4 (extension_runs (x ∷ xs) ++ rs) l c in
    let c2 = chain_runs first_place (extension_runs (x ∷ xs)) rs l l' c1 e in
    rw (fills_span (f (omega arith))) at c2

module _ {s : List ℕ} {xs : List Span} (f : AcceptedFile s xs) where
  abbrev own : List Run
  own = own_image (kind_of s) (place_of s) (unit_for s)

  abbrev goal : List ℕ
  goal = turn_runs (runs_of s xs) s

  pub room : span_of (runs_of s xs) ≤ length s
  unfolding file_runs end_of
  room =
      omega (
        arith,
        span-append header_runs (region_runs (end_of s) xs ++ own),
        span-append (region_runs (end_of s) xs) own,
        header_span,
        region_span (end_of s) xs f.end_behind f.fills,
        own_span (kind_of s) (place_of s) (unit_for s) (length s) f.end_inside f.rules.whole,
      )

  module _ (l₁ l₂ : List ℕ) (e₁ : l₁ ≡ turn_runs_at 0 header_runs s) (e₂ : l₂ ≡ turn_runs_at first_place (extension_runs xs) l₁) where
    -- the header and the extensions are turned round: what is left is the image of a single file
    left : Chain goal (region_end (kind_of s) (place_of s) (length s)) own l₂
    unfolding file_runs turn_runs_at end_of
    left =
        let c0 : Chain goal 0 (header_runs ++ (region_runs (end_of s) xs ++ own)) s = record { comes = refl; room = rw zero-add room } in
        let c1 = chain_runs 0 header_runs (region_runs (end_of s) xs ++ own) s l₁ c0 e₁ in
        region_next (end_of s) xs own l₁ l₂ f.end_behind f.fills (rw header_span at c1) e₂

    left_by_lem : (kind : Kind) → kind_of s ≡ kind → Chain goal (region_end kind (place_of s) (length s)) (own_image kind (place_of s) (unit_for s)) l₂
    left_by_lem kind k = subst (λ (x : Kind). Chain goal (region_end x (place_of s) (length s)) (own_image x (place_of s) (unit_for s)) l₂) k left

    -- and then that is turned round, too; or there is none
    pub single_turned : kind_of s ≡ Single → (l₃ : List ℕ) → l₃ ≡ turned_at (unit_for s) (place_of s).offset ((place_of s).bytes / unit_for s) l₂
        → l₃ ≡ goal
    single_turned k l₃ e₃ =
        chain_done _ l₃ (chain_next (place_of s).offset (run (unit_for s) ((place_of s).bytes / unit_for s)) [] l₂ l₃ (left_by_lem Single k) e₃)

    pub pair_turned : kind_of s ≡ Pair → l₂ ≡ goal
    pair_turned k = chain_done (length s) l₂ (left_by_lem Pair k)

-- a pair's image file
module _ (kind : Kind) (image : Image) (unit : ℕ) (i : List ℕ) where
  pub image_single : kind ≡ Single → i ≡ turn_runs (image_file_runs kind image unit) i
  unfolding image_file_runs turn_runs
  image_single k = rw k

  pub image_pair : (i' : List ℕ) → kind ≡ Pair → image_cut kind (length i) image ≡ false
      → i' ≡ turned_at unit image.offset (image.bytes / unit) i → i' ≡ turn_runs (image_file_runs kind image unit) i
  unfolding image_file_runs turn_runs_at
  image_pair i' k c e =
      let rs = run 1 image.offset ∷ image_runs image unit in
      let span : span_of rs ≤ length i = image_file_span Pair image unit (length i) (rw k at c) in
      let c0 : Chain (turn_runs rs i) 0 rs i = record { comes = refl; room = rw zero-add span } in
      let c1 = rw zero-add at (chain_stay 0 image.offset (image_runs image unit) i c0) in
      rw k (chain_done _ i' (chain_next image.offset (run unit (image.bytes / unit)) [] i i' c1 e))

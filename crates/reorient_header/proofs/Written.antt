-- The record of a turned file reads back as itself once it is written (02-change-requests.md, P10): each of its numbers fits its field.
use Prim.Native.Nat.{ℕ, zero, suc, ◌<◌}
use mathlib.Core.Path.{◌≡◌, refl, ◌∙◌}
use mathlib.Core.Bool.{Bool, true, false, cond}
use mathlib.Core.List.{List, ◌∷◌}
use native.Mathlib.Omega.{arith}
use lib.IntN.{ℤ, pos}
use lib.ListN.{length, get_or, drop, length-drop}
use mir.Syntax.{w16}
use mir.Val.{SFits}
use Rattle.header.specs.declared.Header.{Header}
use Rattle.header.specs.declared.Rows.{Rows}
use Rattle.encode.proofs.Back.{shorts_of, Words, Shorts, Writable}
use Rattle.reorient.specs.declared.Turn.{Turn}
use Rattle.reorient.specs.Reorient.{permuted}
use Rattle.reorient.proofs.Members.{each-drop, each_permuted}
use Rattle.reorient_rows.specs.Rows.{row_after}
use Rattle.reorient_rows.proofs.Patterns.{pattern_below}
use Rattle.reorient_header.specs.After.{entries_after, dims_after, pixdims_after, length_in, rows_after, has_sform, sform_after, header_after}

-- ---- dim and pixdim: of the eight entries the first stays

each_entry : {A : Type 0} (P : A → Type 0) (d : A) (t : Turn) (xs : List A) → ((i : ℕ) → P (get_or xs i d))
    → (i : ℕ) → P (get_or (get_or xs 0 d ∷ permuted d t (drop 1 xs)) i d)
each_entry P d t xs h zero = h 0
each_entry P d t xs h (suc i) = each_permuted P d t (drop 1 xs) (each-drop P d 1 xs h) i

eight : {A : Type 0} (d : A) (t : Turn) (xs : List A) → length xs ≡ 8 → length (get_or xs 0 d ∷ permuted d t (drop 1 xs)) ≡ 8
unfolding permuted
eight d t xs h = simp length-drop (omega arith)

dim_fits : (t : Turn) (dim : List ℤ) → Shorts 8 dim → Shorts 8 (dims_after t dim)
unfolding entries_after
dim_fits t dim w = record { count = eight (pos 0) t dim w.count; each = each_entry (SFits w16) (pos 0) t dim w.each }

pixdim_fits : (t : Turn) (l : List ℕ) → Words 8 l → Words 8 (pixdims_after t l)
unfolding entries_after
pixdim_fits t l w = record { count = eight 0 t l w.count; each = each_entry (λ n. n < 4294967296) 0 t l w.each }

-- ---- The record

row_fits : (t : Turn) (l m n : ℕ) (row : List ℕ) → Words 4 (row_after t l m n row)
unfolding row_after
row_fits t l m n row = record { count = refl; each = pattern_below t l m n row }

either : (P : Rows → Type 0) (b : Bool) (x y : Rows) → P x → P y → P (cond b x y)
either P true x y p q = p
either P false x y p q = q

-- qform_code is 0, the others of two bytes stay
shorts_fit : (t : Turn) (h : Header) → Writable h → (i : ℕ) → SFits w16 (get_or (shorts_of (header_after t h)) i (pos 0))
unfolding header_after
shorts_fit t h w zero = record { sfits = omega arith }
shorts_fit t h w (suc i) = w.shorts (suc i)

pub after_writable : (t : Turn) (h : Header) → Writable h → Writable (header_after t h)
unfolding header_after sform_after rows_after
after_writable t h w =
    let new = rows_after t h.dim h.rows in
    let l : ℕ → ℕ = length_in h.dim in
    let one : (P : Rows → Type 0) → P new → P h.rows → P (sform_after t h) = λ P. either P (has_sform h) new h.rows in
    record {
      size = w.size;
      magic = one (λ g. g.magic ≡ h.rows.magic) refl refl ∙ w.magic;
      words = w.words;
      longs = w.longs;
      shorts = shorts_fit t h w;
      dim = dim_fits t h.dim w.dim;
      pixdim = pixdim_fits t h.scale.pixdim w.pixdim;
      srow_x = one (λ g. Words 4 g.srow_x) (row_fits t (l 1) (l 2) (l 3) h.rows.srow_x) w.srow_x;
      srow_y = one (λ g. Words 4 g.srow_y) (row_fits t (l 1) (l 2) (l 3) h.rows.srow_y) w.srow_y;
      srow_z = one (λ g. Words 4 g.srow_z) (row_fits t (l 1) (l 2) (l 3) h.rows.srow_z) w.srow_z;
      data_type = w.data_type;
      db_name = w.db_name;
      descrip = w.descrip;
      aux_file = w.aux_file;
      intent_name = one (λ g. length g.intent_name ≡ 16) w.intent_name w.intent_name;
    }

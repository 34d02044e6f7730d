-- The refusals after reading, one by one: each where those before it are not given.
use Rattle.refusal.specs.declared.Rule.TheVariants.{ImageCut, ShortBuffer, NoPosition, FewerThanThreeAxes, NoPermutation}
use Rattle.std.specs.Prelude.{Err}
use Prim.Native.Nat.{ℕ, ◌≤◌, ◌<◌}
use mathlib.Core.Path.{◌≡◌, sym, ap, ◌∙◌}
use mathlib.Core.Bool.{Bool, true, false}
use borrow.Author.Tests.{lt-ltb, le-ltb}
use Rattle.refusal.specs.Table.{refusal, verdict, Verdict, no_refusal}
use Rattle.header.specs.declared.Header.{Header}
use Rattle.rules.specs.declared.Image.{Image}
use Rattle.rules.specs.Rules.{axis_count, image_cut}
use Rattle.reorient.specs.declared.Turn.{Turn}
use Rattle.reorient.specs.Reorient.{is_permutation}
use Rattle.reorient_header.specs.After.{not_finite}
use Rattle.reorient_file.specs.Files.{image_in, image_longer}
use Rattle.turn.specs.Turned.{turn_rows}

module _ (h : Header) (t : Turn) (file image out out_image : ℕ) (place : Image) (e : place ≡ image_in h) where
  abbrev given : Verdict
  given = verdict (turn_rows h t file image out out_image)

  cut : (b : Bool) → image_cut h.kind image place ≡ b → image_cut h.kind image (image_in h) ≡ b
  cut b c = ap (image_cut h.kind image) (sym e) ∙ c

  pub gives_16 : image_cut h.kind image place ≡ true → Err (refusal ImageCut 0) ≡ given
  unfolding verdict
  gives_16 c = rw (cut true c)

  module _ (c : image_cut h.kind image place ≡ false) where
    pub gives_29 : axis_count h.dim < 3 → Err (refusal FewerThanThreeAxes 0) ≡ given
    unfolding verdict
    gives_29 few = rw (cut false c, lt-ltb (axis_count h.dim) 3 few)

    module _ (three : 3 ≤ axis_count h.dim) where
      pub gives_30 : is_permutation t ≡ false → Err (refusal NoPermutation 0) ≡ given
      unfolding verdict
      gives_30 p = rw (cut false c, le-ltb (axis_count h.dim) 3 three, p)

      module _ (p : is_permutation t ≡ true) where
        pub gives_23 : not_finite t h ≡ true → Err (refusal NoPosition 0) ≡ given
        unfolding verdict
        gives_23 n = rw (cut false c, le-ltb (axis_count h.dim) 3 three, p, n)

        module _ (n : not_finite t h ≡ false) where
          pub gives_22 : out < file → Err (refusal ShortBuffer 0) ≡ given
          unfolding verdict
          gives_22 s = rw (cut false c, le-ltb (axis_count h.dim) 3 three, p, n, lt-ltb out file s)

          module _ (r : file ≤ out) where
            pub gives_22_image : image_longer h.kind image out_image ≡ true → Err (refusal ShortBuffer 0) ≡ given
            unfolding verdict
            gives_22_image s = rw (cut false c, le-ltb (axis_count h.dim) 3 three, p, n, le-ltb out file r, s)

            pub gives_none : image_longer h.kind image out_image ≡ false → no_refusal ≡ given
            unfolding verdict
            gives_none s = rw (cut false c, le-ltb (axis_count h.dim) 3 three, p, n, le-ltb out file r, s)

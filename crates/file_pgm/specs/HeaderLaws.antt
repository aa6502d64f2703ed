-- The header of bytes: its test, and the size that is read off it.
use Rattle.std.specs.List.{starts_with}
use Rattle.std.proofs.lemmas.Slice.Eq.{starts_is}
use Rattle.std.proofs.lemmas.Bool.Decides.{Decides-eqb}
use Rattle.file_pgm.specs.Prelude.{refl, sym, ap, ◌∙◌, Bool, true, false, not, ℕ, arith, eqb, decimal, pgm_header, leading}
use Rattle.std.specs.Prelude.{List, [], ◌∷◌, ◌++◌, get_or, take, ◌≡◌, ◌+◌, ◌*◌, ◌≤◌, ◌<◌}
use Rattle.std.proofs.Common.{append_assoc, take-append-drop, ext_get_or, drop-drop}
use Rattle.std.proofs.Math.ListN.{length, drop, length-append, length-drop, get_or-append}
use Rattle.std.proofs.Math.Seq.{length-take-le, get_or-take, drop-append-add}
use borrow.Author.Tests.{eq-eqb, eqb-true, not-true, not-false}
use Rattle.geometry.specs.ShapeLaws.{both}
use Rattle.refusals.specs.SomeLaws.{none, not-one}
use Rattle.file_pgm.specs.Form.{file_length, sizes_allowed}
use Rattle.file_pgm.specs.Fits.{Sized}
use Rattle.file_pgm.specs.Reading.{width_in, height_in, differs, formed}
use Rattle.file_pgm.specs.FormLaws.{sized}
use Rattle.file_pgm.specs.Header.DigitLaws.{leading-decimal}

-- the bytes are a header of an allowed size and two bytes for each sample
pub record Formed (width height : ℕ) (bytes raster : List ℕ) : Type 0 where
  pub allowed : sizes_allowed width height ≡ true
  pub long : length raster ≡ 2 * (width * height)
  pub is : bytes ≡ pgm_header width height ++ raster

module _ (text : List ℕ) where
  starts : (bytes : List ℕ) → length text ≤ length bytes → differs text bytes ≡ false → bytes ≡ text ++ drop (length text) bytes
  unfolding differs
  starts bytes h e =
      sym (take-append-drop (length text) bytes)
      ∙ ap (λ l. l ++ drop (length text) bytes)
      (ext_get_or 0 (take (length text) bytes) text (length-take-le (length text) bytes h)
      (λ i l.
      let below : i < length text = omega (arith, length-take-le (length text) bytes h) in
      get_or-take (length text) bytes i 0 below ∙ eqb-true _ _ (not-false _ (none (length text) (λ k. not (eqb (get_or bytes k 0) (get_or text k 0))) e i below))))

  same : (rest : List ℕ) → differs text (text ++ rest) ≡ false
  unfolding differs
  same rest = not-one (length text) _ (λ i h. ap not (eq-eqb _ _ (get_or-append text rest 0 i h)))

-- the library's test of what bytes start with
pub not-starts : (text bytes : List ℕ) → length text ≤ length bytes → not (starts_with eqb bytes text) ≡ differs text bytes
unfolding differs
not-starts text bytes h = from (starts_with eqb bytes text) (differs text bytes) refl (starts_is Decides-eqb bytes text (starts_with eqb bytes text) refl)
  where
    from : (r d : Bool) → d ≡ differs text bytes → (r ≡ true → bytes ≡ text ++ drop (length text) bytes) × ((rest : List ℕ) → bytes ≡ text ++ rest → r ≡ true) → not r ≡ d
    from true d e is = sym (e ∙ ap (differs text) (is.0 refl) ∙ same text (drop (length text) bytes))
    from false true e is = refl
    from false false e is = ap not (is.1 (drop (length text) bytes) (starts text bytes h (sym e)))

-- what is known of bytes that the test of their form lets through
module _ (width height : ℕ) (bytes : List ℕ) (e : formed width height bytes ≡ true) where
  allowed : sizes_allowed width height ≡ true
  unfolding formed
  allowed = (both e).0

  pub form-sized : Sized width height
  form-sized = sized allowed

  -- the length and the header
  rest : (eqb (length bytes) (file_length width height) ≡ true) × (not (differs (pgm_header width height) bytes) ≡ true)
  unfolding formed
  rest = both (both {a = sizes_allowed width height} e).1

  pub form-long : length bytes ≡ file_length width height
  form-long = eqb-true _ _ rest.0

  pub form-sound : Formed width height bytes (drop (length (pgm_header width height)) bytes)
  unfolding file_length
  form-sound =
      record {
        allowed = allowed;
        long = omega (arith, form-long, length-drop (length (pgm_header width height)) bytes);
        is = starts (pgm_header width height) bytes (omega (arith, form-long)) (not-true _ rest.1);
      }

-- what stands behind `P5` and LF
behind : (width height : ℕ) (raster : List ℕ) → drop 3 (pgm_header width height ++ raster) ≡ decimal width ++ (32 ∷ (decimal height ++ (10 ∷ (52 ∷ 48 ∷ 57 ∷ 53 ∷ 10 ∷ []) ++ raster)))
unfolding pgm_header
behind width height raster = simp append_assoc

module _ {width height : ℕ} {bytes raster : List ℕ} (f : Formed width height bytes raster) where
  pub form-complete : formed width height bytes ≡ true
  unfolding formed file_length
  form-complete =
      let long : length bytes ≡ length (pgm_header width height) + 2 * (width * height) = ap length f.is ∙ length-append (pgm_header width height) raster ∙ ap (λ n. length (pgm_header width height) + n) f.long in
      rw (f.allowed, eq-eqb (length bytes) (length (pgm_header width height) + 2 * (width * height)) long, ap (differs (pgm_header width height)) f.is ∙ same (pgm_header width height) raster)

  pub width_read : width_in bytes ≡ width
  unfolding width_in
  width_read =
      ap (λ l. leading 4 0 (drop 3 l)) f.is ∙ ap (leading 4 0) (behind width height raster)
      ∙ leading-decimal width 32 _ (omega (arith, (sized f.allowed).wide.least)) (omega (arith, (sized f.allowed).wide.most)) (omega arith)

  pub height-read : height_in bytes ≡ height
  unfolding height_in
  height-read =
      let place : 4 + length (decimal width) ≡ 3 + (length (decimal width) + 1) = omega arith in
      ap (λ n. leading 4 0 (drop (4 + length (decimal n)) bytes)) width_read
      ∙ ap (λ n. leading 4 0 (drop n bytes)) place
      ∙ ap (leading 4 0) (sym (drop-drop (length (decimal width) + 1) 3 bytes))
      ∙ ap (λ l. leading 4 0 (drop (length (decimal width) + 1) (drop 3 l))) f.is
      ∙ ap (λ l. leading 4 0 (drop (length (decimal width) + 1) l)) (behind width height raster)
      ∙ ap (leading 4 0) (drop-append-add (decimal width) _ 1)
      ∙ leading-decimal height 10 _ (omega (arith, (sized f.allowed).high.least)) (omega (arith, (sized f.allowed).high.most)) (omega arith)

-- What the tests of the tags say, one by one and together.
use Rattle.std.specs.Prelude.{◌≡◌, ◌||◌, ◌+◌, ◌*◌, ◌/◌, ◌%◌, ◌≤◌, ◌<◌}
use Rattle.file_dng.specs.Tags.Prelude.{refl, sym, ◌∙◌, Bool, true, false, not, cond, List, ℕ, arith, eqb, ltb, length, Shape, first, some, Entry, header_wrong, directory_outside}
use Rattle.std.proofs.Math.Decide.{ℕ_discrete}
use borrow.Author.Tests.{eq-eqb, ne_eqb, eqb-true, eqb-false, ltb-false, not-false}
use Rattle.refusals.specs.Numbers as no
use Rattle.refusals.specs.TestLaws.{here, there, passed, refuse-not}
use Rattle.refusals.specs.SomeLaws.{none}
use Rattle.file_dng.specs.Tiff.Fields.{size_of}
use Rattle.file_dng.specs.Tiff.FieldLaws.{Sized}
use Rattle.file_dng.specs.Tags.TestLaws.{neither}
use Rattle.file_dng.specs.Tags.Tags.{ImageWidth, ImageLength, BitsPerSample, Compression, PhotometricInterpretation, StripOffsets, SamplesPerPixel, StripByteCounts, CFARepeatPatternDim, CFAPattern, WhiteLevel, NoiseProfile, BlackLevelRepeatDim, BlackLevel, tags, tag_at, has_black, listed, demanded}
use Rattle.file_dng.specs.Tags.Refusals.{absent, value_of, strip_start, strip_length, value_outside, strip_outside, outside, size_differs, demand_missed, otherwise, tag_tests}
use Rattle.file_dng.specs.Tags.Fits.{StripInside}

pub listed-least : (es : List Entry) → 12 ≤ listed es
unfolding listed
listed-least es = from (has_black es)
  where
    from : (black : Bool) → 12 ≤ cond black 14 12
    from true = omega arith
    from false = omega arith

pub listed-most : (es : List Entry) → listed es ≤ 14
unfolding listed
listed-most es = from (has_black es)
  where
    from : (black : Bool) → cond black 14 12 ≤ 14
    from true = omega arith
    from false = omega arith

-- each type of the table has a size
pub tag-sized : (row : ℕ) → row < 14 → Sized (tag_at row)
unfolding some tag_at tags size_of
tag-sized row h =
    record {
      kind = eqb-false _ _ (none 14 (λ row. eqb (size_of (tag_at row).kind) 0) refl row h);
      other = eqb-false _ _ (none 14 (λ row. eqb (size_of (tag_at row).other) 0) refl row h);
    }

-- the rows by TIFF's, TIFF/EP's and DNG's names
pub named : ((tag_at ImageWidth).tag ≡ 256) × ((tag_at ImageLength).tag ≡ 257) × ((tag_at BitsPerSample).tag ≡ 258) × ((tag_at Compression).tag ≡ 259)
    × ((tag_at PhotometricInterpretation).tag ≡ 262) × ((tag_at StripOffsets).tag ≡ 273) × ((tag_at SamplesPerPixel).tag ≡ 277) × ((tag_at StripByteCounts).tag ≡ 279)
    × ((tag_at CFARepeatPatternDim).tag ≡ 33421) × ((tag_at CFAPattern).tag ≡ 33422) × ((tag_at WhiteLevel).tag ≡ 50717) × ((tag_at NoiseProfile).tag ≡ 51041)
    × ((tag_at BlackLevelRepeatDim).tag ≡ 50713) × ((tag_at BlackLevel).tag ≡ 50714)
unfolding tag_at tags
named = (refl, refl, refl, refl, refl, refl, refl, refl, refl, refl, refl, refl, refl, refl)

module _ (file : List ℕ) (es : List Entry) (s : Shape) where
  -- the sizes and the strip's length, test by test
  module _ {w : ℕ} (wide : w ≡ value_of file es ImageWidth) where
    pub width-differs : (w ≡ s.width → ⊥) → true ≡ size_differs file es s
    unfolding size_differs
    width-differs n = rw (ne_eqb _ _ (λ e. n (wide ∙ e)))

    module _ (same : w ≡ s.width) {h : ℕ} (high : h ≡ value_of file es ImageLength) where
      pub height-differs : (h ≡ s.height → ⊥) → true ≡ size_differs file es s
      unfolding size_differs
      height-differs n = rw (eq-eqb _ _ (sym wide ∙ same), ne_eqb _ _ (λ e. n (high ∙ e)))

      module _ (level : h ≡ s.height) {l : ℕ} (long : l ≡ strip_length file es) where
        pub odd-differs : (l % 2 ≡ 0 → ⊥) → true ≡ size_differs file es s
        unfolding size_differs
        odd-differs n =
            let other : strip_length file es ≡ 2 * (s.width * s.height) → ⊥ = λ e. n (omega arith) in
            rw (eq-eqb _ _ (sym wide ∙ same), eq-eqb _ _ (sym high ∙ level), ne_eqb _ _ other)

        pub half-differs : l % 2 ≡ 0 → not (eqb (l / 2) (s.width * s.height)) ≡ size_differs file es s
        unfolding size_differs
        half-differs even =
            rw (eq-eqb _ _ (sym wide ∙ same), eq-eqb _ _ (sym high ∙ level))
            (halves (s.width * s.height) (ℕ_discrete (l / 2) (s.width * s.height)))
          where
            halves : (area : ℕ) → Dec (l / 2 ≡ area) → not (eqb (l / 2) area) ≡ not (eqb (strip_length file es) (2 * area))
            halves area (yes e) = rw (eq-eqb (l / 2) area e, eq-eqb (strip_length file es) (2 * area) (omega arith))
            halves area (no n) = rw (ne_eqb (l / 2) area n, ne_eqb (strip_length file es) (2 * area) (λ e. n (omega arith)))

  -- a strip that is let through
  pub strip-inside : first (tag_tests file es s) ≡ 0 → StripInside file es s
  unfolding tag_tests outside otherwise size_differs strip_outside
  strip-inside e =
      let value = some (listed es) (λ row. value_outside file es row) in
      let missed = some (demanded es) (λ row. demand_missed file es row) in
      let wide = not (eqb (value_of file es ImageWidth) s.width) in
      let high = not (eqb (value_of file es ImageLength) s.height) in
      let long = not (eqb (strip_length file es) (2 * (s.width * s.height))) in
      let in-file = (neither (header_wrong file) (directory_outside file || (value || strip_outside file es)) (refuse-not no.dng_structure (outside file es) tt (passed e here))).1 in
      let strip = (neither value (strip_outside file es) (neither (directory_outside file) (value || strip_outside file es) in-file).1).1 in
      let values = neither (some (listed es) (λ row. absent file es row)) (size_differs file es s || missed) (refuse-not no.dng_value (otherwise file es s) tt (passed e (there (there here)))) in
      let right = none (listed es) (λ row. absent file es row) values.0 in
      let sizes = (neither wide (high || long) (neither (size_differs file es s) missed values.1).0).1 in
      let start : absent file es StripOffsets ≡ false = right StripOffsets (omega (arith, listed-least es)) in
      let count : absent file es StripByteCounts ≡ false = right StripByteCounts (omega (arith, listed-least es)) in
      let ends : ltb (length file) (strip_start file es + strip_length file es) ≡ false = rw (start, count) at strip in
      let whole : strip_length file es ≡ 2 * (s.width * s.height) = eqb-true _ _ (not-false _ (neither high long sizes).1) in
      record { inside = omega (arith, ltb-false (length file) (strip_start file es + strip_length file es) ends) }

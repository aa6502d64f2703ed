-- The call for a band of the merged frame accepts a band of document 01's figure, and has an input for each of its refusals.
use Rattle.witnesses.specs.Prelude.{refl, sym, ap, ◌∙◌, List, [], ℕ, length, ℤ, pos, zeros, first, some, size_allowed, count_allowed, size_refusal, count_refusal, reference_refusal, side_allowed, side_refusal, row_allowed, row_refusal, sample_length, vector_length, length_refusal, sample_index, sample_at, shape_tests, burst_tests, sample_refusal, vector_refusal, invalid_curve, invalid_iso, invalid_noise, above_limits, noise_tests, strength_refusal, black_refusal, spatial_refusal, shape, plain, burst}
use Rattle.std.specs.Prelude.{replicate, ◌≡◌, ◌∷◌}
use Rattle.std.proofs.lemmas.List.{length-replicate}
use Rattle.refusals.specs.TestLaws.{goes}
use Rattle.refusals.specs.AfterLaws.{result-made}
use Rattle.admit_length.specs.Bands.{band_allowed, band_part_refusal, band_length, band_work_length, band_lengths, band_shape_tests}
use Rattle.admit_call.specs.Refusals.{filter_side_refusal, content_tests, value_tests}
use Rattle.admit_call.specs.Bands.{band_refusal}
use Rattle.stacker.specs.Bands.{band, Banded}
use Rattle.witnesses.specs.Inputs.{Input, dark, full, vectors, work, width_96, nine_frames, reference_2, side_24, row_63, one_short, no_vectors, one_over, no_work, iso_24, shot_65, strength_1025, black_256, spatial_257, spatial_at_32, sample_4096, part_173}
use Rattle.witnesses.specs.Bursts.{numbers, noise-passes, content-passes, frame-2}

-- two rows of pairs of tiles of side 16; those of side 32 take twice as many words
abbrev pub band_work : List ℤ
band_work = replicate 4096 (pos 5)

-- the number that the call answers for the band of all rows, with that work area
abbrev pub band_number : (work : List ℤ) → Input → ℕ
band_number work i = band_refusal i.shape i.reference i.noise i.tuning 0 64 i.samples i.vectors i.output work

pub band-refuses : numbers (band_number band_work) (width_96 ∷ nine_frames ∷ reference_2 ∷ side_24 ∷ row_63 ∷ one_short ∷ no_vectors ∷ one_over ∷ iso_24 ∷ shot_65 ∷ strength_1025 ∷ black_256 ∷ spatial_257 ∷ sample_4096 ∷ []) ≡ 1 ∷ 2 ∷ 3 ∷ 22 ∷ 23 ∷ 4 ∷ 5 ∷ 6 ∷ 8 ∷ 9 ∷ 10 ∷ 18 ∷ 24 ∷ 11 ∷ []
unfolding plain band_refusal content_tests band_shape_tests burst_tests shape_tests band_lengths band_part_refusal band_allowed band_length band_work_length first some size_allowed count_allowed size_refusal count_refusal reference_refusal side_allowed side_refusal row_allowed row_refusal sample_length vector_length length_refusal sample_refusal sample_at sample_index noise_tests invalid_noise invalid_curve invalid_iso above_limits strength_refusal black_refusal spatial_refusal filter_side_refusal
band-refuses = refl

-- merge's work area is too long for it, but for tiles of side 32 in frames of 64 rows
pub band-refuses-work : numbers (band_number work) (no_work ∷ spatial_at_32 ∷ []) ≡ 7 ∷ 25 ∷ []
unfolding plain band_refusal content_tests band_shape_tests burst_tests shape_tests band_lengths band_part_refusal band_allowed band_length band_work_length first some size_allowed count_allowed size_refusal count_refusal reference_refusal side_allowed side_refusal row_allowed row_refusal sample_length vector_length length_refusal noise_tests invalid_noise invalid_curve invalid_iso above_limits strength_refusal black_refusal spatial_refusal filter_side_refusal
band-refuses-work = refl

-- a band of the figure, by its rows
abbrev pub figure_band : (top rows : ℕ) → ℕ
figure_band top rows = band_refusal shape 0 dark full top rows burst vectors (plain 9) band_work

-- a band that begins or ends inside a tile's half step, has no rows, or goes beyond the frame
pub band-refuses-27 : figure_band 8 16 ∷ figure_band 16 40 ∷ figure_band 16 0 ∷ figure_band 48 32 ∷ figure_band 64 16 ∷ [] ≡ 27 ∷ 27 ∷ 27 ∷ 27 ∷ 27 ∷ []
unfolding plain band_refusal band_shape_tests burst_tests shape_tests band_lengths band_part_refusal band_allowed first size_allowed count_allowed size_refusal count_refusal reference_refusal side_allowed side_refusal row_allowed row_refusal
band-refuses-27 = refl

-- rows 16 to 47 pass
module _ (vectors : List ℤ) (long : length vectors ≡ 50) where
  lengths-right : first (band_shape_tests shape 0 16 32 (length burst) (length vectors) 2048 (length band_work)) ≡ 0
  unfolding plain band_shape_tests burst_tests shape_tests band_lengths band_part_refusal band_allowed band_length band_work_length first size_allowed count_allowed size_refusal count_refusal reference_refusal side_allowed side_refusal row_allowed row_refusal sample_length vector_length length_refusal
  lengths-right = rw long

  passes : {part : ℕ} → part ≡ first (vector_refusal vectors ∷ []) → part ≡ band_refusal shape 0 dark full 16 32 burst vectors (replicate 2048 9) band_work
  unfolding band_refusal
  passes e =
      goes (band_shape_tests shape 0 16 32 (length burst) (length vectors) 2048 (length band_work)) _ (sym lengths-right) refl
      (goes (value_tests shape dark full burst) _ (goes (noise_tests dark) (content_tests shape full burst) (sym noise-passes) refl (sym content-passes)) refl e)

pub band-refuses-12 : band_refusal shape 0 dark full 16 32 burst part_173.vectors (replicate 2048 9) band_work ≡ 12
unfolding first some vector_refusal
band-refuses-12 = sym (passes part_173.vectors refl refl)

pub band-number : band_refusal shape 0 dark full 16 32 burst vectors (replicate 2048 9) band_work ≡ 0
unfolding first some vector_refusal
band-number = sym (passes vectors refl refl)

-- "every merged sample is 2"
pub band-accepts : {output' : List ℕ} {work' : List ℤ} {number : ℕ} → Banded shape 0 dark full 16 32 burst vectors (replicate 2048 9) output' band_work work' number →
    (number ≡ 0) × (output' ≡ replicate 2048 2) × (work' ≡ replicate 4096 (pos 0))
unfolding plain band zeros
band-accepts c = (
  c.answer ∙ band-number,
  result-made _ (replicate 2048 9) _ band-number c.result ∙ ap (band 64 16 32) (frame-2 vectors),
  result-made _ band_work (zeros band_work) band-number c.clean ∙ ap (λ n. replicate n (pos 0)) (length-replicate 4096 (pos 5)),
)

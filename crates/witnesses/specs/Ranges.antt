-- Request L14's call accepts document 01's figure, and has an input for each of its refusals.
use Rattle.std.specs.Prelude.{◌≡◌, ◌∷◌, ◌≤◌, ◌<◌}
use Rattle.witnesses.specs.Prelude.{refl, sym, subst, ◌∙◌, List, [], ℕ, length, get_or, ℤ, pos, replicate, first, some, shaped, size_allowed, count_allowed, size_refusal, count_refusal, reference_refusal, row_allowed, row_refusal, sample_length, vector_length, output_length, work_length, length_refusal, sample_index, sample_at, shape_tests, sample_refusal, vector_refusal, invalid_curve, invalid_iso, invalid_noise, above_limits, strength_refusal, black_refusal, shape, plain, burst}
use Rattle.std.specs.Float.Ieee.{lt, le}
use Rattle.refusals.specs.TestLaws.{goes}
use Rattle.noise.specs.declared.Noise.{Noise}
use Rattle.noise.specs.Curve.{curve_of}
use Rattle.range.specs.Crossed.{NoneAbove, range_noise_tests}
use Rattle.admit_range.specs.Refusals.{narrow_refusal, range_frame_tests, range_shape_tests, filter_refusal, range_content_tests, range_refusal}
use Rattle.stacker.specs.Ranged.{Ranged}
use Rattle.sanity.specs.Pedestal.{zero_black}
use Rattle.witnesses.specs.Inputs.{Input, curve, dark, tuned, full, vectors, work, input, figure, width_96, nine_frames, reference_2, row_63, one_short, no_vectors, one_over, no_work, iso_24, shot_65, strength_1025, black_256, sample_4096, part_173}
use Rattle.witnesses.specs.Bursts.{numbers, samples-small, cleared, frame-2}

-- the number that it answers: the lower noise and the low frame are the input's own
abbrev pub range_number : (upper : Noise) (high : List ℕ) → Input → ℕ
range_number upper high i = range_refusal i.shape i.reference i.noise upper i.tuning i.samples i.vectors i.output high i.work

-- nine tiles of side 32
abbrev pub side_32 : Input
side_32 = input (shaped 64 64 2 32 64) 0 dark full burst (replicate 18 (pos 7)) (plain 9) work

-- a shot above the dark one's
abbrev pub shot_1 : Input
shot_1 = input shape 0 (curve 1 0) full burst vectors (plain 9) work

abbrev pub spatial_1 : Input
spatial_1 = input shape 0 dark (tuned 1024 zero_black 1) burst vectors (plain 9) work

pub range-refuses : numbers (range_number dark (plain 9)) (width_96 ∷ nine_frames ∷ reference_2 ∷ side_32 ∷ row_63 ∷ one_short ∷ no_vectors ∷ one_over ∷ no_work ∷ iso_24 ∷ shot_65 ∷ shot_1 ∷ strength_1025 ∷ black_256 ∷ spatial_1 ∷ sample_4096 ∷ []) ≡ 1 ∷ 2 ∷ 3 ∷ 22 ∷ 23 ∷ 4 ∷ 5 ∷ 6 ∷ 7 ∷ 8 ∷ 9 ∷ 26 ∷ 10 ∷ 18 ∷ 24 ∷ 11 ∷ []
unfolding plain range_refusal range_shape_tests range_frame_tests shape_tests range_noise_tests range_content_tests narrow_refusal filter_refusal first some size_allowed count_allowed size_refusal count_refusal reference_refusal row_allowed row_refusal sample_length vector_length output_length work_length length_refusal sample_refusal sample_at sample_index invalid_noise invalid_curve invalid_iso above_limits strength_refusal black_refusal lt
range-refuses = refl

-- "Both output buffers have length W·H, else 6", "8 and 9 read both curves": the high one and the upper one
pub range-refuses-upper : range_number dark (replicate 4097 9) figure ∷ range_number iso_24.noise (plain 9) figure ∷ range_number shot_65.noise (plain 9) figure ∷ [] ≡ 6 ∷ 8 ∷ 9 ∷ []
unfolding plain range_refusal range_shape_tests range_frame_tests shape_tests range_noise_tests narrow_refusal first size_allowed count_allowed size_refusal count_refusal reference_refusal row_allowed row_refusal sample_length vector_length output_length work_length length_refusal invalid_noise invalid_curve invalid_iso above_limits
range-refuses-upper = refl

lengths-right : (vectors : List ℤ) → length vectors ≡ 50 → first (range_shape_tests shape 0 (length burst) (length vectors) (length (plain 9)) (length (plain 9)) (length work)) ≡ 0
unfolding plain range_shape_tests range_frame_tests shape_tests narrow_refusal first size_allowed count_allowed size_refusal count_refusal reference_refusal row_allowed row_refusal sample_length vector_length output_length work_length length_refusal
lengths-right vectors e = rw e

content-passes : first (range_content_tests shape full burst) ≡ 0
unfolding range_content_tests filter_refusal first some strength_refusal black_refusal
content-passes = rw samples-small

-- the figure at whatever lower noise passes beside the dark one, and vectors of the right length: 12 decides
last-decides : (lower : Noise) → first (range_noise_tests lower dark) ≡ 0 → (vectors : List ℤ) → length vectors ≡ 50 → range_refusal shape 0 lower dark full burst vectors (plain 9) (plain 9) work ≡ first (vector_refusal vectors ∷ [])
unfolding range_refusal
last-decides lower passes vectors e =
    sym (goes (range_shape_tests shape 0 (length burst) (length vectors) (length (plain 9)) (length (plain 9)) (length work)) _ (sym (lengths-right vectors e)) refl
    (goes (range_noise_tests lower dark) _ (sym passes) refl (goes (range_content_tests shape full burst) _ (sym content-passes) refl refl)))

dark-passes : first (range_noise_tests dark dark) ≡ 0
unfolding range_noise_tests first invalid_noise invalid_curve above_limits lt
dark-passes = refl

-- "vector part outside −172..172"
pub range-refuses-12 : range_number dark (plain 9) part_173 ≡ 12
unfolding first some vector_refusal
range-refuses-12 = last-decides dark dark-passes part_173.vectors refl ∙ refl

vectors-pass : first (vector_refusal vectors ∷ []) ≡ 0
unfolding first some vector_refusal
vectors-pass = refl

-- no noise
abbrev pub none : Noise
none = curve 0 0

pub range-number : (lower : Noise) → first (range_noise_tests lower dark) ≡ 0 → range_refusal shape 0 lower dark full burst vectors (plain 9) (plain 9) work ≡ 0
range-number lower passes = last-decides lower passes vectors refl ∙ vectors-pass

none_passes : first (range_noise_tests none dark) ≡ 0
unfolding range_noise_tests first invalid_noise invalid_curve above_limits lt
none_passes = refl

none_below : NoneAbove (curve_of none) (curve_of dark)
unfolding le
none_below = record { shot = tt; read = tt }

dark-equal : NoneAbove (curve_of dark) (curve_of dark)
unfolding le
dark-equal = record { shot = tt; read = tt }

-- "every merged sample is 2" at the dark curve, so 2 lies inside where the noise is only known to be at most that
pub range-accepts : {low' high' : List ℕ} {work' : List ℤ} {number : ℕ} → Ranged shape 0 none dark full burst vectors (plain 9) low' (plain 9) high' work work' number →
    (number ≡ 0) × (work' ≡ replicate 8192 (pos 0)) × ((k : ℕ) → k < 4096 → (get_or low' k 0 ≤ get_or (plain 2) k 0) × (get_or (plain 2) k 0 ≤ get_or high' k 0))
range-accepts {low'} {high'} c =
    let z = c.answer ∙ range-number none none_passes in (
      z,
      cleared (range-number none none_passes) c.clean,
      λ k h. subst (λ l. (get_or low' k 0 ≤ get_or l k 0) × (get_or l k 0 ≤ get_or high' k 0)) (frame-2 vectors) (c.inside z (curve_of dark) none_below dark-equal k h),
    )

-- and both frames are of 2 where it is known
pub range_same : {low' high' : List ℕ} {work' : List ℤ} {number : ℕ} → Ranged shape 0 dark dark full burst vectors (plain 9) low' (plain 9) high' work work' number → (low' ≡ plain 2) × (high' ≡ plain 2)
range_same c =
    let both = c.same (c.answer ∙ range-number dark dark-passes) dark-equal dark-equal in
    (both.0 ∙ frame-2 vectors, both.1 ∙ frame-2 vectors)

-- The tests of the call of request L14, "merge's tests" with two outputs and two noises, "for side 16 without the spatial filter".
use Rattle.std.specs.Prelude.{◌∷◌, ◌++◌}
use Rattle.algebra.specs.Prelude.{not, List, [], ℕ, eqb, length, ltb, ℤ}
use Rattle.refusals.specs.Numbers as no
use Rattle.refusals.specs.Tests.{refuse, first}
use Rattle.geometry.specs.declared.Shape.{Shape}
use Rattle.geometry.specs.Shape.{reference_refusal, row_refusal, sample_length, vector_length, output_length, work_length, length_refusal}
use Rattle.admit_length.specs.Order.{shape_tests}
use Rattle.admit_value.specs.Bounds.{sample_refusal, vector_refusal}
use Rattle.noise.specs.declared.Noise.{Noise}
use Rattle.noise.specs.Levels.{strength_refusal, black_refusal}
use Rattle.recipe.specs.declared.Tuning.{Tuning}
use Rattle.range.specs.Crossed.{range_noise_tests}

-- "Side 32 is here refusal 22", and so is any other than 16
unfoldable pub narrow_refusal : Shape → ℕ
narrow_refusal s = refuse no.side (not (eqb s.side 16))

-- 1 to 3, and 22
unfoldable pub range_frame_tests : Shape → (reference : ℕ) → List ℕ
range_frame_tests s reference = shape_tests s ++ reference_refusal s reference ∷ narrow_refusal s ∷ []

-- 1 to 7, 22 and 23: "Both output buffers have length W·H, else 6"
unfoldable pub range_shape_tests : Shape → (reference samples vectors low high work : ℕ) → List ℕ
range_shape_tests s reference samples vectors low high work =
    range_frame_tests s reference
    ++ (row_refusal s
    ∷ length_refusal no.wrong_sample_length (sample_length s) samples
    ∷ length_refusal no.wrong_vector_length (vector_length s) vectors
    ∷ length_refusal no.wrong_output_length (output_length s) low
    ∷ length_refusal no.wrong_output_length (output_length s) high
    ∷ length_refusal no.wrong_work_length (work_length s) work
    ∷ [])

-- "s not 0 refusal 24"
unfoldable pub filter_refusal : ℕ → ℕ
filter_refusal s = refuse no.spatial_strength (ltb 0 s)

-- 10, 18, 24 and 11
unfoldable pub range_content_tests : Shape → Tuning → (samples : List ℕ) → List ℕ
range_content_tests s tuning samples = strength_refusal tuning.strength ∷ black_refusal tuning.black ∷ filter_refusal tuning.spatial ∷ sample_refusal s samples ∷ []

-- all of them, in their order
unfoldable pub range_refusal : Shape → (reference : ℕ) → (lower upper : Noise) → Tuning → (samples : List ℕ) (vectors : List ℤ) (low high : List ℕ) (work : List ℤ) → ℕ
range_refusal s reference lower upper tuning samples vectors low high work =
    first
    (range_shape_tests s reference (length samples) (length vectors) (length low) (length high) (length work)
    ++ (range_noise_tests lower upper ++ (range_content_tests s tuning samples ++ vector_refusal vectors ∷ [])))

-- The tests of each call, "in the order of the numbers".
use Rattle.std.specs.Prelude.{◌&&◌, ◌∷◌, ◌++◌}
use Rattle.admit_call.specs.Prelude.{List, [], ℕ, eqb, ltb, length, ℤ, refuse, first, Shape, sample_refusal, vector_refusal, Noise, levels_of, noise_tests, shot_level, read_level, strength_refusal, black_refusal, spatial_refusal, Tuning}
use Rattle.refusals.specs.Numbers as no
use Rattle.admit_length.specs.Order.{align_shape_tests, merge_shape_tests}
use Rattle.recipe.specs.declared.Merge.{Merge}

-- "Align tests 1 to 5, 7, 11"
unfoldable pub align_refusal : Shape → (reference : ℕ) → (samples : List ℕ) (vectors work : List ℤ) → ℕ
align_refusal s reference samples vectors work =
    first (align_shape_tests s reference (length samples) (length vectors) (length work) ++ sample_refusal s samples ∷ [])

-- refusal 25, "s not 0 with side 32" (request L13)
unfoldable pub filter_side_refusal : (side s : ℕ) → ℕ
filter_side_refusal side s = refuse no.filtered_side (eqb side 32 && ltb 0 s)

-- 10, "18, a black level above 255, tested after 10" (request L3), "24, s above 256" (request L13) after both, 25, and 11
unfoldable pub content_tests : Shape → Tuning → (samples : List ℕ) → List ℕ
content_tests s tuning samples = strength_refusal tuning.strength ∷ black_refusal tuning.black ∷ spatial_refusal tuning.spatial ∷ filter_side_refusal s.side tuning.spatial ∷ sample_refusal s samples ∷ []

-- 8 and 9 with them: the tests behind those of shape and lengths
abbrev pub value_tests : Shape → Noise → Tuning → (samples : List ℕ) → List ℕ
value_tests s noise tuning samples = noise_tests noise ++ content_tests s tuning samples

-- "run 1 to 11", and 18 and 22 to 25 among them
unfoldable pub run_tests : Shape → (reference : ℕ) → Noise → Tuning → (samples : List ℕ) (vectors : List ℤ) (output : List ℕ) (work : List ℤ) → List ℕ
run_tests s reference noise tuning samples vectors output work =
    merge_shape_tests s reference (length samples) (length vectors) (length output) (length work) ++ value_tests s noise tuning samples

abbrev pub run_refusal : Shape → (reference : ℕ) → Noise → Tuning → (samples : List ℕ) (vectors : List ℤ) (output : List ℕ) (work : List ℤ) → ℕ
run_refusal s reference noise tuning samples vectors output work = first (run_tests s reference noise tuning samples vectors output work)

-- "merge 1 to 12"
unfoldable pub merge_refusal : Shape → (reference : ℕ) → Noise → Tuning → (samples : List ℕ) (vectors : List ℤ) (output : List ℕ) (work : List ℤ) → ℕ
merge_refusal s reference noise tuning samples vectors output work =
    first (run_tests s reference noise tuning samples vectors output work ++ vector_refusal vectors ∷ [])

-- what a merge takes, with the levels Ls and Lr of the noise
abbrev pub merge_of : Shape → (reference : ℕ) → Noise → Tuning → Merge
merge_of s reference noise tuning =
    record {
      shape = s;
      reference = reference;
      shot = shot_level (levels_of noise);
      read = read_level (levels_of noise);
      tuning = tuning;
    }

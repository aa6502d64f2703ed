-- What a call's tests let through: each fact is that of one test, found in the list wherever it stands.
use Rattle.std.specs.Prelude.{◌≡◌}
use Rattle.stacker.specs.Prelude.{List, ℕ, length, ℤ, Shape, align_shape_tests, merge_shape_tests, Noise, noise_tests, Tuning, align_refusal, content_tests, run_tests, run_refusal, merge_refusal, merge_of}
use Rattle.refusals.specs.TestLaws.{among, passed, both-passed}
use Rattle.admit_length.specs.OrderLaws.{align_fits, merge-fits}
use Rattle.admit_value.specs.Bounds.{vector_refusal}
use Rattle.admit_value.specs.BoundLaws.{samples_fit}
use Rattle.noise.specs.LevelLaws.{shot-level-bound, read-level-bound, strength_most, spatial-most}
use Rattle.align_burst.specs.Burst.{Ready}
use Rattle.pipeline.specs.Levels.{Runnable}
use Rattle.admit_call.specs.FilterLaws.{unfiltered}

module _ (s : Shape) (reference : ℕ) (samples : List ℕ) (vectors : List ℤ) where
  pub align-passed : (work : List ℤ) → align_refusal s reference samples vectors work ≡ 0 → Ready s reference samples vectors work
  unfolding align_refusal
  align-passed work e =
      let both = both-passed (align_shape_tests s reference (length samples) (length vectors) (length work)) _ e in
      let fits = align_fits s reference (length samples) (length vectors) (length work) both.0 in
      record { fits = fits; samples_fit = samples_fit s samples (passed both.1 (search among)) }

  module _ (noise : Noise) (tuning : Tuning) (output : List ℕ) (work : List ℤ) where
    pub run-passed : run_refusal s reference noise tuning samples vectors output work ≡ 0 → Runnable (merge_of s reference noise tuning) samples vectors output work
    unfolding run_tests content_tests
    run-passed e =
        let both = both-passed (merge_shape_tests s reference (length samples) (length vectors) (length output) (length work)) _ e in
        let content = (both-passed (noise_tests noise) (content_tests s tuning samples) both.1).1 in
        let fits = merge-fits s reference (length samples) (length vectors) (length output) (length work) both.0 in
        record {
          fits = fits;
          samples_fit = samples_fit s samples (passed content (search among));
          shot_most = shot-level-bound noise;
          read_most = read-level-bound noise;
          strength_most = strength_most tuning.strength (passed content (search among));
          spatial-most = spatial-most tuning.spatial (passed content (search among));
          unfiltered = unfiltered s.side tuning.spatial (passed content (search among));
        }

    -- 12 comes last
    pub merge-passed : merge_refusal s reference noise tuning samples vectors output work ≡ 0 →
        (run_refusal s reference noise tuning samples vectors output work ≡ 0) × (vector_refusal vectors ≡ 0)
    unfolding merge_refusal
    merge-passed e =
        let both = both-passed (run_tests s reference noise tuning samples vectors output work) _ e in
        (both.0, passed both.1 (search among))

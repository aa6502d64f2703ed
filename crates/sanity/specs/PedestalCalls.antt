-- Black levels at the calls: with all four 0, numbers and outputs are those without black levels; and of two accepted calls that differ in black levels alone, the outputs
-- agree on each plane that has kept its own.
use Rattle.std.specs.Prelude.{◌≡◌, ◌∷◌, ◌++◌, ◌*◌, ◌/◌, ◌%◌, ◌<◌}
use Rattle.algebra.specs.Prelude.{refl, sym, ap, ◌∙◌, List, [], ℕ, zero, suc, length, get_or, ℤ}
use Rattle.sanity.specs.Prelude.{Shape, ◌before◌, first, Noise, aligned_vectors, Tuning, scene_of, black_of, scene_at, Alignment, content_tests, run_tests, run_refusal, merge_refusal, merge_of, filter_side_refusal, Merged, Ran}
use Rattle.admit_length.specs.Order.{merge_shape_tests}
use Rattle.admit_value.specs.Bounds.{sample_refusal, vector_refusal}
use Rattle.refusals.specs.Some.{some}
use Rattle.noise.specs.Levels.{noise_tests, strength_refusal, black_refusal, spatial_refusal}
use Rattle.sanity.specs.Pedestal.{zero_black, zero-black, plain_merged, plain-merged, word-stays}
use Rattle.sanity.specs.AcceptedLaws.{merge-accepted, run-accepted}

first-append : (tests others : List ℕ) → first (tests ++ others) ≡ first tests before first others
unfolding first
first-append [] others = refl
first-append (zero ∷ tests) others = first-append tests others
first-append (suc n ∷ tests) others = refl

module _ (s : Shape) (reference : ℕ) (noise : Noise) (tuning : Tuning) (samples : List ℕ) (vectors : List ℤ) (output : List ℕ) (work : List ℤ) where
  -- tests 1 to 11, without 18
  unfoldable pub plain_tests : List ℕ
  plain_tests =
      merge_shape_tests s reference (length samples) (length vectors) (length output) (length work)
      ++ (noise_tests noise ++ strength_refusal tuning.strength ∷ spatial_refusal tuning.spatial ∷ filter_side_refusal s.side tuning.spatial ∷ sample_refusal s samples ∷ [])

  module _ (none : tuning.black ≡ zero_black) where
    content-plain : first (content_tests s tuning samples) ≡ first (strength_refusal tuning.strength ∷ spatial_refusal tuning.spatial ∷ filter_side_refusal s.side tuning.spatial ∷ sample_refusal s samples ∷ [])
    unfolding content_tests first black_refusal some
    content-plain = ap (λ black. first (strength_refusal tuning.strength ∷ black_refusal black ∷ spatial_refusal tuning.spatial ∷ filter_side_refusal s.side tuning.spatial ∷ sample_refusal s samples ∷ [])) none

    pub run-number-plain : run_refusal s reference noise tuning samples vectors output work ≡ first plain_tests
    unfolding run_tests plain_tests
    run-number-plain =
        let shape = merge_shape_tests s reference (length samples) (length vectors) (length output) (length work) in
        first-append shape _
        ∙ ap (λ n. first shape before n) (first-append (noise_tests noise) _ ∙ ap (λ n. first (noise_tests noise) before n) content-plain ∙ sym (first-append (noise_tests noise) _))
        ∙ sym (first-append shape _)

    pub merge-number-plain : merge_refusal s reference noise tuning samples vectors output work ≡ first (plain_tests ++ vector_refusal vectors ∷ [])
    unfolding merge_refusal
    merge-number-plain =
        first-append (run_tests s reference noise tuning samples vectors output work) _
        ∙ ap (λ n. n before first (vector_refusal vectors ∷ [])) run-number-plain
        ∙ sym (first-append plain_tests _)

module _ {s : Shape} {reference : ℕ} {noise : Noise} {tuning : Tuning} {samples : List ℕ} {vectors work work' : List ℤ} {output output' : List ℕ} where
  pub merge-plain : {number : ℕ} → Merged s reference noise tuning samples vectors output output' work work' number → number ≡ 0 →
      tuning.black ≡ zero_black → tuning.spatial ≡ 0 → output' ≡ plain_merged (scene_of (merge_of s reference noise tuning) samples vectors)
  unfolding scene_at
  merge-plain call accepted none off = (merge-accepted call accepted).1 ∙ plain-merged (scene_of (merge_of s reference noise tuning) samples vectors) (zero-black tuning none) off

  pub run-plain : {vectors' : List ℤ} {r : Alignment} → Ran s reference noise tuning samples vectors vectors' output output' work work' r → r.refusal ≡ 0 →
      tuning.black ≡ zero_black → tuning.spatial ≡ 0 → output' ≡ plain_merged (scene_of (merge_of s reference noise tuning) samples (aligned_vectors s reference samples))
  unfolding scene_at
  run-plain call accepted none off = (run-accepted call accepted).1 ∙ plain-merged (scene_of (merge_of s reference noise tuning) samples (aligned_vectors s reference samples)) (zero-black tuning none) off

  -- another accepted call of merge, with other black levels
  pub merge-planes-apart : {black : List ℕ} {number number₂ : ℕ} {output₂ output₂' : List ℕ} {work₂ work₂' : List ℤ} →
      Merged s reference noise tuning samples vectors output output' work work' number → number ≡ 0 →
      Merged s reference noise (record { strength = tuning.strength; black = black; spatial = tuning.spatial }) samples vectors output₂ output₂' work₂ work₂' number₂ → number₂ ≡ 0 →
      (k : ℕ) → k < s.width * s.height →
      black_of (record { strength = tuning.strength; black = black; spatial = tuning.spatial }) (k / s.width % 2) (k % s.width % 2) ≡ black_of tuning (k / s.width % 2) (k % s.width % 2) →
      get_or output₂' k 0 ≡ get_or output' k 0
  merge-planes-apart {black} call accepted call₂ accepted₂ k h same =
      ap (λ l. get_or l k 0) (merge-accepted call₂ accepted₂).1
      ∙ word-stays (merge_of s reference noise tuning) black samples vectors k h same
      ∙ sym (ap (λ l. get_or l k 0) (merge-accepted call accepted).1)

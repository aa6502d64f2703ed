-- What a call that has accepted leaves: its burst has passed the tests, and the buffers hold what the definitions say.
use Rattle.std.specs.Prelude.{◌≡◌}
use Rattle.algebra.specs.Prelude.{sym, ap, ◌∙◌, List, ℕ, length, ℤ}
use Rattle.sanity.specs.Prelude.{Shape, vector_length, BurstFits, SamplesFit, TileSide, Noise, aligned_vectors, residual_sums, rows_summed, Merge, scene_of, merged, Alignment, Tuning, align_refusal, run_refusal, merge_refusal, merge_of, no_sums, answered, Aligned, Merged, Ran}
use Rattle.refusals.specs.AfterLaws.{result-made}
use Rattle.align_burst.specs.Burst.{Ready}
use Rattle.pipeline.specs.Levels.{Runnable}
use Rattle.stacker.specs.AdmissionLaws.{align-passed, run-passed, merge-passed}
use Rattle.sanity.specs.Frames.{Burst}

-- the burst, and the length of the lent vectors
pub record Lent (s : Shape) (reference : ℕ) (samples : List ℕ) (vectors : List ℤ) : Type 0 where
  pub burst : Burst s reference samples
  pub long : length vectors ≡ vector_length s

-- what alignment has found
pub record Found (s : Shape) (reference : ℕ) (samples : List ℕ) (vectors vectors' : List ℤ) (r : Alignment) : Type 0 where
  pub lent : Lent s reference samples vectors
  pub vectors_are : vectors' ≡ aligned_vectors s reference samples
  pub sums_are : r.residuals ≡ residual_sums s reference samples
  pub rows_are : r.rows ≡ rows_summed s reference samples

-- the fields of an answer
number_is : {r : Alignment} (number : ℕ) (sums : List ℕ) (rows : ℕ) → r ≡ answered number sums rows → r.refusal ≡ 0 → number ≡ 0
unfolding answered
number_is number sums rows e accepted = sym (ap (λ a. a.refusal) e) ∙ accepted

residuals_are : {r : Alignment} (number : ℕ) (sums : List ℕ) (rows : ℕ) → r ≡ answered number sums rows → number ≡ 0 → r.residuals ≡ sums
unfolding answered
residuals_are number sums rows e z = result-made number no_sums sums z (ap (λ a. a.residuals) e)

rows-by : {r : Alignment} (number : ℕ) (sums : List ℕ) (rows : ℕ) → r ≡ answered number sums rows → number ≡ 0 → r.rows ≡ rows
unfolding answered
rows-by number sums rows e z = result-made number 0 rows z (ap (λ a. a.rows) e)

module _ {s : Shape} {reference : ℕ} {samples : List ℕ} {vectors : List ℤ} where
  lent_by : BurstFits s reference (length samples) (length vectors) → SamplesFit s samples → Lent s reference samples vectors
  lent_by fits small =
      record { burst = record { sampled = record { allowed = fits.allowed; long = fits.samples_long }; below = fits.reference_below; fit = small }; long = fits.vectors_long }

  align-lent : {work : List ℤ} → Ready s reference samples vectors work → Lent s reference samples vectors
  align-lent ready = lent_by ready.fits.burst ready.samples_fit

run_lent : {m : Merge} {samples : List ℕ} {vectors : List ℤ} {output : List ℕ} {work : List ℤ} → Runnable m samples vectors output work → Lent m.shape m.reference samples vectors
run_lent ready = lent_by ready.fits.burst ready.samples_fit

module _ {s : Shape} {reference : ℕ} {samples : List ℕ} {vectors work work' : List ℤ} where
  pub align-accepted : {vectors' : List ℤ} {r : Alignment} → Aligned s reference samples vectors vectors' work work' r → r.refusal ≡ 0 → Found s reference samples vectors vectors' r
  align-accepted call accepted =
      let number = align_refusal s reference samples vectors work in
      let passed = number_is number _ _ call.answer accepted in
      record {
        lent = align-lent (align-passed s reference samples vectors work passed);
        vectors_are = result-made number vectors _ passed call.found;
        sums_are = residuals_are number _ _ call.answer passed;
        rows_are = rows-by number _ _ call.answer passed;
      }

  module _ {noise : Noise} {tuning : Tuning} {output output' : List ℕ} where
    pub merge-accepted : {number : ℕ} → Merged s reference noise tuning samples vectors output output' work work' number → number ≡ 0 →
        Lent s reference samples vectors × (output' ≡ merged (scene_of (merge_of s reference noise tuning) samples vectors))
    merge-accepted call accepted =
        let number = merge_refusal s reference noise tuning samples vectors output work in
        let passed : number ≡ 0 = sym call.answer ∙ accepted in (
          run_lent (run-passed s reference samples vectors noise tuning output work (merge-passed s reference samples vectors noise tuning output work passed).0),
          result-made number output _ passed call.result,
        )

    pub run-sided : {vectors' : List ℤ} {r : Alignment} → Ran s reference noise tuning samples vectors vectors' output output' work work' r → r.refusal ≡ 0 → TileSide s.side
    run-sided call accepted =
        (run-passed s reference samples vectors noise tuning output work (number_is (run_refusal s reference noise tuning samples vectors output work) _ _ call.answer accepted)).fits.burst.sided

    pub run-accepted : {vectors' : List ℤ} {r : Alignment} → Ran s reference noise tuning samples vectors vectors' output output' work work' r → r.refusal ≡ 0 →
        Found s reference samples vectors vectors' r × (output' ≡ merged (scene_of (merge_of s reference noise tuning) samples (aligned_vectors s reference samples)))
    run-accepted call accepted =
        let first = run_refusal s reference noise tuning samples vectors output work in
        let passed = number_is first _ _ call.answer accepted in (
          record {
            lent = run_lent (run-passed s reference samples vectors noise tuning output work passed);
            vectors_are = result-made first vectors _ passed call.found;
            sums_are = residuals_are first _ _ call.answer passed;
            rows_are = rows-by first _ _ call.answer passed;
          },
          result-made first output _ passed call.result,
        )

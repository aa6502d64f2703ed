-- A call that its tests 1 to 7, 22 and 23 let through has an allowed shape and side, a reference and buffers of the right lengths.
use Rattle.std.specs.Prelude.{◌≡◌}
use Rattle.admit_length.specs.Prelude.{ℕ, first, Shape, sample_length, vector_length, output_length, work_length, Allowed, TileSide, AlignFits, MergeFits}
use Rattle.refusals.specs.Numbers as no
use Rattle.refusals.specs.TestLaws.{among, passed}
use Rattle.admit_length.specs.Order.{shape_tests, frame_tests, burst_tests, align_lengths, merge_lengths, align_shape_tests, merge_shape_tests}
use Rattle.admit_length.specs.Question.{question_tests}
use Rattle.geometry.specs.ShapeLaws.{allowed, allowed-side, below-count, right-length}

pub question-allowed : (s : Shape) → first (question_tests s) ≡ 0 → (Allowed s) × (TileSide s.side)
unfolding shape_tests question_tests
question-allowed s e =
    (allowed s (passed e (search among depth 20)) (passed e (search among depth 20)) (passed e (search among depth 20)), allowed-side s (passed e (search among depth 20)))

module _ (s : Shape) (reference : ℕ) where
  pub frames-allowed : first (frame_tests s reference) ≡ 0 → Allowed s
  unfolding shape_tests frame_tests
  frames-allowed e = allowed s (passed e (search among depth 20)) (passed e (search among depth 20)) (passed e (search among depth 20))

  pub burst-allowed : first (burst_tests s reference) ≡ 0 → (Allowed s) × (TileSide s.side)
  unfolding shape_tests burst_tests
  burst-allowed e =
      (allowed s (passed e (search among depth 20)) (passed e (search among depth 20)) (passed e (search among depth 20)), allowed-side s (passed e (search among depth 20)))

  module _ (samples vectors : ℕ) where
    pub align_fits : (work : ℕ) → first (align_shape_tests s reference samples vectors work) ≡ 0 → AlignFits s reference samples vectors work
    unfolding shape_tests burst_tests align_lengths align_shape_tests
    align_fits work e =
        record {
          burst = record {
            allowed = allowed s (passed e (search among depth 20)) (passed e (search among depth 20)) (passed e (search among depth 20));
            sided = allowed-side s (passed e (search among depth 20));
            reference_below = below-count s reference (passed e (search among depth 20));
            samples_long = right-length no.wrong_sample_length (sample_length s) samples tt (passed e (search among depth 20));
            vectors_long = right-length no.wrong_vector_length (vector_length s) vectors tt (passed e (search among depth 20));
          };
          work_long = right-length no.wrong_work_length (work_length s) work tt (passed e (search among depth 20));
        }

    pub merge-fits : (output work : ℕ) → first (merge_shape_tests s reference samples vectors output work) ≡ 0 → MergeFits s reference samples vectors output work
    unfolding shape_tests burst_tests merge_lengths merge_shape_tests
    merge-fits output work e =
        record {
          burst = record {
            allowed = allowed s (passed e (search among depth 20)) (passed e (search among depth 20)) (passed e (search among depth 20));
            sided = allowed-side s (passed e (search among depth 20));
            reference_below = below-count s reference (passed e (search among depth 20));
            samples_long = right-length no.wrong_sample_length (sample_length s) samples tt (passed e (search among depth 20));
            vectors_long = right-length no.wrong_vector_length (vector_length s) vectors tt (passed e (search among depth 20));
          };
          output_long = right-length no.wrong_output_length (output_length s) output tt (passed e (search among depth 20));
          work_long = right-length no.wrong_work_length (work_length s) work tt (passed e (search among depth 20));
        }

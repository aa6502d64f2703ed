-- What these tests let through.
use Rattle.std.specs.Prelude.{◌≡◌}
use Rattle.admit_length.specs.Prelude.{ℕ, first, Shape, sample_length, vector_length, work_length, AlignFits}
use Rattle.refusals.specs.Numbers as no
use Rattle.refusals.specs.TestLaws.{among, passed}
use Rattle.geometry.specs.ShapeLaws.{allowed, allowed-side, below-count, right-length}
use Rattle.admit_length.specs.Order.{shape_tests, burst_tests}
use Rattle.admit_length.specs.Residuals.{residual_length, residual_lengths, residual_shape_tests}

module _ (s : Shape) (reference samples vectors residuals work : ℕ) (e : first (residual_shape_tests s reference samples vectors residuals work) ≡ 0) where
  pub residual-fits : AlignFits s reference samples vectors work
  unfolding shape_tests burst_tests residual_lengths residual_shape_tests
  residual-fits =
      record {
        burst = record {
          allowed = allowed s (passed e (search among depth 20)) (passed e (search among depth 20)) (passed e (search among depth 20));
          sided = allowed-side s (passed e (search among depth 20));
          reference_below = below-count s reference (passed e (search among depth 20));
          samples_long = right-length no.wrong_sample_length (sample_length s) samples tt (passed e (search among depth 20));
          vectors_long = right-length no.wrong_vector_length (vector_length s) vectors tt (passed e (search among depth 20));
        };
        work_long = right-length no.wrong_work_length (work_length s) work tt (passed e (search among depth 20));
      }

  pub residuals_long : residuals ≡ residual_length s
  unfolding shape_tests burst_tests residual_lengths residual_shape_tests
  residuals_long = right-length no.wrong_output_length (residual_length s) residuals tt (passed e (search among depth 20))

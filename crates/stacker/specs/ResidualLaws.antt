-- What that call's tests let through.
use Rattle.std.specs.Prelude.{◌≡◌}
use Rattle.stacker.specs.Prelude.{List, ℕ, length, ℤ, Shape}
use Rattle.refusals.specs.TestLaws.{among, passed, both-passed}
use Rattle.admit_length.specs.Residuals.{residual_shape_tests}
use Rattle.admit_length.specs.ResidualLaws.{residual-fits, residuals_long}
use Rattle.admit_value.specs.BoundLaws.{samples_fit, vectors_fit}
use Rattle.admit_call.specs.Residuals.{residual_refusal}
use Rattle.align_measure.specs.Frames.{Ready}

pub residual-passed : (s : Shape) (reference : ℕ) (samples : List ℕ) (vectors : List ℤ) (residuals : List ℕ) (work : List ℤ) → residual_refusal s reference samples vectors residuals work ≡ 0 → Ready s reference samples vectors residuals work
unfolding residual_refusal
residual-passed s reference samples vectors residuals work e =
    let both = both-passed (residual_shape_tests s reference (length samples) (length vectors) (length residuals) (length work)) _ e in
    record {
      fits = residual-fits s reference (length samples) (length vectors) (length residuals) (length work) both.0;
      samples_fit = samples_fit s samples (passed both.1 (search among));
      vectors_fit = vectors_fit vectors (passed both.1 (search among));
      residuals_long = residuals_long s reference (length samples) (length vectors) (length residuals) (length work) both.0;
    }

-- The tests of the call that answers each tile's residual, "in the order of the numbers": 1 to 7, 22, 23, 11 and 12.
use Rattle.std.specs.Prelude.{◌∷◌, ◌++◌}
use Rattle.admit_call.specs.Prelude.{List, [], ℕ, length, ℤ, first, Shape, sample_refusal, vector_refusal}
use Rattle.admit_length.specs.Residuals.{residual_shape_tests}

unfoldable pub residual_refusal : Shape → (reference : ℕ) → (samples : List ℕ) (vectors : List ℤ) (residuals : List ℕ) (work : List ℤ) → ℕ
residual_refusal s reference samples vectors residuals work =
    first (residual_shape_tests s reference (length samples) (length vectors) (length residuals) (length work) ++ sample_refusal s samples ∷ vector_refusal vectors ∷ [])

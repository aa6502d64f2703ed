-- The tests of the call for a band of the merged frame: merge's, "in the order of the numbers", with 27 before 4.
use Rattle.std.specs.Prelude.{◌∷◌, ◌++◌}
use Rattle.admit_call.specs.Prelude.{List, [], ℕ, length, ℤ, first, Shape, vector_refusal, Noise, Tuning}
use Rattle.admit_length.specs.Bands.{band_shape_tests}
use Rattle.admit_call.specs.Refusals.{value_tests}

unfoldable pub band_refusal : Shape → (reference : ℕ) → Noise → Tuning → (top rows : ℕ) (samples : List ℕ) (vectors : List ℤ) (output : List ℕ) (work : List ℤ) → ℕ
band_refusal s reference noise tuning top rows samples vectors output work =
    first
    (band_shape_tests s reference top rows (length samples) (length vectors) (length output) (length work)
    ++ (value_tests s noise tuning samples ++ vector_refusal vectors ∷ []))

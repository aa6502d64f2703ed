-- The tests of the call that aligns one other frame: 1 to 3, 22, 23, 27, 4, 5, 7 and 11.
use Rattle.std.specs.Prelude.{◌∷◌, ◌++◌}
use Rattle.admit_call.specs.Prelude.{List, [], ℕ, length, ℤ, first, Shape, sample_refusal}
use Rattle.admit_length.specs.OneFrame.{align_frame_shape_tests}

unfoldable pub align_frame_refusal : Shape → (reference other : ℕ) → (samples : List ℕ) (vectors work : List ℤ) → ℕ
align_frame_refusal s reference other samples vectors work =
    first (align_frame_shape_tests s reference other (length samples) (length vectors) (length work) ++ sample_refusal s samples ∷ [])

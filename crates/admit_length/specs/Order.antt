-- The tests 1 to 7 of each call, "in the order of the numbers" with 22 "tested after 3" (request L8) and 23 "tested before 4" (request L9), on the shape, the reference and the lengths of the lent buffers.
use Rattle.std.specs.Prelude.{◌∷◌, ◌++◌}
use Rattle.admit_length.specs.Prelude.{List, [], ℕ, Shape, size_refusal, count_refusal, reference_refusal, side_refusal, row_refusal, sample_length, vector_length, output_length, work_length, length_refusal}
use Rattle.refusals.specs.Numbers as no

-- 1 and 2
unfoldable pub shape_tests : Shape → List ℕ
shape_tests s = size_refusal s ∷ count_refusal s ∷ []

-- 1 to 3, and 23: of frames that no tiles are laid on
unfoldable pub frame_tests : Shape → (reference : ℕ) → List ℕ
frame_tests s reference = shape_tests s ++ reference_refusal s reference ∷ row_refusal s ∷ []

-- 1 to 3, 22 and 23: "by every call that tests 5" (request L8)
unfoldable pub burst_tests : Shape → (reference : ℕ) → List ℕ
burst_tests s reference = shape_tests s ++ reference_refusal s reference ∷ side_refusal s ∷ row_refusal s ∷ []

-- 4, 5 and 7
unfoldable pub align_lengths : Shape → (samples vectors work : ℕ) → List ℕ
align_lengths s samples vectors work =
    length_refusal no.wrong_sample_length (sample_length s) samples
    ∷ length_refusal no.wrong_vector_length (vector_length s) vectors
    ∷ length_refusal no.wrong_work_length (work_length s) work
    ∷ []

-- 4 to 7
unfoldable pub merge_lengths : Shape → (samples vectors output work : ℕ) → List ℕ
merge_lengths s samples vectors output work =
    length_refusal no.wrong_sample_length (sample_length s) samples
    ∷ length_refusal no.wrong_vector_length (vector_length s) vectors
    ∷ length_refusal no.wrong_output_length (output_length s) output
    ∷ length_refusal no.wrong_work_length (work_length s) work
    ∷ []

-- "Align tests 1 to 5, 7"
unfoldable pub align_shape_tests : Shape → (reference samples vectors work : ℕ) → List ℕ
align_shape_tests s reference samples vectors work = burst_tests s reference ++ align_lengths s samples vectors work

-- "merge 1 to 12; run 1 to 11": 1 to 7 of them
unfoldable pub merge_shape_tests : Shape → (reference samples vectors output work : ℕ) → List ℕ
merge_shape_tests s reference samples vectors output work = burst_tests s reference ++ merge_lengths s samples vectors output work

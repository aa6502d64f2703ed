-- The tests 1 to 7 of the call for a band of the merged frame, as merge's, with 27 after 23, where 6 and 7 are of the band's lengths.
use Rattle.std.specs.Prelude.{◌&&◌, ◌∷◌, ◌++◌, ◌+◌, ◌*◌, ◌%◌}
use Rattle.admit_length.specs.Prelude.{Bool, not, cond, List, [], ℕ, eqb, leb, refuse, first, Shape, sample_length, vector_length, length_refusal}
use Rattle.refusals.specs.Numbers as no
use Rattle.admit_length.specs.Order.{burst_tests}
use Rattle.admit_length.specs.Question.{question_tests}

-- A band is rows `top` to top + rows − 1 of the frame. Tiles of a plane begin every half side, so every `side` rows of the frame: a band begins and ends
-- there, and has at least so many rows
unfoldable pub band_allowed : Shape → (top rows : ℕ) → Bool
band_allowed s top rows = eqb (top % s.side) 0 && eqb (rows % s.side) 0 && leb 1 rows && leb (top + rows) s.height

-- refusal 27: a band off the grid of tiles or outside the frame
unfoldable pub band_part_refusal : Shape → (top rows : ℕ) → ℕ
band_part_refusal s top rows = refuse no.absent_part (not (band_allowed s top rows))

-- "Output rows stay W long" (request L9)
unfoldable pub band_length : Shape → (rows : ℕ) → ℕ
band_length s rows = rows * s.width

-- two rows of pairs of tiles, each of 2·side words for each of the frame's columns
unfoldable pub band_work_length : Shape → ℕ
band_work_length s = 4 * s.side * s.width

-- 4 to 7
unfoldable pub band_lengths : Shape → (rows samples vectors output work : ℕ) → List ℕ
band_lengths s rows samples vectors output work =
    length_refusal no.wrong_sample_length (sample_length s) samples
    ∷ length_refusal no.wrong_vector_length (vector_length s) vectors
    ∷ length_refusal no.wrong_output_length (band_length s rows) output
    ∷ length_refusal no.wrong_work_length (band_work_length s) work
    ∷ []

-- 1 to 3, 22, 23, 27, and 4 to 7
unfoldable pub band_shape_tests : Shape → (reference top rows samples vectors output work : ℕ) → List ℕ
band_shape_tests s reference top rows samples vectors output work =
    burst_tests s reference ++ (band_part_refusal s top rows ∷ band_lengths s rows samples vectors output work)

-- the question for the work area's length: 0 where 1, 2, 22 or 23 would stand, as of the other lengths
unfoldable pub band_work_question : Shape → ℕ
band_work_question s = cond (eqb (first (question_tests s)) 0) (band_work_length s) 0
